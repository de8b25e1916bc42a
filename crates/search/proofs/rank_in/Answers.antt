use Rattle.search.proofs.Places.{rank-past, rank-place}
use Rattle.search.proofs.rank_in.Goals as goal

pub returns-then-v-p : goal.returns-then-v-p
returns-then-v-p c = rank-past _ _ _ c.if-v-p.true

pub returns : goal.returns
returns c =
    let f = c.find in
    rw c.rank_answer.ensures (rank-place _ _ _ f.result c.if-v-p.false f.ensures)
