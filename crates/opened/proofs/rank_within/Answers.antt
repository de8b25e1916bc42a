use Rattle.format.specs.Answers.{rank_says}
use Rattle.opened.proofs.Openings.{rank-beyond, rank-through}
use Rattle.opened.proofs.rank_within.Goals as goal

pub returns-then-v-eq0 : goal.returns-then-v-eq0
returns-then-v-eq0 c =
    let a = c.args in
    rank-beyond a.file.now a.v a.p.0 c.if-v-eq0.true

pub returns : goal.returns
returns c =
    let a = c.args in
    rank-through a.file.now a.v a.p.0 (rank_says c.rank_in.result) c.if-v-eq0.false c.rank_in.ensures
