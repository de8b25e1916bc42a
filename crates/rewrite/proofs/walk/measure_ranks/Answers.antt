use Rattle.kinds.specs.Steps.{walked}
use Rattle.rewrite.specs.Walk.{along}
use Rattle.rewrite.proofs.walk.measure_ranks.Goals as goal

pub count_ranks-requires : goal.count_ranks-requires
unfolding walked
count_ranks-requires c =
    let p = c.requires in
    (p.1, c.copies_jumps.ensures c.if-copies_jumps.true, p.3, p.4, p.2)

pub returns-then-copies_jumps : goal.returns-then-copies_jumps
unfolding along
returns-then-copies_jumps c = c.count_ranks.ensures
