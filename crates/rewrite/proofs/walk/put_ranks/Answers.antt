use Rattle.kinds.specs.Steps.{walked}
use Rattle.rewrite.specs.Walk.{along}
use Rattle.rewrite.proofs.walk.put_ranks.Goals as goal

pub copy_ranks-requires : goal.copy_ranks-requires
unfolding walked
copy_ranks-requires c =
    let p = c.requires in
    (p.1, c.copies.ensures c.if-copies.true, p.4, p.5, p.2, p.3)

pub returns-then-copies : goal.returns-then-copies
unfolding walked along
returns-then-copies c = let w = c.copy_ranks.ensures in (w.walk, w.bytes)

pub put_runs-requires : goal.put_runs-requires
put_runs-requires c =
    let p = c.requires in
    (p.1, c.stores_runs.ensures.0 c.if-stores_runs.true, c.stores_runs-then-stores_runs.ensures.0 c.if-stores_runs-2.true, p.2, p.3)
