use mathlib.Core.Logic.{inl, inr}
use Rattle.picture.proofs.measure.Goals as goal

pub measure_counted-requires : goal.measure_counted-requires
measure_counted-requires c = let p = c.requires in (p.0, p.1, inl (c.sized_by_ranks.ensures c.if-sized_by_ranks.true))

pub measure_counted-requires-then-stores_runs : goal.measure_counted-requires-then-stores_runs
measure_counted-requires-then-stores_runs c = let p = c.requires in (p.0, p.1, inr (c.stores_runs.ensures.0 c.if-stores_runs.true))
