use Rattle.std.proofs.Common.{le-ltb, lt-ltb}
use Rattle.page_walk.specs.Steps.{page_of}
use Rattle.page_walk.proofs.steps.page_of.Goals as goal

pub returns-then-c-step : goal.returns-then-c-step
unfolding page_of
returns-then-c-step c = rw (lt-ltb _ _ c.if-c-step.true)

pub returns : goal.returns
unfolding page_of
returns c = rw (le-ltb _ _ c.if-c-step.false, c.saturating_sub.ensures)
