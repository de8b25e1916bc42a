use Rattle.std.proofs.Common.{le-ltb, lt-ltb}
use Rattle.wire.specs.Wire.{add32}
use Rattle.base_groups.specs.Steps.{base_of}
use Rattle.base_groups.proofs.steps.base_of.Goals as goal

pub returns-then-c-v : goal.returns-then-c-v
unfolding base_of
returns-then-c-v c = rw (lt-ltb _ _ c.if-c-v.true)

pub returns : goal.returns
unfolding base_of add32
returns c = rw (le-ltb _ _ c.if-c-v.false, c.load_u32.ensures.0)
