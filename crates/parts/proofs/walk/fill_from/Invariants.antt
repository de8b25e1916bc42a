use Rattle.std.proofs.Common.{◌≡◌}
use Rattle.wire.specs.Wire.{add32}
use Rattle.parts.specs.Stretch.{Filled}
use Rattle.parts.proofs.walk.fill_from.Given as goal

abbrev pub invariant-loop-x : goal.invariant-loop-x
invariant-loop-x l = (l.q ≡ add32 l.p l.x-index) × Filled l.p 0 l.x-index l.initial.x-items l.x-items
