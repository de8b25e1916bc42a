use native.Mathlib.Omega.{arith}
use Rattle.wire.proofs.Laws.{size_none}
use Rattle.wire.proofs.entry_size.Goals as goal

pub returns-in_default : goal.returns-in_default
returns-in_default c = (size_none _ c.in_default.in_default-own.rest.0.1 c.in_default.in_default-own.rest.1, omega arith)
