use native.Mathlib.Omega.{arith}
use Rattle.wire.proofs.Laws.{field-2}
use Rattle.wire.proofs.get_u16.Goals as goal

pub returns : goal.returns
returns c = rw field-2 (omega arith, omega arith)
