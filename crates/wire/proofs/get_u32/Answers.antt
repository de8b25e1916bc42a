use native.Mathlib.Omega.{arith}
use Rattle.wire.proofs.Laws.{field-4}
use Rattle.wire.proofs.get_u32.Goals as goal

pub returns : goal.returns
returns c = rw field-4 (omega arith, omega arith)
