use native.Mathlib.Omega.{arith}
use Rattle.wire.proofs.Laws.{field-1}
use Rattle.wire.proofs.get_u8.Goals as goal

pub returns : goal.returns
returns c = rw field-1 (omega arith, omega arith)
