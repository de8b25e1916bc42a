use Rattle.std.proofs.Common.{sym, arith}
use Rattle.laws.proofs.Entries.{fitting, jump_is_zero}
use Rattle.difference_rows.proofs.put.stored_difference.Goals as goal

pub returns-then-d-limit : goal.returns-then-d-limit
returns-then-d-limit c = let a = c.args in sym (fitting a.width a.x a.y (omega arith))

pub returns-else-d-limit : goal.returns-else-d-limit
returns-else-d-limit c = let a = c.args in sym (jump_is_zero a.width a.x a.y (omega arith))
