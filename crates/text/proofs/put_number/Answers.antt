-- `put_number` meets its contract. Assumes nothing.
use mathlib.Core.List.{[], ◌∷◌}
use native.Mathlib.Omega.{arith}
use Rattle.format.specs.Lister.{decimal}
use Rattle.text.proofs.Placing.{room-first, room-then, number_put}
use borrow.Author.Rules.{rules}
use Rattle.text.proofs.put_number.Goals as goal

-- `put_number` meets its contract. Assumes nothing.
pub put_decimal-end-requires : goal.put_decimal-end-requires
put_decimal-end-requires c =
    room-first (decimal c.args.n) (c.args.after ∷ []) c.args.dst.now c.args.at c.requires

pub bounds-dst-end : goal.bounds-dst-end
bounds-dst-end c =
    let k = room-then (decimal c.args.n) (c.args.after ∷ []) c.args.dst.now _ c.args.at _ c.requires c.put_decimal-end.ensures in
    omega arith

pub overflow_add-result : goal.overflow_add-result
overflow_add-result c = let h = bounds-dst-end c in search rules

pub returns : goal.returns
returns c =
    let a = c.args in
    number_put a.n a.after a.dst.now _ a.at _ c.put_decimal-end.ensures
