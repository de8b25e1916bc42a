use Rattle.std.proofs.Common.{◌+◌, ◌*◌, ◌≤◌, length, mul-le-mul_right, pos_of_ne-zero, arith, leb-true}
use Rattle.difference_rows.proofs.batch.all_there.Goals.{Else-end-gt4294967295}
use Rattle.difference_rows.proofs.batch.all_there.Goals as goal

-- the place of the last difference
most : (c : Else-end-gt4294967295) → let a = c.args in a.width * (a.rank + a.n) ≤ 2 * (a.rank + a.n)
most c = let a = c.args in mul-le-mul_right (a.rank + a.n) c.if-width-gt2.false

pub returns : goal.returns
returns c e =
    let a = c.args in
    let l : a.second + a.width * (a.rank + a.n) + a.width ≤ length a.file.now = leb-true _ _ e in
    let h = c.if-end-gt4294967295.false in
    record { narrow = pos_of_ne-zero c.if-width-eq0.false; wide = c.if-width-gt2.false; inside = l; rank = omega arith }

pub overflow_mul-result : goal.overflow_mul-result
overflow_mul-result c = let m = most c in omega arith

pub overflow_add-result : goal.overflow_add-result
overflow_add-result c = let m = most c in omega arith

pub overflow_add-result-2 : goal.overflow_add-result-2
overflow_add-result-2 c = let m = most c in omega arith
