use Rattle.std.proofs.Common.{◌+◌, ◌*◌, ◌≤◌, length, sym, true≢false, arith, rules, leb-true}
use Rattle.offsets.proofs.Widths.{entries_fit}
use Rattle.offsets.proofs.sums.all_there.Goals.{After-entry_size-size}
use Rattle.offsets.proofs.sums.all_there.Goals as goal

-- the bytes of the ranks before the end fit
small : (c : After-entry_size-size) → let a = c.args in c.entry_size-size.result * (a.rank + a.n) ≤ 2 * 4294967295
small c =
    let a = c.args in
    let h = c.if-end-gt4294967295.false in
    entries_fit c.entry_size-size.result (a.rank + a.n) c.entry_size-size.ensures.1 (omega arith)

pub overflow_mul-result : goal.overflow_mul-result
overflow_mul-result c = let m = small (goal.at.overflow_mul-result c).After-entry_size-size in search rules

pub overflow_add-result : goal.overflow_add-result
overflow_add-result c = let m = small (goal.at.overflow_add-result c).After-entry_size-size in search rules

pub returns : goal.returns
returns c e =
    let a = c.args in
    let z = c.entry_size-size.ensures.0 in
    let n : 1 ≤ c.entry_size-size.result = let f = c.if-size-eq0.false in omega arith in
    let l : a.second + c.entry_size-size.result * (a.rank + a.n) ≤ length a.file.now = leb-true _ _ e in
    let h = c.if-end-gt4294967295.false in
    record { size = rw z at n; ranks = omega arith; long = rw z at l }

pub returns-then-n-gt65536 : goal.returns-then-n-gt65536
returns-then-n-gt65536 c e = absurd (true≢false (sym e))

pub returns-then-end-gt4294967295 : goal.returns-then-end-gt4294967295
returns-then-end-gt4294967295 c e = absurd (true≢false (sym e))

pub returns-then-size-eq0 : goal.returns-then-size-eq0
returns-then-size-eq0 c e = absurd (true≢false (sym e))
