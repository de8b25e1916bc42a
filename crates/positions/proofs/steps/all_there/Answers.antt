use Rattle.std.proofs.Common.{◌+◌, ◌*◌, ◌≤◌, length, sym, true≢false, arith, leb-true}
use Rattle.positions.proofs.steps.all_there.Goals as goal

pub returns : goal.returns
returns c e =
    let a = c.args in
    let l : a.v.start + 4 * (a.c.rank + a.n) + 4 ≤ length a.file.now = leb-true _ _ e in
    record { ranks = omega arith; long = omega arith }

pub returns-then-n-gt65536 : goal.returns-then-n-gt65536
returns-then-n-gt65536 c e = absurd (true≢false (sym e))

pub returns-then-end-gt4294967295 : goal.returns-then-end-gt4294967295
returns-then-end-gt4294967295 c e = absurd (true≢false (sym e))
