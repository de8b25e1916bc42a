-- `line_length` meets its contract. Assumes nothing.
use native.Mathlib.Omega.{arith}
use Rattle.text.proofs.Placing.{length-line}
use Rattle.text.proofs.line_length.Goals as goal

-- `line_length` meets its contract. Assumes nothing.
pub returns : goal.returns
returns c =
    let a = c.args in
    let x = c.digit_count.ensures.0 in
    let y = c.digit_count-2.ensures.0 in
    let z = c.digit_count-3.ensures.0 in
    rw (length-line a.a a.b a.c) (omega arith)
