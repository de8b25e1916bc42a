use native.Mathlib.Omega.{arith}
use Rattle.row_seek.proofs.resume.empty_ahead.Goals as goal

pub overflow_sub-ahead : goal.overflow_sub-ahead
overflow_sub-ahead c = let h = c.requires c.if-v-c.false in omega arith

pub returns : goal.returns
returns c =
    let h = c.requires c.if-v-c.false in
    (omega arith, λ n. omega arith, λ n. omega arith)
