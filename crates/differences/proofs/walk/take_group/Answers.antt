-- 128 ranks at once, with a jump among them or without. Assumes nothing.
use Prim.Native.Nat.{◌+◌}
use native.Mathlib.Omega.{arith}
use Rattle.differences.proofs.Walked.{by_sum, by_last_jump}
use Rattle.differences.proofs.walk.take_group.Goals as goal

-- 128 ranks at once, with a jump among them or without. Assumes nothing.
pub returns-then-z-eq0 : goal.returns-then-z-eq0
returns-then-z-eq0 c =
    let a = c.args in
    let x = c.sum.ensures in
    let x1 = x.1 in (
      by_sum a.width a.start a.second a.file.now a.r 128 a.s c.zeros-z.ensures.0 c.if-z-eq0.true x.0,
      λ m w. let p = w.position in let q = w.taken in record { position = omega arith; taken = omega arith },
    )

pub returns : goal.returns
returns c =
    let a = c.args in
    let z = c.zeros-z.ensures in
    let x = c.sum_behind-behind.ensures in
    let z1 = z.1 in
    let x1 = x.1 in
    let t = c.past_jumps.ensures in (
      by_last_jump a.width a.start a.second a.file.now a.r 128 a.s z.0 c.if-z-eq0.false x.0 t.0,
      λ m w. let q = w.taken in t.1 (m + 128) (omega arith) (omega arith),
    )
