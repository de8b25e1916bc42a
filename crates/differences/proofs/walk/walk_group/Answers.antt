-- A walk of n ranks at once, a group or fewer. Assumes nothing.
use Prim.Native.Nat.{◌+◌}
use native.Mathlib.Omega.{arith}
use Rattle.differences.proofs.Walked.{by_behind, by_last_jump}
use Rattle.differences.proofs.walk.walk_group.Goals as goal

pub returns-then-n-eq128 : goal.returns-then-n-eq128
returns-then-n-eq128 c =
    let e = c.if-n-eq128.true in
    let t = c.take_group.ensures in
    let w = t.1 (c.args.r + 1) c.requires.1 in
    let p = w.position in
    let q = w.taken in
    (rw e t.0, record { position = omega arith; taken = omega arith })

pub returns-then-jumps-eq0 : goal.returns-then-jumps-eq0
returns-then-jumps-eq0 c =
    let a = c.args in
    let x = c.sum_behind-behind.ensures in
    let x1 = x.1 in
    let p = c.requires.1.position in
    let q = c.requires.1.taken in (
      by_behind a.width a.start a.second a.file.now a.r a.n a.s c.few_zeros-jumps.ensures.0 c.if-jumps-eq0.true x.0,
      record { position = omega arith; taken = omega arith },
    )

pub returns : goal.returns
returns c =
    let a = c.args in
    let z = c.few_zeros-jumps.ensures in
    let x = c.sum_behind-behind.ensures in
    let t = c.past_jumps.ensures in
    let z1 = z.1 in
    let x1 = x.1 in
    let q = c.requires.1.taken in (
      by_last_jump a.width a.start a.second a.file.now a.r a.n a.s z.0 c.if-jumps-eq0.false x.0 t.0,
      t.1 (a.r + a.n + 1) (omega arith) (omega arith),
    )
