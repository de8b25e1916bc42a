-- The sum behind the last jump of some ranks. Assumes nothing.
use Prim.Native.Nat.{◌+◌, ◌-◌}
use mathlib.Core.Path.{◌≡◌}
use native.Mathlib.Omega.{arith}
use Rattle.differences.proofs.Sums.{behind-none, behind-back}
use Rattle.differences.proofs.groups.sum_behind.Goals as goal

pub loop-k-preserved : goal.loop-k-preserved
loop-k-preserved c =
    let a = c.args in
    let l = c.loop-k in
    let d = c.difference-d.ensures in
    let m = d.1 in
    let h = c.loop-k-test.true in
    let e : a.r + (l.k - 1) + 1 ≡ a.r + l.k = omega arith in
    (omega arith, behind-back a.width a.second a.file.now a.r l.x l.k h (rw e at d.0) (λ z. omega arith) l.invariant.1)

pub returns : goal.returns
returns c =
    let a = c.args in
    let l = c.loop-k in
    let e : l.k ≡ 0 = omega arith in
    (behind-none a.width a.second a.file.now a.r l.x (rw e at l.invariant.1), omega arith)
