-- A pass over some ranks: two at once, or one. Assumes nothing.
use native.Mathlib.Nat.{pos_of_ne-zero}
use native.Mathlib.Omega.{arith}
use Rattle.jump_pass.proofs.Groups.{goes_on, goes_two}
use Rattle.jump_pass.proofs.check.pass_ranks.Goals as goal

pub loop-k-preserved-then-two-ne0 : goal.loop-k-preserved-then-two-ne0
loop-k-preserved-then-two-ne0 c =
    let v = c.loop-k.invariant in
    let i = v.0 in
    let h = c.loop-k-test.true in
    let x = c.both_near-two.ensures in
    (omega arith, omega arith, goes_on v.2 (omega arith) (goes_two _ _ _ _ _ x.0 (pos_of_ne-zero c.if-two-ne0.true) x.1 v.2.least))
