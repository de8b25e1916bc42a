-- The bytes of the parts, by the counts. Assumes nothing.
use Prim.Native.Nat.{◌*◌, ◌≤◌}
use mathlib.Core.Path.{refl, ◌∙◌}
use native.Mathlib.Nat.{mul-le-mul_right}
use native.Mathlib.Omega.{arith}
use borrow.Author.Tests.{le-leb, lt-leb}
use Rattle.format.specs.PointedJumps.{pointed_kind}
use Rattle.parts.proofs.Sizing.{sized-where}
use Rattle.pointed_jumps.proofs.Held.{widths, steps}
use Rattle.pointed_jumps.proofs.setting.part_bytes.Goals.{After-pointer_count-pointers, then-v, else-v}
use Rattle.pointed_jumps.proofs.setting.part_bytes.Goals as goal

pub pointer_count-pointers-requires : goal.pointer_count-pointers-requires
pointer_count-pointers-requires c = (steps _ _ c.requires.0).0

-- the bytes of the differences
differences-most : (c : After-pointer_count-pointers) → let v = c.args.v in v.width * v.seconds ≤ 2 * v.seconds
differences-most c = let v = c.args.v in mul-le-mul_right v.seconds (widths v.width v.step c.requires.0).1

pub overflow_add-v : goal.overflow_add-v
overflow_add-v c = let m = differences-most (goal.at.overflow_add-v c).After-pointer_count-pointers in let n = c.pointer_count-pointers.ensures.1 in record { fits = omega arith }

pub returns : goal.returns
unfolding pointed_kind
returns c =
    let v = c.args.v in
    let m = differences-most (goal.at.returns c).After-pointer_count-pointers in
    let n = c.pointer_count-pointers.ensures in
    let n1 = n.1 in
    rw c.then_some.ensures
    (sized-where (pointed_kind v.width v.step) v c.if-v.right _
    (elim c.if-v.branch [ then-v w ↦ rw (le-leb _ _ w.if-v.true) w.right-is | else-v w ↦ let q = lt-leb _ _ w.if-v.false in rw q (w.right-is ∙ q) ])
    refl (rw n.0) (omega arith) (omega arith))
