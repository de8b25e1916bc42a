use mathlib.Core.Path.{refl, ◌∙◌}
use native.Mathlib.Nat.{mul-le-mul_right}
use native.Mathlib.Omega.{arith}
use borrow.Author.Tests.{le-leb, lt-leb}
use Rattle.format.specs.Jumps.{jumps_kind}
use Rattle.parts.proofs.Sizing.{sized-where}
use Rattle.jumps.proofs.Held.{widths}
use Rattle.jumps.proofs.setting.part_bytes.Goals as goal
use Rattle.jumps.proofs.setting.part_bytes.Goals.{else-v, then-v}

pub returns : goal.returns
unfolding jumps_kind
returns c =
    let v = c.args.v in
    let m = mul-le-mul_right v.seconds (widths v.width v.step c.requires.0).1 in
    rw c.then_some.ensures
    (sized-where (jumps_kind v.width v.step) v c.if-v.right _
    (elim c.if-v.branch [ then-v w ↦ rw (le-leb _ _ w.if-v.true) w.right-is | else-v w ↦ let q = lt-leb _ _ w.if-v.false in rw q (w.right-is ∙ q) ])
    refl refl (omega arith) (omega arith))
