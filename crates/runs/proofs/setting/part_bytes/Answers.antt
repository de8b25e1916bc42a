-- `runs::setting::part_bytes` meets its contract. Assumes nothing.
use Rattle.std.proofs.Common.{refl, ◌∙◌, arith, le-leb}
use borrow.Author.Tests.{lt-leb}
use Rattle.format.specs.Runs.{runs_kind}
use Rattle.parts.proofs.Sizing.{sized-where}
use Rattle.runs.proofs.setting.part_bytes.Goals as goal
use Rattle.runs.proofs.setting.part_bytes.Goals.{else-v, then-v}

-- `runs::setting::part_bytes` meets its contract. Assumes nothing.
pub returns : goal.returns
unfolding runs_kind
returns c =
    rw c.then_some.ensures
    (sized-where (runs_kind c.args.v.width c.args.v.step) c.args.v c.if-v.right _
    (elim c.if-v.branch [ then-v w ↦ rw (le-leb _ _ w.if-v.true) w.right-is | else-v w ↦ let t = lt-leb _ _ w.if-v.false in rw t (w.right-is ∙ t) ])
    refl refl (omega arith) (omega arith))
