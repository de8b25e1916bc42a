use Rattle.jump_entries.proofs.Adds.{taken_jump, taken_on}
use mathlib.Core.Path.{sym, ◌∙◌}
use Rattle.jump_entries.proofs.coding.taken.Goals as goal
use Rattle.jump_entries.proofs.coding.taken.Goals.{else-difference_at-eq0, then-difference_at-eq0}

pub returns : goal.returns
returns c =
    let a = c.args in
    let d = c.difference_at.ensures in
    c.move_on.ensures
    ∙ elim c.if-difference_at-eq0.branch [
      | then-difference_at-eq0 w ↦ rw w.first-is (taken_jump a.width a.e a.p (sym d ∙ w.if-difference_at-eq0.true))
      | else-difference_at-eq0 w ↦ rw w.first-is (taken_on a.width a.e a.p (λ q. w.if-difference_at-eq0.false (d ∙ q)))
    ]
