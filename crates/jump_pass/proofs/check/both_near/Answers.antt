-- The differences of two ranks. Assumes nothing.
use mathlib.Core.Path.{sym, ◌∙◌}
use native.Mathlib.Omega.{arith}
use Rattle.parts.proofs.Taking.{if_zero_lem, if_more}
use Rattle.jump_pass.specs.Pass.{both_near}
use Rattle.jump_pass.proofs.check.both_near.Goals.{then-d-eq0-via-then-d-eq0, then-d-eq0-via-else-d-eq0+then-e-eq0}
use Rattle.jump_pass.proofs.check.both_near.Goals as goal

pub returns-then-d-eq0 : goal.returns-then-d-eq0
unfolding both_near
returns-then-d-eq0 c =
    let d = c.difference-d.ensures.0 in
    let e = c.difference-e.ensures.0 in (
      elim c.then-d-eq0.branch [
        | then-d-eq0-via-then-d-eq0 w ↦ rw (← d) (sym (if_zero_lem _ _ _ w.if-d-eq0.true))
        | then-d-eq0-via-else-d-eq0+then-e-eq0 w ↦ rw (← d, ← e) (sym (if_more _ _ _ w.if-d-eq0.false ∙ if_zero_lem _ _ _ w.if-e-eq0.true))
      ],
      omega arith,
    )

pub returns : goal.returns
unfolding both_near
returns c =
    let d = c.difference-d.ensures in
    let e = c.difference-e.ensures in
    let d1 = d.1 in
    let e1 = e.1 in
    (rw (← d.0, ← e.0) (sym (if_more _ _ _ c.if-d-eq0.false ∙ if_more _ _ _ c.if-e-eq0.false)), omega arith)
