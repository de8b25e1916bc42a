-- The pass over all ranks. Assumes nothing.
use Prim.Native.Nat.{◌≤◌}
use mathlib.Core.Path.{◌≡◌, sym, ◌∙◌}
use native.Mathlib.Nat.{pos_of_ne-zero, le_refl}
use native.Mathlib.Omega.{arith}
use borrow.Author.Tests.{ne_eqb}
use Rattle.jump_pass.specs.Pass.{passes_from, passes_on}
use Rattle.jump_pass.proofs.Turns.{none, reach_most, over, over_jump, passes-whole}
use Rattle.jump_pass.proofs.check.pass.Goals.{In-Some}
use Rattle.jump_pass.proofs.check.pass.Goals as goal

pub returns-in_default : goal.returns-in_default
returns-in_default c =
    let v = c.args.v in
    sym (passes-whole v c.args.file.now c.requires.0.place ∙ rw c.requires.1 at (c.in_default.ensures.wrong v.words v.cells (le_refl _)))

pub overflow_add-result : goal.overflow_add-result
overflow_add-result c =
    let w : c.args.width ≤ 2 = rw c.requires.1 c.requires.0.wide in
    let m = reach_most c.requires.2 w in
    record { fits = omega arith }

-- what is left after all ranks
rest : (c : In-Some)
    → let a = c.args in
    let t = c.in-Some.s in
    passes_from a.v a.file.now 0 0 0 ≡ passes_on a.width a.v.second a.v.words a.v.cells a.file.now t.least t.left a.v.words
rest c =
    let v = c.args.v in
    rw c.requires.1 (passes-whole v c.args.file.now c.requires.0.place) ∙ c.in-Some.ensures.same v.words v.cells (le_refl _)

pub returns-then-s-eq0 : goal.returns-then-s-eq0
returns-then-s-eq0 c =
    sym (rest (goal.at.returns-then-s-eq0 c).In-Some ∙ over _ _ _ _ _ _ _ _ c.requires.2 (le_refl _) (none c.if-s-eq0.true))

pub returns-else-s-eq0 : goal.returns-else-s-eq0
returns-else-s-eq0 c =
    let l = c.in-Some.ensures.left in
    let p = c.requires.0.place in
    ne_eqb _ 0 c.if-s-eq0.false
    ∙ sym (rest (goal.at.returns-else-s-eq0 c).In-Some ∙ over_jump _ _ _ _ _ _ _ _ (le_refl _) (pos_of_ne-zero c.if-s-eq0.false) (omega arith))
