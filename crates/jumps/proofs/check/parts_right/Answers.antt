-- The parts are right where rank 0 starts with a jump and the pass goes through. Assumes nothing.
use mathlib.Core.Path.{◌≡◌, sym, ◌∙◌}
use mathlib.Core.Bool.{Bool, true, false}
use Rattle.format.specs.Tools.{both}
use Rattle.format.specs.Jumps.{jumps_kind}
use Rattle.wire.proofs.Laws.{other_width}
use Rattle.parts.specs.Holds.{parts_right}
use Rattle.jump_pass.specs.Pass.{passes_from}
use Rattle.jumps.proofs.Held.{laid}
use Rattle.laws.proofs.Bounds.{below_elements}
use Rattle.jumps.proofs.Parts.{parts_split}
use borrow.Author.Rules.{rules}
use Rattle.jumps.proofs.check.parts_right.Goals.{After-starts_right}
use Rattle.jumps.proofs.check.parts_right.Goals as goal

split : (c : After-starts_right)
    → let a = c.args in
    (t : Bool) → c.starts_right.result ≡ t → parts_right (jumps_kind a.v.width a.v.step) a.file.now a.v ≡ both t (passes_from a.v a.file.now 0 0 0)
split c t e =
    let s = below_elements 256 c.args.file.now (λ i. (c.type_inv.file i).fits) in
    parts_split c.args.file.now c.args.v s c.requires t (sym e ∙ c.starts_right.ensures)

pub starts_right-requires : goal.starts_right-requires
starts_right-requires c = laid _ _ c.requires

pub returns-then-not-starts_right : goal.returns-then-not-starts_right
returns-then-not-starts_right c = sym (split (goal.at.returns-then-not-starts_right c).After-starts_right false (c.if-not-starts_right.true))

pub pass-requires : goal.pass-requires
pass-requires c = let z = laid _ _ c.requires in search rules

pub returns-then-v-eq1 : goal.returns-then-v-eq1
returns-then-v-eq1 c = c.pass.ensures ∙ sym (split (goal.at.returns-then-v-eq1 c).After-starts_right true (c.if-not-starts_right.false))

pub pass-requires-2 : goal.pass-requires-2
pass-requires-2 c =
    let z = laid _ _ c.requires in
    let e = other_width _ z.narrow z.wide c.if-v-eq1.false in
    search rules

pub returns : goal.returns
returns c = c.pass-2.ensures ∙ sym (split (goal.at.returns c).After-starts_right true (c.if-not-starts_right.false))
