use Rattle.laws.proofs.Bounds.{below_elements}
use Rattle.std.proofs.Common.{sym, ◌∙◌, arith}
use Rattle.format.specs.Tools.{Below}
use Rattle.paged_runs.proofs.Held.{inside}
use Rattle.paged_runs.proofs.PartsAgain.{parts_tested}
use Rattle.paged_runs.proofs.check.parts_right.Goals as goal

-- `parts_right` meets its contract. Assumes nothing.
pub returns-then-runs_right : goal.returns-then-runs_right
returns-then-runs_right c =
    let a = c.args in
    let s : Below 256 a.file.now = below_elements 256 a.file.now (λ i. omega (arith, c.type_inv.file i)) in
    let r = sym c.runs_right.ensures ∙ c.if-runs_right.true in
    c.upper_right.ensures ∙ sym (parts_tested a.file.now a.v s c.requires ∙ rw r)

pub returns : goal.returns
returns c =
    let a = c.args in
    let s : Below 256 a.file.now = below_elements 256 a.file.now (λ i. omega (arith, c.type_inv.file i)) in
    let r = sym c.runs_right.ensures ∙ c.if-runs_right.false in
    sym (parts_tested a.file.now a.v s c.requires ∙ rw r)

pub runs_right-requires : goal.runs_right-requires
runs_right-requires c = inside _ _ c.requires

pub upper_right-requires : goal.upper_right-requires
upper_right-requires c = inside _ _ c.requires
