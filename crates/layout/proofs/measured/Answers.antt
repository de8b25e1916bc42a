-- `measured` meets its contract. Assumes nothing.
use mathlib.Core.Path.{ap, ◌∙◌}
use borrow.Author.Tests.{not-true, not-false}
use Rattle.parts.specs.declared.Encoder.{Encoder}
use Rattle.parts.specs.Encoder.{ended_by}
use Rattle.kinds.specs.Coding.{coder}
use Rattle.layout.proofs.Out.{measured_unfit, measured_fits}
use Rattle.layout.proofs.measured.Goals as goal

-- `measured` meets its contract. Assumes nothing.
pub returns-then-not-e : goal.returns-then-not-e
returns-then-not-e c =
    let a = c.args in
    measured_unfit a.s a.e (not-true _ c.if-not-e.true)

pub ended-requires : goal.ended-requires
ended-requires c =
    let p = c.requires in
    (p.0, (p.1 (not-false _ c.if-not-e.false)).sound)

pub sizes-requires : goal.sizes-requires
unfolding ended_by
sizes-requires c =
    let p = c.requires in
    let b = p.1 (not-false _ c.if-not-e.false) in
    (p.0, rw c.ended.ensures b.rank, rw c.ended.ensures b.first, rw c.ended.ensures b.second)

pub returns : goal.returns
returns c =
    let a = c.args in
    measured_fits a.s a.e _ (c.sizes.ensures ∙ ap (λ (x : Encoder). (coder a.s).sizes x) c.ended.ensures)
    (not-false _ c.if-not-e.false)
