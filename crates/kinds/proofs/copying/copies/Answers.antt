use mathlib.Core.Logic.{inl, inr}
use borrow.Author.Tests.{eqb-true}
use Rattle.kinds.proofs.copying.copies.Goals as goal

pub returns-then-stores_runs : goal.returns-then-stores_runs
returns-then-stores_runs c = λ h. inl (c.stores_runs.ensures.0 c.if-stores_runs.true, eqb-true _ _ h)

pub returns : goal.returns
returns c = λ h. inr (c.copies_jumps.ensures h)
