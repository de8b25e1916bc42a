use native.Mathlib.Omega.{arith}
use Rattle.row_seek.proofs.resume.stored_ahead.Goals as goal

pub returns-then-stores_runs : goal.returns-then-stores_runs
returns-then-stores_runs c =
    let e = c.stretch.ensures in
    (e.1 c.requires, e.0, λ h. (c.stores_runs.ensures.0 c.if-stores_runs.true, e.2 h))

pub returns : goal.returns
returns c = let h = c.requires in (omega arith, omega arith, λ k. absurd (omega arith))
