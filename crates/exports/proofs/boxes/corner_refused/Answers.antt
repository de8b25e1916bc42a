use mathlib.Core.Path.{refl, ◌∙◌}
use Rattle.format.specs.Signals.{BEYOND}
use Rattle.laws.proofs.Refusals.{refused_at, accepted_at}
use Rattle.checked.proofs.Number.{first-refused}
use Rattle.exports.proofs.boxes.corner_refused.Goals as goal

pub returns-in-Ok : goal.returns-in-Ok
returns-in-Ok c = rw (accepted_at _ _ c.check.ensures.number _ c.in-Ok.is)

pub returns-in-Err : goal.returns-in-Err
returns-in-Err c =
    let r = refused_at _ _ c.check.ensures.number _ c.in-Err.is in
    r.0 ∙ first-refused _ _ BEYOND refl r.1
