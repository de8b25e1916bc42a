use mathlib.Core.Path.{sym, ◌∙◌}
use Rattle.laws.proofs.Refusals.{accepted_at, handed_on}
use Rattle.reading.proofs.check.check.Goals as goal

pub returns-in_err-check : goal.returns-in_err-check
returns-in_err-check c = record { number = handed_on _ _ c.in_err-check.was _ c.from_residual.ensures.1 ∙ c.check.ensures.number }

pub returns : goal.returns
returns c = record { number = sym (accepted_at _ _ c.check.ensures.number _ c.in_ok-check.was) }
