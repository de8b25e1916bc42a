use Rattle.std.proofs.Common.{sym, ◌∙◌}
use Rattle.std.proofs.lemmas.Result.{err_from_is_err_and}
use Rattle.kinds.proofs.Numbers.{number-none, number-right, number_wrong}
use Rattle.kinds.proofs.setting.check_setting.Goals as goal

pub returns-in_err-kind : goal.returns-in_err-kind
returns-in_err-kind c =
    let p = err_from_is_err_and c.from_residual.result c.from_residual.ensures.1 in
    rw (p.1, p.2, c.in_err-kind.ensures.0) (number-none c.args.s c.in_err-kind.ensures.1)

pub returns-then-not-allowed : goal.returns-then-not-allowed
returns-then-not-allowed c = number_wrong c.args.s _ c.in_ok-kind.ensures (sym c.allowed.ensures ∙ c.if-not-allowed.true)

pub returns : goal.returns
returns c = number-right c.args.s _ c.in_ok-kind.ensures (sym c.allowed.ensures ∙ c.if-not-allowed.false)
