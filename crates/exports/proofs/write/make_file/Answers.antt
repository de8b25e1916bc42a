use mathlib.Core.Path.{sym, ◌∙◌}
use Rattle.laws.proofs.Tools.{some_is, not_some}
use Rattle.laws.proofs.Refusals.{accepted_at, handed_on, handed_least}
use Rattle.c_values.specs.Extents.{dimensions}
use Rattle.exports.proofs.MakeCalls.{four-setting, four_extent, same-made}
use Rattle.exports.proofs.write.make_file.Goals as goal

pub returns-in_err-check_setting : goal.returns-in_err-check_setting
returns-in_err-check_setting c =
    let g = c.args in
    let h = handed_on _ _ c.in_err-check_setting.was _ c.from_residual.ensures.1 in
    let l = handed_least _ _ c.in_err-check_setting.was _ c.from_residual.ensures.1 in
    four-setting g.s (dimensions g.dims g.extents.now) g.empty g.words.now g.dst.now _ (h ∙ c.check_setting.ensures) l

pub returns-in_default : goal.returns-in_default
returns-in_default c =
    let g = c.args in
    four_extent g.s (dimensions g.dims g.extents.now) g.empty g.words.now g.dst.now (not_some _ _ _ c.as_four.ensures c.in_default.not-Some)
    (accepted_at _ _ c.check_setting.ensures _ c.in_ok-check_setting.was)

pub returns : goal.returns
returns c =
    let g = c.args in
    let e = some_is _ _ _ (sym c.in-Some.is ∙ c.as_four.ensures) in
    same-made g.s g.dims _ _ e.1 g.empty g.words.now g.dst.now _ _ c.make.ensures
