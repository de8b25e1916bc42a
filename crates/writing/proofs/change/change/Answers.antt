use mathlib.Core.Path.{◌≡◌, sym, ◌∙◌}
use Rattle.laws.proofs.Refusals.{accepted_at, handed_on, handed_least}
use Rattle.laws.proofs.Calls.{setting-zero}
use Rattle.format.specs.Calls.{setting_number}
use Rattle.parts.specs.Holds.{ViewOf}
use Rattle.writing.proofs.Writing.{change-refused, change-setting, change-own, change_recodes, change-done, same-setting, view-setting}
use Rattle.writing.proofs.change.change.Goals.{In_ok-v, In_ok-check_setting}
use Rattle.writing.proofs.change.change.Goals as goal

view : (c : In_ok-v) → ViewOf c.args.file.now c.in_ok-v.v
view c = rw c.in_ok-v.was at c.check.ensures.view

set : (c : In_ok-check_setting) → setting_number c.args.s 0 ≡ 0
set c = accepted_at _ _ c.check_setting.ensures _ c.in_ok-check_setting.was

pub returns-in_err-v : goal.returns-in_err-v
returns-in_err-v c =
    let g = c.args in
    let h = handed_on _ _ c.in_err-v.was _ c.from_residual.ensures.1 in
    let l = handed_least _ _ c.in_err-v.was _ c.from_residual.ensures.1 in
    change-refused g.file.now g.s g.dst.now _ (h ∙ c.check.ensures.number) l

pub returns-in_err-check_setting : goal.returns-in_err-check_setting
returns-in_err-check_setting c =
    let g = c.args in
    let h = handed_on _ _ c.in_err-check_setting.was _ c.from_residual-in_err-check_setting.ensures.1 in
    let l = handed_least _ _ c.in_err-check_setting.was _ c.from_residual-in_err-check_setting.ensures.1 in
    change-setting g.file.now g.s g.dst.now _ (view (goal.at.returns-in_err-check_setting c).In_ok-v) _ (h ∙ c.check_setting.ensures) l

pub returns-then-eq : goal.returns-then-eq
returns-then-eq c =
    let g = c.args in
    let o = view (goal.at.returns-then-eq c).In_ok-v in
    change-own g.file.now g.s g.dst.now _ o (same-setting g.s c.setting.result (sym c.eq.ensures ∙ c.if-eq.true) ∙ c.setting.ensures ∙ view-setting g.file.now _ o.view) (set (goal.at.returns-then-eq c).In_ok-check_setting) _ _ c.copy_file.ensures

pub recoded-requires : goal.recoded-requires
recoded-requires c =
    let g = c.args in
    let o = view (goal.at.recoded-requires c).In_ok-v in (
      o,
      change_recodes g.file.now g.s g.dst.now _ o,
      (setting-zero g.s 0 (set (goal.at.recoded-requires c).In_ok-check_setting)).0,
    )

pub returns : goal.returns
returns c =
    let g = c.args in
    change-done g.file.now g.s g.dst.now _ (view (goal.at.returns c).In_ok-v) _ _ (set (goal.at.returns c).In_ok-check_setting) c.recoded.ensures
