-- `check_picture` meets its contract. Assumes nothing.
use mathlib.Core.Path.{◌≡◌, ◌∙◌}
use mathlib.Core.Bool.{true}
use Rattle.std.proofs.lemmas.Result.{err_from_is_err_and}
use Rattle.format.specs.Picture.{cells, dimensions_allowed}
use Rattle.format.specs.Calls.{setting_number}
use Rattle.laws.proofs.Tools.{ok_is, err_is}
use Rattle.laws.proofs.Refusals.{accepted_at, handed_on, handed_least}
use Rattle.making.proofs.Making.{setting-refused, extent_refused, words-refused, none-refused}
use Rattle.making.proofs.check_picture.Goals.{In_ok-check_setting, In_ok-cells}
use Rattle.making.proofs.check_picture.Goals as goal

set : (c : In_ok-check_setting) → setting_number c.args.s 0 ≡ 0
set c = accepted_at _ _ c.check_setting.ensures _ c.in_ok-check_setting.was

some : (c : In_ok-cells) → (dimensions_allowed c.args.d ≡ true) × (c.in_ok-cells.cells ≡ cells c.args.d)
some c = ok_is _ _ _ _ _ c.cell_count.ensures.0 c.ok_or.ensures.value _ c.in_ok-cells.was

pub returns-in_err-check_setting : goal.returns-in_err-check_setting
returns-in_err-check_setting c =
    let h = handed_on _ _ c.in_err-check_setting.was _ c.from_residual.ensures.1 in
    let l = handed_least _ _ c.in_err-check_setting.was _ c.from_residual.ensures.1 in
    setting-refused c.args.s c.args.d c.args.words _ (h ∙ c.check_setting.ensures) l

pub returns-in_err-cells : goal.returns-in_err-cells
returns-in_err-cells c =
    let g = c.args in
    let e = err_is _ _ _ _ _ c.cell_count.ensures.0 c.ok_or.ensures.value _ c.in_err-cells.was in
    let p = err_from_is_err_and c.from_residual-in_err-cells.result c.from_residual-in_err-cells.ensures.1 in
    rw (p.1, p.2, e.1) (extent_refused g.s g.d g.words (set (goal.at.returns-in_err-cells c).In_ok-check_setting) e.0)

pub returns-then-words-cells : goal.returns-then-words-cells
returns-then-words-cells c =
    let g = c.args in
    words-refused g.s g.d g.words (set (goal.at.returns-then-words-cells c).In_ok-check_setting) _ (some (goal.at.returns-then-words-cells c).In_ok-cells) c.if-words-cells.true

pub returns : goal.returns
returns c =
    let g = c.args in
    none-refused g.s g.d g.words (set (goal.at.returns c).In_ok-check_setting) _ (some (goal.at.returns c).In_ok-cells) c.if-words-cells.false
