use mathlib.Core.Path.{◌∙◌}
use Rattle.format.specs.File.{WholeHeader}
use Rattle.laws.proofs.Refusals.{accepted_at, handed_on, handed_least}
use Rattle.parts.specs.Holds.{HeaderView}
use Rattle.checked.proofs.Number.{judged_short, judged_header, judged_body, judged_right}
use Rattle.checked.proofs.check.Goals.{Else-not-whole_header, In_ok-check_header}
use Rattle.checked.proofs.check.Goals as goal

pub returns-then-not-whole_header : goal.returns-then-not-whole_header
returns-then-not-whole_header c =
    judged_short c.args.file.now (c.whole_header.ensures.short (c.if-not-whole_header.true))

whole : (c : Else-not-whole_header) → WholeHeader c.args.file.now
whole c = c.whole_header.ensures.there (c.if-not-whole_header.false)

pub read_view-view-requires : goal.read_view-view-requires
read_view-view-requires c = whole c

pub check_header-requires : goal.check_header-requires
check_header-requires c = (whole (goal.at.check_header-requires c).Else-not-whole_header, c.read_view-view.ensures)

pub returns-in_err-check_header : goal.returns-in_err-check_header
returns-in_err-check_header c =
    let h = handed_on _ _ c.in_err-check_header.was _ c.from_residual.ensures.1 in
    let l = handed_least _ _ c.in_err-check_header.was _ c.from_residual.ensures.1 in
    judged_header c.args.file.now _ (h ∙ c.check_header.ensures) l

seen : (c : In_ok-check_header) → HeaderView c.args.file.now c.read_view-view.result
seen c = record { header = accepted_at _ _ c.check_header.ensures _ c.in_ok-check_header.was; view = c.read_view-view.ensures }

pub check_body-requires : goal.check_body-requires
check_body-requires c = seen (goal.at.check_body-requires c).In_ok-check_header

pub returns-in_err-check_body : goal.returns-in_err-check_body
returns-in_err-check_body c =
    let h = handed_on _ _ c.in_err-check_body.was _ c.from_residual-in_err-check_body.ensures.1 in
    let l = handed_least _ _ c.in_err-check_body.was _ c.from_residual-in_err-check_body.ensures.1 in
    judged_body c.args.file.now _ (seen (goal.at.returns-in_err-check_body c).In_ok-check_header) _ (h ∙ c.check_body.ensures) l

pub returns : goal.returns
returns c = judged_right c.args.file.now _ (seen (goal.at.returns c).In_ok-check_header) (accepted_at _ _ c.check_body.ensures _ c.in_ok-check_body.was)
