use mathlib.Core.Path.{sym, ◌∙◌}
use Rattle.parts.proofs.Taking.{if_zero_lem, if_more}
use Rattle.page_entries.proofs.OneEntry.{pages_turn}
use Rattle.page_entries.proofs.entry.after_run.Goals as goal
use Rattle.page_entries.proofs.entry.after_run.Goals.{else-left-eq0, then-left-eq0}

pub returns : goal.returns
returns c =
    let a = c.args in
    let i = c.if-left-eq0 in
    let l = c.left_after-left in
    let turn = pages_turn a.step a.e a.p l.result i.cells i.empty c.requires.2 l.ensures in
    elim c.if-left-eq0.branch [ then-left-eq0 w ↦ turn (w.cells-is ∙ sym (if_zero_lem l.result _ _ w.if-left-eq0.true)) (w.empty-is ∙ sym (if_zero_lem l.result _ _ w.if-left-eq0.true)) | else-left-eq0 w ↦ turn (w.cells-is ∙ sym (if_more l.result _ _ w.if-left-eq0.false)) (w.empty-is ∙ sym (if_more l.result _ _ w.if-left-eq0.false)) ]
