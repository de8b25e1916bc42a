use mathlib.Core.Path.{sym, ◌∙◌}
use Rattle.page_entries.proofs.OneEntry.{pages_on}
use Rattle.page_entries.proofs.entry.pages_taken.Goals as goal

pub after_run-requires : goal.after_run-requires
after_run-requires c = let p = c.requires in (p.0, p.1, sym c.run_ends.ensures ∙ c.if-run_ends.true)

pub returns : goal.returns
returns c =
    let a = c.args in
    c.move_on.ensures ∙ pages_on a.step a.e a.p (sym c.run_ends.ensures ∙ c.if-run_ends.false)

pub returns-then-run_ends : goal.returns-then-run_ends
returns-then-run_ends c = c.after_run.ensures
