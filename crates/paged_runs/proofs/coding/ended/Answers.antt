use Rattle.std.proofs.Common.{ℕ, ◌+◌, length, ap, ◌∙◌, add-zero}
use Rattle.page_entries.specs.Coding.{coder}
use Rattle.page_entries.proofs.OneEntry.{length_entry, end_none, end_entry, ended_at}
use Rattle.paged_runs.proofs.coding.ended.Goals as goal

pub returns-then-e-ne0 : goal.returns-then-e-ne0
unfolding coder
returns-then-e-ne0 c =
    let a = c.args in
    let e = a.e in
    ended_at a.step e (e.second + 8) (ap (λ (n : ℕ). e.second + n) (ap length (end_entry a.step e c.if-e-ne0.true) ∙ length_entry e))

pub returns-else-e-ne0 : goal.returns-else-e-ne0
unfolding coder
returns-else-e-ne0 c =
    let a = c.args in
    let e = a.e in
    ended_at a.step e e.second (ap (λ (n : ℕ). e.second + n) (ap length (end_none a.step e c.if-e-ne0.false)) ∙ add-zero e.second)
