-- Kind 5: what an allowed setting says of the step. Assumes nothing.
use Rattle.std.proofs.Common.{◌≡◌, ℕ, ◌≤◌, true, eqb}
use Rattle.format.specs.Tools.{within}
use Rattle.format.specs.PagedRuns.{pages_kind}
use Rattle.laws.proofs.Tools.{both_true, within_true}

pub page-step : (w b : ℕ) → (pages_kind w b).allowed ≡ true → (2 ≤ b) × (b ≤ 64)
unfolding pages_kind
page-step w b h = within_true 2 64 b (both_true (eqb w 0) (within 2 64 b) h).1
