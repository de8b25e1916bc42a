use Rattle.std.proofs.Common.{◌≡◌, ℕ, suc, ◌+◌, ◌*◌, ◌<◌, ◌≤◌, length}
use Rattle.wire.specs.declared.Pair.{Pair}
use Rattle.parts.proofs.Last.{Left}
use Rattle.run_search.specs.Before.{before_by, Tells}
use Rattle.run_search.proofs.search.last_run.Given as goal

-- what is left is in the file
abbrev pub invariant-loop-size : goal.invariant-loop-size
invariant-loop-size g l =
    (l.at ≡ l.start) × (l.start + 8 * l.n ≤ length l.file) × (l.low + l.size ≤ suc l.n) × (0 < l.size)
    × ((h : Pair → ℕ) (x : ℕ) → Tells (goal.F-post g l.passes) h x → Left (before_by h l.file l.start) (suc l.n) x l.low l.size)

abbrev pub decreases-loop-size : goal.decreases-loop-size
decreases-loop-size g l = l.size
