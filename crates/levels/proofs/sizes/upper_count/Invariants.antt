-- `upper_count` meets its contract: what is counted, with the entries above the level, is all. Assumes nothing.
use mathlib.Core.Path.{◌≡◌}
use Prim.Native.Nat.{◌+◌, ◌≤◌}
use Rattle.format.specs.PagedRuns.{upper_entries}
use Rattle.levels.proofs.sizes.upper_count.Given as goal

-- `upper_count` meets its contract: what is counted, with the entries above the level, is all. Assumes nothing.
abbrev pub invariant-loop-level : goal.invariant-loop-level
invariant-loop-level l = (l.level ≤ l.v) × (l.entries + upper_entries l.b l.level ≡ upper_entries l.b l.v)

abbrev pub decreases-loop-level : goal.decreases-loop-level
decreases-loop-level l = l.level
