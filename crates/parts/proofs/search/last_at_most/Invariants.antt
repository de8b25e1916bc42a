use Rattle.std.proofs.Common.{◌+◌, ◌*◌, ◌<◌, ◌≤◌, length}
use Rattle.parts.proofs.Last.{Left, numbers}
use Rattle.parts.proofs.search.last_at_most.Given as goal

-- what is left is in the file
abbrev pub invariant-loop-size : goal.invariant-loop-size
invariant-loop-size l = (l.start + 4 * l.n ≤ length l.file) × (l.n < 4294967296) × Left (numbers l.file l.start) l.n l.x l.low l.size

abbrev pub decreases-loop-size : goal.decreases-loop-size
decreases-loop-size l = l.size
