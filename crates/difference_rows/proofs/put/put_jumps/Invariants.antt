-- What is left to put out gives the whole; as long as a jump is left, a position is left. Assumes nothing.
use Rattle.std.proofs.Common.{◌≡◌, ◌+◌, ◌-◌, ◌*◌, ◌≤◌, length, drop}
use Rattle.format.specs.Bytes.{bytes_of}
use Rattle.stores.specs.Put.{put}
use Rattle.difference_rows.specs.Later.{later_jumps}
use Rattle.difference_rows.proofs.put.put_jumps.Given as goal

-- What is left to put out gives the whole; as long as a jump is left, a position is left. Assumes nothing.
abbrev pub invariant-loop-place : goal.invariant-loop-place
invariant-loop-place l =
    (1 ≤ l.i)
    × (l.place + 4 * length (later_jumps l.width (drop (l.i - 1) l.ps)) ≡ l.at + 4 * l.count)
    × (put l.dst l.place (bytes_of 4 (later_jumps l.width (drop (l.i - 1) l.ps))) ≡ put l.initial.dst l.at (bytes_of 4 (later_jumps l.width l.ps)))

abbrev pub decreases-loop-place : goal.decreases-loop-place
decreases-loop-place l = length l.ps - l.i
