use Rattle.std.proofs.Common.{◌≡◌, suc, ◌+◌, ◌-◌, ◌*◌, drop}
use Rattle.format.specs.Tools.{both}
use Rattle.format.specs.Bytes.{numbers_of}
use Rattle.parts.specs.Holds.{rises}
use Rattle.positions.proofs.Climb.{climbs}
use Rattle.positions.proofs.check.positions_rise.Given as goal

abbrev pub invariant-loop-i : goal.invariant-loop-i
invariant-loop-i l =
    both l.right (climbs (suc l.before) l.cells (numbers_of 4 (l.n - l.i) (drop (l.at + 4 * l.i) l.file))) ≡ rises 0 l.cells (numbers_of 4 l.n (drop l.at l.file))
