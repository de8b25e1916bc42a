use Rattle.std.proofs.Common.{◌≡◌, ◌+◌, ◌-◌, ◌*◌, ◌≤◌}
use Rattle.rises.specs.Falls.{pair_falls}
use Rattle.rises.proofs.pairs.pair_falls.Given as goal

abbrev pub invariant-loop-i : goal.invariant-loop-i
invariant-loop-i l = (l.count ≤ l.i) × (l.count + pair_falls (l.n - l.i) (l.at + 8 * l.i) l.file ≡ pair_falls l.n l.at l.file)
