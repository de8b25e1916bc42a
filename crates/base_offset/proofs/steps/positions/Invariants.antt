use Prim.Native.Nat.{◌-◌, ◌≤◌}
use mathlib.Core.Path.{◌≡◌}
use mathlib.Core.Bool.{true}
use lib.ListN.{length}
use Rattle.parts.proofs.Batches.{Partly}
use Rattle.offsets.specs.Sums.{There}
use Rattle.base_groups.specs.Steps.{next}
use Rattle.base_offset.proofs.steps.positions.Given as goal

abbrev pub invariant-loop-i : goal.invariant-loop-i
invariant-loop-i l =
    (l.i ≤ length l.initial.out) × (length l.out ≡ length l.initial.out) × Partly (next l.file l.v) l.initial.c (length l.initial.out) l.c l.out l.i
    × (l.there ≡ true → There l.file l.v.width l.v.second l.c.rank (length l.initial.out - l.i))

abbrev pub decreases-loop-i : goal.decreases-loop-i
decreases-loop-i l = length l.initial.out - l.i
