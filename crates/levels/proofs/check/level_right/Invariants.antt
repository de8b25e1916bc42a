-- `level_right` meets its contract. The invariant: what is left to compare gives the whole. Assumes nothing.
use Prim.Native.Nat.{◌*◌, min}
use mathlib.Core.Path.{◌≡◌}
use lib.ListN.{take, drop}
use Rattle.format.specs.PagedRuns.{level, lasts}
use Rattle.levels.specs.Levels.{entries}
use Rattle.levels.specs.Comparing.{same_spans}
use Rattle.levels.proofs.Above.{rest_of}
use Rattle.levels.proofs.check.level_right.Given as goal

abbrev pub invariant-loop-i : goal.invariant-loop-i
invariant-loop-i l =
    (rest_of l.step (entries l.start l.file) l.first l.size l.below l.under l.s l.i
    ≡ same_spans (take l.size (drop l.first (entries l.start l.file))) (level l.step (lasts l.step (take l.under (drop l.below (entries l.start l.file))))))
    × (l.end ≡ min (l.i * l.step) l.under)
