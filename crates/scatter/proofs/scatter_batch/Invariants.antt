use Prim.Native.Nat.{◌+◌}
use mathlib.Core.Path.{◌≡◌}
use lib.ListN.{drop}
use Rattle.format.specs.Accepted.{kept_of}
use Rattle.scatter.specs.Scatter.{scattered}
use Rattle.scatter.proofs.scatter_batch.Given as goal

abbrev pub invariant-loop-i : goal.invariant-loop-i
invariant-loop-i l = scattered l.dst (drop l.i l.at) (drop (l.rank + l.i) (kept_of l.file)) ≡ scattered l.initial.dst l.at (drop l.rank (kept_of l.file))
