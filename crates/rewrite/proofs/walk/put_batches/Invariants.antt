use Prim.Native.Nat.{◌≤◌}
use mathlib.Core.Path.{◌≡◌}
use lib.ListN.{length}
use Rattle.parts.specs.Batch.{Along, RoomAll, put_all_by}
use Rattle.kinds.specs.Steps.{walked}
use Rattle.kinds.specs.Coding.{coder}
use Rattle.rewrite.specs.Walk.{along}
use Rattle.rewrite.proofs.walk.put_batches.Given as goal

abbrev pub invariant-loop-left : goal.invariant-loop-left
invariant-loop-left l =
    (l.left ≤ l.n) × (length l.batch ≡ 512) × Along l.e (walked l.file l.v l.c l.left) × (along l.s l.file l.v l.c l.e l.left ≡ along l.s l.file l.v l.initial.c l.initial.e l.n)
    × (length l.dst ≡ length l.initial.dst) × RoomAll (coder l.s) l.e (walked l.file l.v l.c l.left) (length l.initial.dst)
    × (put_all_by (coder l.s) l.dst l.e (walked l.file l.v l.c l.left) ≡ put_all_by (coder l.s) l.initial.dst l.initial.e (walked l.file l.v l.initial.c l.n))

abbrev pub decreases-loop-left : goal.decreases-loop-left
decreases-loop-left l = l.left
