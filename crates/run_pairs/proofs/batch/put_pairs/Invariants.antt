use Prim.Native.Nat.{◌+◌, ◌*◌}
use mathlib.Core.Path.{◌≡◌}
use lib.ListN.{length, drop}
use Rattle.stores.specs.Put.{put}
use Rattle.run_pairs.specs.Coding.{end_pairs}
use Rattle.run_pairs.proofs.batch.put_pairs.Given as goal

-- the pairs of the ends that are left, after those put out
abbrev pub invariant-loop-t : goal.invariant-loop-t
invariant-loop-t l =
    (length l.dst ≡ length l.initial.dst) × (put l.dst (l.at + 8 * l.t) (end_pairs l.rank l.ps (drop l.t l.ends)) ≡ put l.initial.dst l.at (end_pairs l.rank l.ps l.ends))
