-- Each turn copies a byte. Assumes nothing.
use Prim.Native.Nat.{◌≤◌}
use mathlib.Core.Path.{◌≡◌}
use lib.ListN.{length, take, drop}
use Rattle.stores.specs.Put.{put}
use Rattle.stores.proofs.Copied.{Left}
use Rattle.stores.proofs.copy.copy.Given as goal

abbrev pub invariant-loop-i : goal.invariant-loop-i
invariant-loop-i l = (l.i ≤ l.n) × (length l.dst ≡ length l.initial.dst) × (Left l.dst l.at l.src l.from l.n l.i ≡ put l.initial.dst l.at (take l.n (drop l.from l.src)))
