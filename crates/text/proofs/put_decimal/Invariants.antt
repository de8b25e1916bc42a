use Prim.Native.Nat.{◌+◌, ◌≤◌}
use mathlib.Core.Path.{◌≡◌}
use lib.ListN.{length}
use Rattle.format.specs.Lister.{decimal}
use Rattle.stores.specs.Put.{put}
use Rattle.text.proofs.put_decimal.Given as goal

-- the digits of the rest, put on, give the whole
abbrev pub invariant-loop-i : goal.invariant-loop-i
invariant-loop-i l =
    (l.rest ≤ l.n) × (length l.dst ≡ length l.initial.dst) × (l.i ≡ l.at + length (decimal l.rest)) × (put l.dst l.at (decimal l.rest) ≡ put l.initial.dst l.at (decimal l.n))
