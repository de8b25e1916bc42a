-- `put_kept` meets its contract: the words that are left, put on, give the whole. Assumes nothing.
use Prim.Native.Nat.{◌+◌, ◌*◌}
use mathlib.Core.Path.{◌≡◌}
use lib.ListN.{drop}
use Rattle.format.specs.Bytes.{bytes_of}
use Rattle.format.specs.Stored.{kept}
use Rattle.stores.specs.Put.{put}
use Rattle.stored_cells.proofs.put_kept.Given as goal

abbrev pub invariant-loop-rank : goal.invariant-loop-rank
invariant-loop-rank l =
    put l.dst (l.place + 4 * l.rank) (bytes_of 4 (drop l.rank (kept l.empty l.words))) ≡ put l.initial.dst l.place (bytes_of 4 (kept l.empty l.words))
