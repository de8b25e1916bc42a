-- `ranks_length` meets its contract: the bytes counted and those of the lines that are left. Assumes nothing.
use Prim.Native.Nat.{◌+◌}
use mathlib.Core.Path.{◌≡◌}
use lib.ListN.{length, drop}
use Rattle.format.specs.Accepted.{positions_of, kept_of}
use Rattle.format.specs.Lister.{rank_lines}
use Rattle.kinds.proofs.Walks.{Ahead}
use Rattle.listing.proofs.measure.ranks_length.Given as goal

-- `ranks_length` meets its contract: the bytes counted and those of the lines that are left. Assumes nothing.
abbrev pub invariant-loop-rank : goal.invariant-loop-rank
invariant-loop-rank l =
    Ahead l.file l.v l.c l.rank
    × (l.total + length (rank_lines l.rank (drop l.rank (positions_of l.file)) (drop l.rank (kept_of l.file))) ≡ length (rank_lines 0 (positions_of l.file) (kept_of l.file)))
