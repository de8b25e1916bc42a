-- `put_ranks` meets its contract: the lines that are left, put on, give the whole. Assumes nothing.
use lib.ListN.{drop}
use Rattle.format.specs.Accepted.{positions_of, kept_of}
use Rattle.format.specs.Lister.{rank_lines}
use Rattle.kinds.proofs.Walks.{Ahead}
use Rattle.listing.proofs.Lines.{Left}
use Rattle.listing.proofs.put_ranks.Given as goal

-- `put_ranks` meets its contract: the lines that are left, put on, give the whole. Assumes nothing.
abbrev pub invariant-loop-rank : goal.invariant-loop-rank
invariant-loop-rank l =
    Ahead l.file l.v l.c l.rank
    × Left (rank_lines 0 (positions_of l.file) (kept_of l.file)) l.initial.out l.at (rank_lines l.rank (drop l.rank (positions_of l.file)) (drop l.rank (kept_of l.file))) l.to l.out
