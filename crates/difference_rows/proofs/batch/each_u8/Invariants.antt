-- Rank by rank. Assumes nothing.
use Rattle.std.proofs.Common.{◌-◌, length}
use Rattle.difference_rows.proofs.Filled.{Going}
use Rattle.difference_rows.proofs.batch.each_u8.Given as goal

-- Rank by rank. Assumes nothing.
abbrev pub invariant-loop-p : goal.invariant-loop-p
invariant-loop-p l = Going 1 l.start l.second l.file l.initial.c 0 (length l.initial.out) l.initial.out l.c l.p-index (length l.initial.out - l.p-index) l.out
