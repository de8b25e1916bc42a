-- 16 ranks: one by one, or by their differences where none is a jump. Assumes nothing.
use Rattle.std.proofs.Common.{◌-◌}
use Rattle.parts.proofs.Batches.{stand}
use Rattle.difference_rows.specs.Steps.{next_at}
use Rattle.difference_rows.proofs.Filled.{Left}
use Rattle.difference_rows.proofs.batch.block_u8.Given as goal

-- 16 ranks: one by one, or by their differences where none is a jump. Assumes nothing.
-- k ranks are stored
abbrev pub invariant-loop-k : goal.invariant-loop-k
invariant-loop-k l = Left (next_at 1 l.start l.second l.file) l.c 0 16 l.initial.out (stand l.c l.k l.at) l.k (16 - l.k) l.out
