-- Whether 16 differences hold no jump. Assumes nothing.
use Rattle.std.proofs.Common.{◌≡◌}
use Rattle.differences.specs.Walk.{plain}
use Rattle.difference_rows.proofs.batch.no_jump.Given as goal

-- Whether 16 differences hold no jump. Assumes nothing.
-- k differences are looked at
abbrev pub invariant-loop-k : goal.invariant-loop-k
invariant-loop-k l = l.near ≡ plain 1 l.second l.file l.r l.k
