-- The cells stay the same. Assumes nothing.
use Rattle.box_region.specs.Region.{SameCells}
use Rattle.box_region.proofs.region.long_rows.Given as goal

-- The cells stay the same. Assumes nothing.
abbrev pub invariant-loop : goal.invariant-loop
invariant-loop l = SameCells l.initial.r l.r
