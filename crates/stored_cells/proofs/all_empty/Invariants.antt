-- `all_empty` meets its contract: what was seen so far, and the rest of the group, give the answer. Assumes nothing.
use mathlib.Core.Path.{◌≡◌}
use lib.ListN.{drop}
use Rattle.format.specs.Tools.{both}
use Rattle.stored_cells.proofs.Stored.{empties}
use Rattle.stored_cells.proofs.all_empty.Given as goal

abbrev pub invariant-loop-word : goal.invariant-loop-word
invariant-loop-word l = both l.same (empties l.empty (drop l.word-index l.word-items)) ≡ empties l.empty l.word-items
