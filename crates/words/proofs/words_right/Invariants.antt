use Prim.Native.Nat.{◌+◌, ◌-◌, ◌*◌}
use mathlib.Core.Path.{◌≡◌}
use lib.ListN.{drop}
use Rattle.format.specs.Tools.{both}
use Rattle.format.specs.Bytes.{numbers_of}
use Rattle.words.proofs.Turn.{none}
use Rattle.words.proofs.words_right.Given as goal

abbrev pub invariant-loop-i : goal.invariant-loop-i
invariant-loop-i l = both l.right (none l.empty (numbers_of 4 (l.n - l.i) (drop (l.at + 4 * l.i) l.file))) ≡ none l.empty (numbers_of 4 l.n (drop l.at l.file))
