-- `entries_passed` meets its contract. Assumes nothing.
use Rattle.descent.specs.Descent.{counted}
use Rattle.descent.proofs.Counting.{Counting}
use Rattle.descent.proofs.search.entries_passed.Given as goal

-- `entries_passed` meets its contract. Assumes nothing.
abbrev pub invariant-loop-i : goal.invariant-loop-i
invariant-loop-i l = Counting (counted l.stored) l.p l.file l.start l.number l.n l.i l.k
