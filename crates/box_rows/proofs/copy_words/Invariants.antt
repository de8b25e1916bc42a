-- Each turn copies a word. Assumes nothing.
use Rattle.box_rows.proofs.Copied.{CopyLeft}
use Rattle.box_rows.proofs.copy_words.Given as goal

-- Each turn copies a word. Assumes nothing.
abbrev pub invariant-loop-i : goal.invariant-loop-i
invariant-loop-i l = CopyLeft l.file l.at l.from l.n l.initial.dst l.dst l.i
