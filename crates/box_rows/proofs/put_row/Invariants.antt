-- Each turn puts the words of stored cells, or E up to the next one, and the cells that are left give the row. Assumes nothing.
use Prim.Native.Nat.{◌+◌, ◌-◌}
use Rattle.box_rows.proofs.Rows.{RowLeft}
use Rattle.box_rows.proofs.put_row.Given as goal

-- Each turn puts the words of stored cells, or E up to the next one, and the cells that are left give the row. Assumes nothing.
abbrev pub invariant-loop-k : goal.invariant-loop-k
invariant-loop-k l = RowLeft l.file l.v l.from l.n l.initial.k l.initial.dst l.dst l.c l.p l.k

abbrev pub decreases-loop-k : goal.decreases-loop-k
decreases-loop-k l = l.initial.k + l.n - l.k
