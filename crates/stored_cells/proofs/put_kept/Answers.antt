-- `put_kept` meets its contract: the words that are left, put on, give the whole. Assumes nothing.
use Prim.Native.Nat.{◌+◌, ◌*◌}
use mathlib.Core.Path.{sym, ◌∙◌}
use native.Mathlib.Nat.{add-zero}
use native.Mathlib.Omega.{arith}
use Rattle.stored_cells.proofs.Kept.{Listed, cell-listed, kept_turn, kept-end}
use Rattle.stored_cells.proofs.put_kept.Goals.{In-loop-rank}
use Rattle.stored_cells.proofs.put_kept.Goals as goal

-- the cell of the rank at hand
seen : (c : In-loop-rank)
    → Listed c.args.empty c.args.at
    c.args.words.now c.args.ps.now
    c.requires.0 c.loop-rank.rank
seen c = cell-listed _ _ _ _ c.requires.0 c.loop-rank.rank (omega arith)

pub loop-rank-init : goal.loop-rank-init
loop-rank-init c = rw add-zero

pub overflow_sub-cell : goal.overflow_sub-cell
overflow_sub-cell c = let h = seen (goal.at.overflow_sub-cell c).In-loop-rank in omega arith

pub overflow_cast-cell : goal.overflow_cast-cell
overflow_cast-cell c = let h = seen (goal.at.overflow_cast-cell c).In-loop-rank in omega arith

pub offset_bounds-words-cell : goal.offset_bounds-words-cell
offset_bounds-words-cell c = let h = seen (goal.at.offset_bounds-words-cell c).In-loop-rank in omega arith

pub bounds-words-cell : goal.bounds-words-cell
bounds-words-cell c = let h = seen (goal.at.bounds-words-cell c).In-loop-rank in omega arith

pub loop-rank-preserved : goal.loop-rank-preserved
loop-rank-preserved c =
    let a = c.args in
    let l = c.loop-rank in
    let turn = kept_turn a.empty a.at a.words.now a.ps.now c.requires.0 l.dst a.place l.rank (omega arith) in
    rw c.put_u32.ensures (turn ∙ l.invariant)

pub returns : goal.returns
returns c =
    let a = c.args in
    let l = c.loop-rank in
    sym (kept-end a.empty a.at a.words.now a.ps.now c.requires.0 l.dst (a.place + 4 * l.rank) l.rank (omega arith)) ∙ l.invariant
