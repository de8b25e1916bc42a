-- `stored_cells` meets its contract: what is listed, then the stored cells that are left, are all stored cells. Assumes nothing.
use Prim.Native.Nat.{◌+◌, ◌*◌, ◌/◌}
use mathlib.Core.Path.{◌≡◌, sym, ◌∙◌}
use native.Mathlib.Nat.{add-zero}
use native.Mathlib.Omega.{arith}
use lib.ListN.{length}
use Rattle.stored_cells.proofs.Stored.{group_skipped, all_listed}
use borrow.Author.Rules.{rules}
use Rattle.stored_cells.proofs.stored_cells.Goals as goal
use Rattle.stored_cells.proofs.stored_cells.Goals.{then-not-all_empty, else-not-all_empty}

pub loop-g-init : goal.loop-g-init
loop-g-init c = (omega arith, rw add-zero)

pub loop-g-preserved : goal.loop-g-preserved
loop-g-preserved c =
    let a = c.args in
    let l = c.loop-g in
    let e : 16 * (l.g + 1) ≡ 16 * l.g + 16 = omega arith in
    rw e
    (elim c.if-not-all_empty.branch [ then-not-all_empty w ↦ rw (w.listed-is, w.out-is) (w.list_cells-listed.ensures.0, w.list_cells-listed.ensures.1 ∙ l.invariant.1) | else-not-all_empty w ↦ rw (w.listed-is, w.out-is) (omega arith, group_skipped a.empty a.at a.words.now l.out l.listed (16 * l.g) 16 (omega arith) (sym c.all_empty.ensures ∙ w.if-not-all_empty.false) ∙ l.invariant.1) ])

pub returns : goal.returns
returns c =
    let a = c.args in
    let l = c.loop-g in
    let e : 16 * (length a.words.now / 16) ≡ 16 * l.g = omega arith in
    all_listed a.empty a.at a.words.now _ c.list_cells.result (search rules) ((rw e at c.list_cells.ensures.1) ∙ l.invariant.1)
