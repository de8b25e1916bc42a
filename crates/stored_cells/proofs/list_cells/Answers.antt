-- `list_cells` meets its contract: what is listed, then the stored cells that are left, stays the same. Assumes nothing.
use Prim.Native.Nat.{◌<◌}
use mathlib.Core.Path.{◌≡◌, ◌∙◌}
use native.Mathlib.Omega.{arith}
use lib.ListN.{length}
use Rattle.stored_cells.proofs.Stored.{flag_most, list_turn}
use Rattle.stored_cells.proofs.list_cells.Goals as goal

pub loop-i-preserved : goal.loop-i-preserved
loop-i-preserved c =
    let a = c.args in
    let l = c.loop-i in
    let e = c.from-listed.ensures in
    let inside : l.i < length a.words.now = omega arith in
    let room : l.listed < length l.out = omega arith in
    (omega (arith, e, flag_most), rw e (list_turn a.empty a.at a.words.now l.out l.listed l.i inside room) ∙ l.invariant.1)

pub returns : goal.returns
returns c =
    let a = c.args in
    let l = c.loop-i in
    let e : l.i ≡ a.to = omega arith in
    (omega arith, (rw e at l.invariant.1))
