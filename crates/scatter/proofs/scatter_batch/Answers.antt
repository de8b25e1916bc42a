use Prim.Native.Nat.{◌<◌}
use mathlib.Core.Path.{sym, ◌∙◌}
use native.Mathlib.Nat.{add-zero}
use lib.ListN.{length, get_or}
use Rattle.scatter.proofs.Turn.{scatter_end, below_at, word-there, turned}
use borrow.Author.Rules.{rules}
use Rattle.scatter.proofs.scatter_batch.Goals.{After-get_u32}
use Rattle.scatter.proofs.scatter_batch.Goals as goal

pub loop-i-init : goal.loop-i-init
loop-i-init c = rw add-zero

pub get_u32-requires : goal.get_u32-requires
get_u32-requires c =
    let l = c.loop-i in
    word-there c.args.file.now c.args.v c.requires.0 c.args.rank (length c.args.at.now) l.i c.requires.1 c.loop-i-test.true

-- the position lies in the destination
inside : (c : After-get_u32) → get_or c.args.at.now c.loop-i.i 0 < length c.loop-i.dst
inside c =
    let l = c.loop-i in
    rw l.auto.dst (below_at (length c.args.dst.now) c.args.at.now l.i c.loop-i-test.true c.requires.2)

pub offset_bounds-dst-p : goal.offset_bounds-dst-p
offset_bounds-dst-p c = let h = inside (goal.at.offset_bounds-dst-p c).After-get_u32 in search rules

pub bounds-dst-p : goal.bounds-dst-p
bounds-dst-p c = inside (goal.at.bounds-dst-p c).After-get_u32

pub loop-i-preserved : goal.loop-i-preserved
loop-i-preserved c =
    let l = c.loop-i in
    turned c.args.file.now c.args.v c.requires.0 l.dst c.args.at.now c.args.rank l.i c.get_u32.result c.requires.1 c.loop-i-test.true c.get_u32.ensures.0 ∙ l.invariant

pub returns : goal.returns
returns c =
    let l = c.loop-i in
    sym (scatter_end l.dst c.args.at.now _ l.i c.loop-i-test.false) ∙ l.invariant
