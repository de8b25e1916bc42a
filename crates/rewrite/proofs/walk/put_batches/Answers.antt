use mathlib.Core.Path.{refl, sym, ap, ◌∙◌}
use native.Mathlib.Omega.{arith}
use lib.ListN.{length}
use lib.Seq.{length-take-le}
use Rattle.kinds.specs.Steps.{walked}
use Rattle.kinds.specs.Coding.{coder}
use Rattle.parts.proofs.Carried.{length-put-all}
use Rattle.rewrite.proofs.Stretch.{Batch, batch, turn_whole, turn_now, turn_later, turn_room_now, turn_room_later, turn_put, end_whole, end-put}
use Rattle.rewrite.proofs.walk.put_batches.Goals.{After-positions-c}
use Rattle.rewrite.proofs.walk.put_batches.Goals as goal

-- the batch that was read
next : (c : After-positions-c)
    → Batch c.args.file.now c.args.v c.loop-left.c c.positions-c.result c.batch_of-k.result
    c.loop-left.batch c.positions-c.new.out
next c =
    let l = c.loop-left in
    batch c.args.file.now c.args.v l.c _ _ l.batch _ (rw l.invariant.1 c.batch_of-k.ensures.1)
    c.positions-c.ensures.0 c.positions-c.ensures.1

pub loop-left-init : goal.loop-left-init
loop-left-init c = let p = c.requires in (omega arith, refl, p.2, refl, refl, p.3, refl)

pub slice_bounds-batch-end : goal.slice_bounds-batch-end
slice_bounds-batch-end c = rw c.loop-left.invariant.1 c.batch_of-k.ensures.1

pub slice_bounds-positions-end : goal.slice_bounds-positions-end
slice_bounds-positions-end c =
    let l = c.loop-left in
    sym (length-take-le _ l.batch (rw l.invariant.1 c.batch_of-k.ensures.1))

pub slice_bounds-batch-end-in-loop-left : goal.slice_bounds-batch-end-in-loop-left
slice_bounds-batch-end-in-loop-left c =
    let l = c.loop-left in
    rw ((next (goal.at.slice_bounds-batch-end-in-loop-left c).After-positions-c).size, l.invariant.1) c.batch_of-k.ensures.1

pub slice_bounds-put_all-end : goal.slice_bounds-put_all-end
slice_bounds-put_all-end c = sym (next (goal.at.slice_bounds-put_all-end c).After-positions-c).count

pub put_all-e-requires : goal.put_all-e-requires
put_all-e-requires c =
    let a = c.args in
    let p = c.requires in
    let l = c.loop-left in
    let k = c.batch_of-k.result in
    let h = c.batch_of-k.ensures.0 in
    let t = next (goal.at.put_all-e-requires c).After-positions-c in
    let n = turn_now a.s a.file.now a.v l.c l.e k l.left h l.invariant.2 in
    let m = turn_room_now a.s a.file.now a.v l.c l.e k l.left h (length a.dst.now) l.invariant.5 in
    rw (t.front, l.invariant.4) (p.1, n, m)

pub loop-left-smaller : goal.loop-left-smaller
loop-left-smaller c =
    let z = c.batch_of-k.ensures.2 c.loop-left-test.true in
    let h = c.batch_of-k.ensures.0 in
    omega arith

pub loop-left-preserved : goal.loop-left-preserved
loop-left-preserved c =
    let a = c.args in
    let p = c.requires in
    let l = c.loop-left in
    let k = c.batch_of-k.result in
    let h = c.batch_of-k.ensures.0 in
    let t = next (goal.at.loop-left-preserved c).After-positions-c in
    let e = c.put_all-e.result in
    let q = rw t.front at c.put_all-e.ensures.0 in
    let w = rw t.front at c.put_all-e.ensures.1 in
    let m = length a.dst.now in (
      omega arith,
      t.size ∙ l.invariant.1,
      rw (t.cursor, q) (turn_later a.s a.file.now a.v l.c l.e k l.left h p.1 l.invariant.2),
      rw (t.cursor, q) (turn_whole a.s a.file.now a.v l.c l.e k l.left h) ∙ l.invariant.3,
      ap length w ∙ length-put-all (coder a.s) l.dst l.e (walked a.file.now a.v l.c k) ∙ l.invariant.4,
      rw (t.cursor, q) (turn_room_later a.s a.file.now a.v l.c l.e k l.left h m l.invariant.5),
      rw (t.cursor, q, w) (turn_put a.s a.file.now a.v l.c l.e k l.left h m l.invariant.5 l.dst) ∙ l.invariant.6,
    )

pub returns : goal.returns
returns c =
    let a = c.args in
    let l = c.loop-left in (
      sym (end_whole a.s a.file.now a.v l.c l.e l.left c.loop-left-test.false) ∙ l.invariant.3,
      sym (end-put a.s a.file.now a.v l.c l.e l.left c.loop-left-test.false l.dst) ∙ l.invariant.6,
    )
