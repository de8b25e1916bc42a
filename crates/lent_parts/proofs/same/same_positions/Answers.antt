use Prim.Native.Nat.{◌+◌, ◌≤◌, ◌<◌}
use mathlib.Core.Path.{refl, sym, ◌∙◌}
use native.Mathlib.Omega.{arith}
use lib.Seq.{length-take-le}
use Rattle.format.specs.Accepted.{positions_of}
use Rattle.parts.proofs.Seen.{seen}
use Rattle.kinds.proofs.Walks.{walk_start, Taken, taken}
use Rattle.lent_parts.proofs.Turns.{elements_over, batch_differs, batch_agrees}
use Rattle.lent_parts.proofs.Seen.{same-long}
use Rattle.lent_parts.proofs.same.same_positions.Goals.{After-batch_of-n, After-positions-c, After-positions-d}
use Rattle.lent_parts.proofs.same.same_positions.Goals as goal

-- the batch lies in the ranks
fits : (c : After-batch_of-n) → c.loop-rank.rank + c.batch_of-n.result ≤ c.args.v.words
fits c = let h = c.batch_of-n.ensures.0 in let k = c.loop-rank-test.true in omega arith

some : (c : After-batch_of-n) → 0 < c.batch_of-n.result
some c = let k = c.loop-rank-test.true in c.batch_of-n.ensures.2 (omega arith)

-- what each cursor has stepped along
next : (c : After-positions-c)
    → Taken c.args.first.now c.args.v c.positions-c.result c.loop-rank.rank c.batch_of-n.result
    c.loop-rank.here c.positions-c.new.out
next c =
    let l = c.loop-rank in
    let h = c.batch_of-n.ensures.0 in
    let k = c.loop-rank-test.true in
    let f : l.rank + c.batch_of-n.result ≤ c.args.v.words = omega arith in
    taken c.args.first.now c.args.v l.c _ l.rank _ l.here _ (rw l.invariant.1 c.batch_of-n.ensures.1)
    f l.invariant.3 c.positions-c.ensures.0 c.positions-c.ensures.1

next-second : (c : After-positions-d)
    → Taken c.args.second.now c.args.w c.positions-d.result c.loop-rank.rank c.batch_of-n.result
    c.loop-rank.there c.positions-d.new.out
next-second c =
    let l = c.loop-rank in
    let h = c.batch_of-n.ensures.0 in
    let k = c.loop-rank-test.true in
    let f : l.rank + c.batch_of-n.result ≤ c.args.v.words = omega arith in
    taken c.args.second.now c.args.w l.d _ l.rank _ l.there _ (rw l.invariant.2 c.batch_of-n.ensures.1)
    (rw c.requires.count at f)
    l.invariant.4 c.positions-d.ensures.0 c.positions-d.ensures.1

pub start-c-requires : goal.start-c-requires
start-c-requires c = (seen c.args.first.now c.args.v c.requires.first).header.counted.allowed

pub start-d-requires : goal.start-d-requires
start-d-requires c = (seen c.args.second.now c.args.w c.requires.second).header.counted.allowed

pub loop-rank-init : goal.loop-rank-init
loop-rank-init c =
    let a = c.args in
    let o = c.requires.first in
    let p = c.requires.second in (
      omega arith,
      refl,
      refl,
      rw c.start-c.ensures (walk_start a.first.now a.v o),
      rw c.start-d.ensures (walk_start a.second.now a.w p),
      refl,
    )

pub slice_bounds-here-end : goal.slice_bounds-here-end
slice_bounds-here-end c = let l = c.loop-rank in rw l.invariant.1 c.batch_of-n.ensures.1

pub slice_bounds-positions-end : goal.slice_bounds-positions-end
slice_bounds-positions-end c = let l = c.loop-rank in sym (length-take-le _ l.here (rw l.invariant.1 c.batch_of-n.ensures.1))

pub positions-c-requires : goal.positions-c-requires
positions-c-requires c = (seen c.args.first.now c.args.v c.requires.first).header.counted.allowed

pub slice_bounds-there-end : goal.slice_bounds-there-end
slice_bounds-there-end c = let l = c.loop-rank in rw l.invariant.2 c.batch_of-n.ensures.1

pub slice_bounds-positions-end-in-loop-rank : goal.slice_bounds-positions-end-in-loop-rank
slice_bounds-positions-end-in-loop-rank c = let l = c.loop-rank in sym (length-take-le _ l.there (rw l.invariant.2 c.batch_of-n.ensures.1))

pub positions-d-requires : goal.positions-d-requires
positions-d-requires c = (seen c.args.second.now c.args.w c.requires.second).header.counted.allowed

pub returns-then-ne : goal.returns-then-ne
returns-then-ne c =
    let a = c.args in
    let l = c.loop-rank in
    batch_differs (positions_of a.first.now) (positions_of a.second.now) l.rank c.batch_of-n.result c.ne.result _ _ (next (goal.at.returns-then-ne c).After-positions-c).front (next-second (goal.at.returns-then-ne c).After-positions-d).front c.ne.ensures c.if-ne.true ∙ l.invariant.5

pub overflow_add-rank : goal.overflow_add-rank
overflow_add-rank c =
    let h = fits (goal.at.overflow_add-rank c).After-batch_of-n in
    let k = (seen c.args.first.now c.args.v c.requires.first).header.counted in
    omega (arith, k.words-most, k.cells-most)

pub loop-rank-smaller : goal.loop-rank-smaller
loop-rank-smaller c = let h = fits (goal.at.loop-rank-smaller c).After-batch_of-n in let z = some (goal.at.loop-rank-smaller c).After-batch_of-n in omega arith

pub loop-rank-preserved : goal.loop-rank-preserved
loop-rank-preserved c =
    let a = c.args in
    let l = c.loop-rank in
    let t = next (goal.at.loop-rank-preserved c).After-positions-c in
    let u = next-second (goal.at.loop-rank-preserved c).After-positions-d in (
      fits (goal.at.loop-rank-preserved c).After-batch_of-n,
      t.size ∙ l.invariant.1,
      u.size ∙ l.invariant.2,
      t.rest,
      u.rest,
      batch_agrees (positions_of a.first.now) (positions_of a.second.now) l.rank c.batch_of-n.result c.ne.result _ _ t.front u.front c.ne.ensures c.if-ne.false ∙ l.invariant.5,
    )

pub returns : goal.returns
returns c =
    let a = c.args in
    let l = c.loop-rank in
    elements_over (positions_of a.first.now) (positions_of a.second.now) l.rank (same-long a.first.now a.v a.second.now a.w c.requires) (rw (seen a.first.now a.v c.requires.first).holds.size c.loop-rank-test.false) ∙ l.invariant.5
