use Prim.Native.Nat.{ℕ, ◌+◌, ◌-◌, ◌≤◌, ◌<◌}
use mathlib.Core.Path.{◌≡◌, refl, sym, ap, ◌∙◌}
use mathlib.Core.List.{List, ◌++◌}
use native.Mathlib.Omega.{arith}
use lib.ListN.{length, get_or, take, drop, replicate}
use borrow.Rule.Slice.PartMut.{put_mid}
use lib.Seq.{length-take-le}
use Rattle.format.specs.Accepted.{positions_of, kept_of}
use Rattle.laws.proofs.Bounds.{below_widen}
use Rattle.parts.proofs.Seen.{seen}
use Rattle.kinds.proofs.Walks.{walk_start, Taken, taken}
use Rattle.scatter.proofs.Scattered.{length-scattered}
use Rattle.scatter.proofs.Blank.{blank, range-filled, length-filled, blank_filled, Cut}
use Rattle.scatter.proofs.Turn.{scatter_end, past, expand_turned, batch_cut, all-scattered}
use borrow.Author.Rules.{rules}
use Rattle.scatter.proofs.expanded.Goals.{After-batch_of-n, After-fill, After-positions-c}
use Rattle.scatter.proofs.expanded.Goals as goal

-- the batch lies in the ranks
fits : (c : After-batch_of-n) → c.loop-rank.rank + c.batch_of-n.result ≤ c.args.v.words
fits c = let h = c.batch_of-n.ensures.0 in let k = c.loop-rank-test.true in omega arith

some : (c : After-batch_of-n) → 0 < c.batch_of-n.result
some c = let k = c.loop-rank-test.true in c.batch_of-n.ensures.2 (omega arith)

-- what the cursor has stepped along
next : (c : After-positions-c)
    → Taken c.args.file.now c.args.v c.positions-c.result c.loop-rank.rank c.batch_of-n.result
    c.loop-rank.batch c.positions-c.new.out
next c =
    let l = c.loop-rank in
    let n = c.batch_of-n.ensures.1 in
    let h = c.batch_of-n.ensures.0 in
    let k = c.loop-rank-test.true in
    taken c.args.file.now c.args.v l.c _ l.rank _ l.batch _ (rw l.invariant.2 n) (omega arith) l.invariant.3
    c.positions-c.ensures.0 c.positions-c.ensures.1

-- the batch's last position
abbrev last_in : List ℕ → List ℕ → ℕ → ℕ
last_in out batch n = get_or (out ++ drop n batch) (n - 1) 0

abbrev last : After-positions-c → ℕ
last c = last_in c.positions-c.new.out c.loop-rank.batch c.batch_of-n.result

up_to : (c : After-positions-c)
    → Cut c.loop-rank.filled c.args.v.cells (last c)
    (take c.batch_of-n.result (drop c.loop-rank.rank (positions_of c.args.file.now)))
    (drop (c.loop-rank.rank + c.batch_of-n.result) (positions_of c.args.file.now))
up_to c =
    let l = c.loop-rank in
    let h = c.batch_of-n.ensures.0 in
    let k = c.loop-rank-test.true in
    batch_cut c.args.file.now c.args.v c.requires.0 l.filled l.rank c.batch_of-n.result _ (c.batch_of-n.ensures.2 (omega arith)) (omega arith)
    (next c).front l.invariant.5

pub start-c-requires : goal.start-c-requires
start-c-requires c = (seen c.args.file.now c.args.v c.requires.0).header.counted.allowed

pub loop-rank-init : goal.loop-rank-init
loop-rank-init c =
    let o = c.requires.0 in (
      omega arith,
      refl,
      refl,
      rw c.start-c.ensures (walk_start c.args.file.now c.args.v o),
      omega arith,
      (seen c.args.file.now c.args.v o).holds.rising,
      refl,
    )

pub slice_bounds-batch-end : goal.slice_bounds-batch-end
slice_bounds-batch-end c = rw c.loop-rank.invariant.2 c.batch_of-n.ensures.1

pub slice_bounds-positions-end : goal.slice_bounds-positions-end
slice_bounds-positions-end c = let l = c.loop-rank in sym (length-take-le _ l.batch (rw l.invariant.2 c.batch_of-n.ensures.1))

pub positions-c-requires : goal.positions-c-requires
positions-c-requires c = (seen c.args.file.now c.args.v c.requires.0).header.counted.allowed

pub overflow_sub-end : goal.overflow_sub-end
overflow_sub-end c = let h = some (goal.at.overflow_sub-end c).After-batch_of-n in omega arith

pub offset_bounds-batch-n : goal.offset_bounds-batch-n
offset_bounds-batch-n c = let h = c.batch_of-n.ensures.1 in search rules

pub bounds-batch-n : goal.bounds-batch-n
bounds-batch-n c = let h = some (goal.at.bounds-batch-n c).After-batch_of-n in let k = c.batch_of-n.ensures.1 in omega arith

pub overflow_add-end : goal.overflow_add-end
overflow_add-end c = let h = (up_to (goal.at.overflow_add-end c).After-positions-c).high in search rules

pub slice_bounds-fill-count : goal.slice_bounds-fill-count
slice_bounds-fill-count c =
    let u = up_to (goal.at.slice_bounds-fill-count c).After-positions-c in
    let l = u.low in
    let h = u.high in
    let e = c.loop-rank.invariant.1 in
    let k = c.requires.1 in
    omega arith

pub slice_bounds-fill-start : goal.slice_bounds-fill-start
slice_bounds-fill-start c =
    let u = up_to (goal.at.slice_bounds-fill-start c).After-positions-c in
    let l = u.low in
    let h = u.high in
    let e = c.loop-rank.invariant.1 in
    let k = c.requires.1 in
    omega arith

pub slice_bounds-fill-end : goal.slice_bounds-fill-end
slice_bounds-fill-end c =
    let u = up_to (goal.at.slice_bounds-fill-end c).After-positions-c in
    let l = u.low in
    let h = u.high in
    let e = c.loop-rank.invariant.1 in
    let k = c.requires.1 in
    omega arith

-- the cells up to the last position are filled
module _ (c : After-fill) (low : c.loop-rank.filled ≤ last_in c.positions-c.new.out c.loop-rank.batch c.batch_of-n.result) (high : last_in c.positions-c.new.out c.loop-rank.batch c.batch_of-n.result < c.args.v.cells) where
  abbrev to : ℕ
  to = last_in c.positions-c.new.out c.loop-rank.batch c.batch_of-n.result + 1

  abbrev filled_to : List ℕ
  filled_to = put_mid c.loop-rank.filled (to - c.loop-rank.filled) c.loop-rank.dst c.fill.new.self

  filled_as : filled_to ≡ take c.loop-rank.filled c.loop-rank.dst ++ (replicate (to - c.loop-rank.filled) c.args.v.empty ++ drop to c.loop-rank.dst)
  filled_as =
      let k = c.requires.1 in
      let e = c.loop-rank.invariant.1 in
      range-filled c.loop-rank.dst _ c.loop-rank.filled to c.args.v.empty (omega arith) (omega arith) (c.fill.ensures.after (λ y h. h))

  same_size : length filled_to ≡ length c.args.dst.now
  same_size =
      let v = c.args.v in
      let l = c.loop-rank in
      let k = c.requires.1 in
      let e = l.invariant.1 in
      length-filled v.empty v.cells l.filled to l.dst _ (omega arith) (omega arith) (omega arith) filled_as ∙ e

  blanked : blank c.args.v.empty c.args.v.cells to filled_to ≡ blank c.args.v.empty c.args.v.cells c.loop-rank.filled c.loop-rank.dst
  blanked =
      let v = c.args.v in
      let l = c.loop-rank in
      let k = c.requires.1 in
      let e = l.invariant.1 in
      blank_filled v.empty v.cells l.filled to l.dst _ (omega arith) (omega arith) (omega arith) filled_as

pub slice_bounds-batch-end-in-loop-rank : goal.slice_bounds-batch-end-in-loop-rank
slice_bounds-batch-end-in-loop-rank c = rw ((next (goal.at.slice_bounds-batch-end-in-loop-rank c).After-positions-c).size, c.loop-rank.invariant.2) c.batch_of-n.ensures.1

pub slice_bounds-scatter_batch-end : goal.slice_bounds-scatter_batch-end
slice_bounds-scatter_batch-end c = sym (next (goal.at.slice_bounds-scatter_batch-end c).After-positions-c).count

pub scatter_batch-requires : goal.scatter_batch-requires
scatter_batch-requires c =
    let t = next (goal.at.scatter_batch-requires c).After-positions-c in
    let u = up_to (goal.at.scatter_batch-requires c).After-positions-c in
    let h = u.high in
    let k = c.requires.1 in
    let e = same_size (goal.at.scatter_batch-requires c).After-fill u.low u.high in (
      c.requires.0,
      rw t.count (fits (goal.at.scatter_batch-requires c).After-batch_of-n),
      rw t.front (below_widen (last (goal.at.scatter_batch-requires c).After-positions-c + 1) (length (filled_to (goal.at.scatter_batch-requires c).After-fill u.low u.high)) (take c.batch_of-n.result (drop c.loop-rank.rank (positions_of c.args.file.now)))
          (omega arith) u.below),
    )

pub overflow_add-rank : goal.overflow_add-rank
overflow_add-rank c =
    let h = fits (goal.at.overflow_add-rank c).After-batch_of-n in
    let w = (seen c.args.file.now c.args.v c.requires.0).header.counted in
    omega (arith, w.words-most, w.cells-most)

pub loop-rank-smaller : goal.loop-rank-smaller
loop-rank-smaller c =
    let h = fits (goal.at.loop-rank-smaller c).After-batch_of-n in
    let z = some (goal.at.loop-rank-smaller c).After-batch_of-n in
    omega arith

pub loop-rank-preserved : goal.loop-rank-preserved
loop-rank-preserved c =
    let l = c.loop-rank in
    let n = c.batch_of-n.result in
    let t = next (goal.at.loop-rank-preserved c).After-positions-c in
    let u = up_to (goal.at.loop-rank-preserved c).After-positions-c in
    let h = u.high in
    let k = c.requires.1 in
    let z = same_size (goal.at.loop-rank-preserved c).After-fill u.low u.high in
    let low : last (goal.at.loop-rank-preserved c).After-positions-c + 1 ≤ c.args.v.cells = omega arith in
    let e = rw t.front at c.scatter_batch.ensures in (
      fits (goal.at.loop-rank-preserved c).After-batch_of-n,
      ap length e ∙ length-scattered (filled_to (goal.at.loop-rank-preserved c).After-fill u.low u.high) (take n (drop l.rank (positions_of c.args.file.now))) (drop l.rank (kept_of c.args.file.now)) ∙ z,
      t.size ∙ l.invariant.2,
      t.rest,
      low,
      u.rest,
      expand_turned c.args.file.now c.args.v c.requires.0 l.dst (filled_to (goal.at.loop-rank-preserved c).After-fill u.low u.high) _ l.filled (last (goal.at.loop-rank-preserved c).After-positions-c + 1) l.rank n (fits (goal.at.loop-rank-preserved c).After-batch_of-n)
          (omega arith) low u.below (blanked (goal.at.loop-rank-preserved c).After-fill u.low u.high) e ∙ l.invariant.6,
    )

pub returns : goal.returns
unfolding blank
returns c =
    let b = c.args.file.now in
    let v = c.args.v in
    let l = c.loop-rank in
    range-filled l.dst _ l.filled v.cells v.empty l.invariant.4 (let e = l.invariant.1 in let k = c.requires.1 in omega arith) (c.fill-2.ensures.after (λ y h. h))
    ∙ sym (scatter_end (blank v.empty v.cells l.filled l.dst) (positions_of b) _ l.rank (past b v c.requires.0 l.rank c.loop-rank-test.false))
    ∙ l.invariant.6 ∙ all-scattered b v c.requires.0 c.args.dst.now
