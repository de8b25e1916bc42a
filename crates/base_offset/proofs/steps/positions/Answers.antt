use Prim.Native.Nat.{◌+◌, ◌-◌}
use mathlib.Core.Path.{◌≡◌, refl, ap, subst, ◌∙◌}
use native.Mathlib.Omega.{arith}
use lib.ListN.{length}
use Rattle.parts.proofs.Batches.{batch_start, batch_end, length-walked_as}
use Rattle.offsets.specs.Sums.{There}
use Rattle.base_groups.specs.Steps.{ahead_of}
use Rattle.base_groups.proofs.Cuts.{Cut, cut, part, length_part}
use Rattle.base_groups.proofs.Batched.{ahead-some, same_base, there_rest, length_whole, part_turn}
use borrow.Author.Rules.{rules}
use Rattle.base_offset.proofs.steps.positions.Goals.{After-ranks_ahead}
use Rattle.base_offset.proofs.steps.positions.Goals as goal

-- the ranks of one turn
turn : (c : After-ranks_ahead)
    → let a = c.args in let l = c.loop-i in let r = c.all_there-there.result in
    Cut (ahead_of r a.v.step l.c.used) l.i (length a.out.now) (l.i + c.ranks_ahead.result)
turn c =
    let a = c.args in
    let l = c.loop-i in
    let h = c.loop-i-test.true in
    let e = l.invariant.1 in
    cut _ l.i (length a.out.now) c.ranks_ahead.result (ahead-some _ _ _).0 (omega arith) (rw e at c.ranks_ahead.ensures)

pub loop-i-init : goal.loop-i-init
loop-i-init c =
    let a = c.args in
    (omega arith, refl, batch_start _ _ _ _, λ e. subst (There a.file.now a.v.width a.v.second a.c.rank) (omega arith) (c.all_there-there.ensures e))

pub overflow_add-end : goal.overflow_add-end
overflow_add-end c = let t = (turn c).inside in search rules

pub slice_bounds-along-start : goal.slice_bounds-along-start
slice_bounds-along-start c = let t = (turn c).more in search rules

pub slice_bounds-along-end : goal.slice_bounds-along-end
slice_bounds-along-end c = let t = (turn c).inside in let e = c.loop-i.invariant.1 in search rules

-- its part of the buffer
size : (c : After-ranks_ahead)
    → let l = c.loop-i in length (part l.i (l.i + c.ranks_ahead.result) l.out) ≡ l.i + c.ranks_ahead.result - l.i
size c =
    let l = c.loop-i in
    length_part l.i (l.i + c.ranks_ahead.result) l.out (let t = (turn c).inside in let e = l.invariant.1 in omega arith)

pub along-c-requires : goal.along-c-requires
along-c-requires c =
    let a = c.args in
    let l = c.loop-i in
    rw (size (goal.at.along-c-requires c).After-ranks_ahead) (same_base a.file.now a.v l.c _ l.i (length a.out.now) _ (turn (goal.at.along-c-requires c).After-ranks_ahead) l.invariant.3)

pub loop-i-smaller : goal.loop-i-smaller
loop-i-smaller c =
    let t = turn (goal.at.loop-i-smaller c).After-ranks_ahead in
    let m = t.more in
    let i = t.inside in
    omega arith

pub loop-i-preserved : goal.loop-i-preserved
loop-i-preserved c =
    let a = c.args in
    let l = c.loop-i in
    let t = turn (goal.at.loop-i-preserved c).After-ranks_ahead in
    let m = t.more in
    let e = l.invariant.1 in
    let o = c.along-c in
    let d = rw (size (goal.at.loop-i-preserved c).After-ranks_ahead) at o.ensures in (
      t.inside,
      length_whole l.out o.new.out l.i _ (omega arith) (rw e t.inside) (ap length d.positions ∙ length-walked_as _ _ _) ∙ e,
      part_turn _ _ (length a.out.now) l.c o.result l.out _ _ l.i _ (omega arith) t.inside e d l.invariant.2,
      there_rest a.file.now a.v l.c _ l.i (length a.out.now) _ t l.invariant.3 o.result d.cursor,
    )

pub returns : goal.returns
returns c =
    let l = c.loop-i in
    batch_end _ _ _ l.c l.out l.i c.loop-i-test.false l.invariant.1 l.invariant.2
