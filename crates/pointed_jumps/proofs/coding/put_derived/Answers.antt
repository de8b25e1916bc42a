-- The pointers, each from the one before. Assumes nothing.
use mathlib.Core.Path.{sym, ◌∙◌}
use native.Mathlib.Omega.{arith}
use Rattle.pointed_jumps.proofs.Pointing.{pointing_asks, pointing_turn}
use Rattle.pointed_jumps.proofs.Made.{Given, given, none_made, begun-given, ended_given}
use borrow.Author.Rules.{rules}
use Rattle.pointed_jumps.proofs.coding.put_derived.Goals.{Start}
use Rattle.pointed_jumps.proofs.coding.put_derived.Goals as goal

given-of : (c : Start) → Given c.args.width c.args.step c.args.z c.args.start c.args.dst.now
given-of c = given c.args.width c.args.step c.requires.0 c.args.z c.args.start c.args.dst.now c.requires.2

pub pointer_count-count-requires : goal.pointer_count-count-requires
pointer_count-count-requires c = (given-of (goal.at.pointer_count-count-requires c).Start).stands.step

pub returns-then-count-eq0 : goal.returns-then-count-eq0
returns-then-count-eq0 c =
    let e = c.pointer_count-count.ensures.0 in
    none_made c.args.width c.args.step c.args.z c.args.start c.args.dst.now (given-of (goal.at.returns-then-count-eq0 c).Start) (sym e ∙ c.if-count-eq0.true)

pub pointers_at-at-requires : goal.pointers_at-at-requires
pointers_at-at-requires c = (search rules, (given-of (goal.at.pointers_at-at-requires c).Start).stands.wide)

pub overflow_sub-last : goal.overflow_sub-last
overflow_sub-last c =
    let f = c.if-count-eq0.false in
    let m = c.pointer_count-count.ensures.1 in
    let g = (given-of (goal.at.overflow_sub-last c).Start).words in
    omega arith

pub put_u32-requires : goal.put_u32-requires
put_u32-requires c =
    let f = c.if-count-eq0.false in
    let e = c.pointer_count-count.ensures.0 in
    let r = (given-of (goal.at.put_u32-requires c).Start).room in
    let a = c.pointers_at-at.ensures in
    omega arith

pub loop-k-init : goal.loop-k-init
loop-k-init c =
    let f = c.if-count-eq0.false in
    let q = c.pointer_count-count.ensures in
    let m = q.1 in
    let g = given-of (goal.at.loop-k-init c).Start in
    let o = g.words in
    let a = c.pointers_at-at.ensures in
    begun-given c.args.width c.args.step c.args.z c.args.start c.args.dst.now g _ _ _ _ (omega arith) c.put_u32.ensures a q.0 (omega arith)

pub jump_after-rank-requires : goal.jump_after-rank-requires
jump_after-rank-requires c = pointing_asks _ _ _ _ _ _ _ _ _ _ c.loop-k.invariant

pub loop-k-preserved : goal.loop-k-preserved
loop-k-preserved c =
    pointing_turn _ _ _ _ _ _ _ _ _ _ c.loop-k.invariant c.loop-k-test.true _ c.jump_after-rank.ensures _ c.put_u32-in-loop-k.ensures

pub returns : goal.returns
returns c =
    let f = c.if-count-eq0.false in
    let m = c.pointer_count-count.ensures.1 in
    let g = given-of (goal.at.returns c).Start in
    let o = g.words in
    ended_given c.args.width c.args.step c.args.z c.args.start c.args.dst.now g _ _ _ _ (omega arith) c.put_u32.ensures _ _ _
    c.loop-k.invariant c.loop-k-test.false
