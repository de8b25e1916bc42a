-- The place of a position: near by, or by groups and then rank by rank. Assumes nothing.
use Rattle.std.proofs.Common.{◌<◌, sym, true≢false, arith}
use Rattle.differences.proofs.Walked.{room}
use Rattle.jump_walk.proofs.Passed.{last-rank}
use Rattle.jump_walk.proofs.Found.{Seeks, found_from, seeks_group, seeks_passed, stops, ends}
use Rattle.jump_walk.proofs.search.seek_from.Goals.{After-step_to-at, After-step_to-near, After-walk-far}
use Rattle.jump_walk.proofs.search.seek_from.Goals as goal

-- The place of a position: near by, or by groups and then rank by rank. Assumes nothing.
-- the search has come near
near : (c : After-step_to-near)
    → let a = c.args in
    let t = c.step_to-near.result in
    Seeks a.file.now a.v a.width a.p a.from.rank a.from.reached t.rank t.reached
near c = let a = c.args in seeks_passed a.file.now a.v a.width a.from a.p c.step_to-near.result c.step_to-near.ensures.passed

-- by groups, not past the last rank
far : (c : After-walk-far) → c.walk-far.result.rank < c.args.v.words
far c = let m = c.walk-far.ensures.most in let h = c.requires.2 in omega arith

-- and to where it stops
there : (c : After-step_to-at)
    → let a = c.args in
    let t = c.step_to-at.result in
    Seeks a.file.now a.v a.width a.p a.from.rank a.from.reached t.rank t.reached
there c ls y =
    let a = c.args in
    let w = c.walk-far in
    let i = seeks_passed a.file.now a.v a.width a.from a.p c.step_to-near.result c.step_to-near.ensures.passed ls y in
    let m = w.ensures.most in
    let h = c.requires.2 in
    let j = seeks_group a.file.now a.v a.width c.step_to-near.result a.p w.result _ w.ensures (omega arith) ls i in
    seeks_passed a.file.now a.v a.width w.result a.p c.step_to-at.result c.step_to-at.ensures.passed ls j

pub returns-then-target-near : goal.returns-then-target-near
returns-then-target-near c =
    let a = c.args in
    let t = c.step_to-near.result in
    let m = c.step_to-near.ensures.passed.most in
    found_from a.file.now a.v a.width a.from a.p c.requires.2 t.rank t.reached (near (goal.at.returns-then-target-near c).After-step_to-near) _
    (λ ls y. stops a.file.now a.v a.width a.p t.rank t.reached ls y m c.if-target-near.true)
    (λ e. m)

pub walk-far-requires : goal.walk-far-requires
walk-far-requires c =
    let z = c.requires in
    let h = z.2 in
    let y = c.step_to-near.ensures.passed in
    let m = y.most in
    (room c.args.file.now z.0 z.1 z.3 (omega arith) (omega arith), omega arith, y.within)

pub step_to-at-requires : goal.step_to-at-requires
step_to-at-requires c =
    let z = c.requires in
    (z.0, z.1, far c, z.3, c.walk-far.ensures.within)

pub returns-then-at-target : goal.returns-then-at-target
returns-then-at-target c =
    let a = c.args in
    let t = c.step_to-at.result in
    let h = c.if-at-target.true in
    found_from a.file.now a.v a.width a.from a.p c.requires.2 t.rank t.reached (there (goal.at.returns-then-at-target c).After-step_to-at) _
    (λ ls y. ends a.file.now a.v a.width a.p t.rank t.reached ls y h (last-rank c.step_to-at.ensures (omega arith) h))
    (λ e. absurd (true≢false (sym e)))

pub returns : goal.returns
returns c =
    let a = c.args in
    let t = c.step_to-at.result in
    let m = c.step_to-at.ensures.passed.most in
    found_from a.file.now a.v a.width a.from a.p c.requires.2 t.rank t.reached (there (goal.at.returns c).After-step_to-at) _
    (λ ls y. stops a.file.now a.v a.width a.p t.rank t.reached ls y m c.if-at-target.false)
    (λ e. m)
