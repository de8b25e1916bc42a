-- On from a place rank by rank. Assumes nothing.
use Rattle.std.proofs.Common.{◌≡◌, ◌+◌, ◌<◌, arith}
use Rattle.differences.proofs.Walked.{room}
use Rattle.jump_walk.proofs.Passed.{passed_start, passed-next}
use Rattle.jump_walk.proofs.search.step_to.Goals.{In-loop-r}
use Rattle.jump_walk.proofs.search.step_to.Goals as goal

-- a rank is left
more : (c : In-loop-r) → c.loop-r.r + 1 < c.args.v.words
more c =
    let m = c.min.ensures in
    let h = c.loop-r-test.true in
    let k = c.requires.2 in
    omega arith

pub loop-r-init : goal.loop-r-init
loop-r-init c =
    let a = c.args in
    passed_start a.file.now a.v a.width a.from a.p c.requires.2 c.requires.4

pub advance-s-requires : goal.advance-s-requires
advance-s-requires c =
    let z = c.requires in
    (room c.args.file.now z.0 z.1 z.3 (omega arith) (more (goal.at.advance-s-requires c).In-loop-r), c.loop-r.invariant.within)

pub loop-r-preserved : goal.loop-r-preserved
loop-r-preserved c =
    let a = c.args in
    let l = c.loop-r in
    let t = c.advance-s.ensures in
    passed-next a.file.now a.v a.width a.from a.p l.r l.s l.invariant c.if-p-s.false (more (goal.at.loop-r-preserved c).In-loop-r) _ t.0 t.1

pub returns : goal.returns
returns c =
    let m = c.min.ensures in
    let l = c.loop-r in
    let h = c.loop-r-test.false in
    let e : l.r ≡ c.args.from.rank + c.min.result = omega arith in
    record { passed = rw e at l.invariant; few = omega arith; ends = λ x y. omega arith }
