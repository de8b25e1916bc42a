-- Along the run, to the rank behind it, or to the rank after those below p. Assumes nothing.
use Prim.Native.Nat.{◌≤◌, ◌<◌}
use mathlib.Core.Path.{refl}
use native.Mathlib.Omega.{arith}
use Rattle.parts.proofs.Seen.{seen}
use Rattle.row_seek.proofs.Resumed.{words-few}
use Rattle.row_seek.proofs.Runs.{reached_at, run_small, reached_along, behind}
use Rattle.row_seek.proofs.Seeking.{cut-found}
use borrow.Author.Rules.{rules}
use Rattle.row_seek.proofs.seek.along_runs.Goals.{Start}
use Rattle.row_seek.proofs.seek.along_runs.Goals as goal

-- Along the run, to the rank behind it, or to the rank after those below p. Assumes nothing.
-- the run ends inside the cells
small : (c : Start) → c.args.c.at ≤ c.args.c.last × (c.args.c.last < 16777216)
small c = run_small c.args.file.now c.args.v c.requires.0 c.requires.1 c.args.c c.args.p.0 c.requires.3 c.requires.4

few : (c : Start) → c.args.v.words ≤ 16777216
few c = words-few c.args.file.now c.args.v c.requires.0

pub overflow_add-end : goal.overflow_add-end
overflow_add-end c = let m = (small (goal.at.overflow_add-end c).Start).1 in search rules

pub overflow_add-c : goal.overflow_add-c
overflow_add-c c =
    let m = (small (goal.at.overflow_add-c c).Start).1 in
    let n = few (goal.at.overflow_add-c c).Start in
    let k = c.requires.4 in
    search rules

pub returns-then-p-end : goal.returns-then-p-end
returns-then-p-end c =
    let a = c.args in
    let h = c.requires.5 in
    let k = c.if-p-end.true in
    reached_along a.file.now a.v c.requires.0 c.requires.1 a.c a.p.0 c.requires.3 c.requires.4 _ a.p.0 (omega arith) (omega arith) refl refl refl

pub overflow_add-c-then-p-end-2 : goal.overflow_add-c-then-p-end-2
overflow_add-c-then-p-end-2 c =
    let m = (small (goal.at.overflow_add-c-then-p-end-2 c).Start).1 in
    let n = few (goal.at.overflow_add-c-then-p-end-2 c).Start in
    let k = c.requires.4 in
    let e = c.if-p-end-2.true in
    search rules

pub returns-then-p-end-2 : goal.returns-then-p-end-2
returns-then-p-end-2 c =
    let a = c.args in
    let w = behind a.file.now a.v c.requires.0 c.requires.1 a.c a.p.0 c.requires.3 c.requires.4 _ c.if-p-end-2.true refl in
    reached_at a.file.now a.v c.requires.0 c.requires.1 _ _ a.p.0 c.at_rank.ensures w.0 w.1 w.2

pub returns : goal.returns
returns c =
    let a = c.args in
    let f = c.find in
    let w = cut-found a.file.now a.v c.requires.0 a.p.0 f.result f.ensures in
    let n = (seen a.file.now a.v c.requires.0).holds.size in
    let m = w.most in
    reached_at a.file.now a.v c.requires.0 c.requires.1 _ _ a.p.0 c.at_rank-2.ensures (omega arith) w.passed (λ k. w.past (omega arith))
