use Rattle.std.proofs.Common.{◌≡◌, ◌+◌, ◌-◌, length, le_refl, arith}
use Rattle.parts.proofs.Along.{stretch_inside}
use Rattle.parts.proofs.Carried.{written_begin, written_turn, written_end, Cells, run_asked, run_room}
use Rattle.run_walk.specs.Steps.{next}
use Rattle.run_pairs.specs.Coding.{runs_coder}
use Rattle.run_walk.proofs.Walk.{next-along}
use Rattle.run_pairs.proofs.Adds.{keeps}
use Rattle.runs_copy.proofs.copy.put_part.Goals.{Else-n-eq0}
use Rattle.runs_copy.proofs.copy.put_part.Goals as goal

-- all n ranks are in the cursor's run
whole : (c : Else-n-eq0) → let a = c.args in Cells a.c a.n a.n
whole c = let h = c.if-n-eq0.false in record { most = le_refl _; some = omega arith; in_run = c.requires.1 }

pub returns-then-n-eq0 : goal.returns-then-n-eq0
returns-then-n-eq0 c =
    let a = c.args in
    let h = c.if-n-eq0.true in
    written_end _ _ a.dst.now a.c a.e a.n a.dst.now a.c a.e a.n (omega arith)
    (written_begin (next a.file.now a.v) runs_coder a.dst.now a.c a.e a.n c.requires.2 c.requires.3)

pub put_run-e-requires : goal.put_run-e-requires
put_run-e-requires c =
    let a = c.args in
    let q = whole (goal.at.put_run-e-requires c).Else-n-eq0 in
    let f = next a.file.now a.v in
    let g = next-along a.file.now a.v in
    let r = run_asked f runs_coder g a.c a.e a.n a.n q c.requires.2 in
    (c.requires.0, q.some, r.0, r.1, r.2, run_room f runs_coder g a.c a.e a.n a.n q (length a.dst.now) c.requires.3)

pub past-c-requires : goal.past-c-requires
past-c-requires c = stretch_inside c.args.n c.args.c.at c.args.c.last c.requires.1

pub returns : goal.returns
returns c =
    let a = c.args in
    let q = whole (goal.at.returns c).Else-n-eq0 in
    let o = c.put_run-e in
    let some = q.some in
    let one : a.n - 1 + 1 ≡ a.n = omega arith in
    written_end _ _ a.dst.now a.c a.e a.n _ c.past-c.result o.result (a.n - a.n) (omega arith)
    (written_turn (next a.file.now a.v) runs_coder (next-along a.file.now a.v) a.c a.e a.n a.n q keeps a.dst.now a.c a.e a.n
    a.dst.now _ c.past-c.result o.result (rw one at c.past-c.ensures) o.ensures.0 o.ensures.1
    (written_begin (next a.file.now a.v) runs_coder a.dst.now a.c a.e a.n c.requires.2 c.requires.3))
