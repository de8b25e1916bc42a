use Rattle.std.proofs.Common.{◌+◌, ◌-◌, length, le_refl, arith}
use Rattle.parts.proofs.Carried.{Written, written_begin, written_then, written_end, turn_now, turn_room_now}
use Rattle.run_walk.specs.Steps.{next}
use Rattle.run_pairs.specs.Coding.{runs_coder}
use Rattle.run_pairs.proofs.Adds.{keeps}
use Rattle.runs_copy.proofs.FromRun.{in_order, between_runs, ranks_fit}
use Rattle.runs_copy.proofs.copy.put_runs.Goals.{After-put_part-w}
use Rattle.runs_copy.proofs.copy.put_runs.Goals as goal

pub returns-then-n-eq0 : goal.returns-then-n-eq0
returns-then-n-eq0 c =
    let a = c.args in
    let h = c.if-n-eq0.true in
    written_end _ _ a.dst.now a.c a.e a.n a.dst.now a.c a.e a.n (omega arith)
    (written_begin (next a.file.now a.v) runs_coder a.dst.now a.c a.e a.n c.requires.3 c.requires.4)

pub overflow_sub-rest : goal.overflow_sub-rest
overflow_sub-rest c =
    let a = c.args in
    let h = c.if-n-eq0.false in
    (in_order a.file.now a.v _ c.requires.1 a.c a.n (omega arith) c.requires.2).0

pub overflow_add-rest : goal.overflow_add-rest
overflow_add-rest c =
    let a = c.args in
    let h = c.if-n-eq0.false in
    let o = (in_order a.file.now a.v _ c.requires.1 a.c a.n (omega arith) c.requires.2).1 in
    omega arith

pub put_part-requires : goal.put_part-requires
put_part-requires c =
    let a = c.args in
    let h = c.if-n-eq0.false in
    let o = (in_order a.file.now a.v _ c.requires.1 a.c a.n (omega arith) c.requires.2).0 in
    let t = c.if-n-rest.true in
    (c.requires.0, λ m. omega arith, c.requires.3, c.requires.4)

pub put_part-w-requires : goal.put_part-w-requires
put_part-w-requires c =
    let a = c.args in
    let h = c.if-n-eq0.false in
    let o = (in_order a.file.now a.v _ c.requires.1 a.c a.n (omega arith) c.requires.2).0 in
    let t = c.if-n-rest.false in
    let f = next a.file.now a.v in
    let r = a.c.last - a.c.at + 1 in (
      c.requires.0,
      λ m. omega arith,
      turn_now f runs_coder a.c a.e r a.n (omega arith) c.requires.3,
      turn_room_now f runs_coder a.c a.e r a.n (omega arith) (length a.dst.now) c.requires.4,
    )

-- the rest of the run is put out
part_out : (c : After-put_part-w)
    → let a = c.args in
    Written (next a.file.now a.v) runs_coder a.dst.now a.c a.e a.n c.put_part-w.new.dst c.put_part-w.result.c c.put_part-w.result.e
    (a.n - (a.c.last - a.c.at + 1))
part_out c =
    let a = c.args in
    let t = c.if-n-rest.false in
    written_then (next a.file.now a.v) runs_coder keeps a.dst.now a.c a.e a.n a.dst.now a.c a.e a.n
    (written_begin _ _ _ _ _ _ c.requires.3 c.requires.4) _ (omega arith) c.put_part-w.result _ c.put_part-w.ensures

pub put_from_run-requires : goal.put_from_run-requires
put_from_run-requires c =
    let a = c.args in
    let h = c.if-n-eq0.false in
    let t = c.if-n-rest.false in
    let u = c.put_part-w in
    let g = part_out (goal.at.put_from_run-requires c).After-put_part-w in (
      c.requires.0,
      c.requires.1,
      between_runs a.file.now a.v _ c.requires.1 a.c a.n (omega arith) c.requires.2 a.e _ _ u.result u.ensures,
      omega arith,
      ranks_fit a.file.now a.v _ c.requires.1 a.c a.n (omega arith) c.requires.2 a.e _ _ u.result u.ensures (omega arith),
      g.rest,
      g.room,
    )

pub returns : goal.returns
returns c =
    let a = c.args in
    let u = c.put_from_run in
    written_end _ _ _ _ _ _ _ _ _ _ (omega arith)
    (written_then (next a.file.now a.v) runs_coder keeps a.dst.now a.c a.e a.n _ _ _ _ (part_out (goal.at.returns c).After-put_part-w) _ (le_refl _) u.result _ u.ensures)

pub returns-then-n-rest : goal.returns-then-n-rest
returns-then-n-rest c = c.put_part.ensures
