use Rattle.std.proofs.Common.{◌≡◌, ◌+◌, ◌-◌, ◌≤◌, length, ap, ◌∙◌, le_refl, arith}
use Rattle.parts.specs.declared.Cursor.{Cursor}
use Rattle.parts.proofs.Carried.{Written, written_begin, written_then, written_end, turn_now, turn_room_now}
use Rattle.run_search.specs.Before.{ranks_before}
use Rattle.run_walk.specs.Steps.{next}
use Rattle.run_pairs.specs.Coding.{runs_coder}
use Rattle.run_pairs.proofs.Adds.{keeps}
use Rattle.runs.proofs.Lookup.{FirstWith, first_with}
use Rattle.runs_copy.proofs.Whole.{at-rank-before}
use Rattle.runs_copy.proofs.FromRun.{not-before, last_part, ahead}
use Rattle.runs_copy.proofs.copy.put_from_run.Goals.{After-put_whole-w, After-run_with-j}
use Rattle.runs_copy.proofs.copy.put_from_run.Goals as goal

found : (c : After-run_with-j) → let a = c.args in FirstWith a.file.now a.v (a.c.rank + a.n) c.run_with-j.result
found c = let a = c.args in first_with a.file.now a.v _ c.requires.1 (a.c.rank + a.n) c.run_with-j.result c.run_with-j.ensures

after : (c : After-run_with-j) → let a = c.args in a.c.next ≤ c.run_with-j.result + 1
after c = let a = c.args in not-before a.file.now a.v _ c.requires.1 a.c a.e c.requires.2 a.n c.run_with-j.result c.requires.3 (found c)

most : (c : After-run_with-j) → let a = c.args in ranks_before a.file.now a.v.start c.run_with-j.result - a.c.rank ≤ a.n
most c = let f = (found c).begins in omega arith

pub put_whole-w-requires : goal.put_whole-w-requires
put_whole-w-requires c =
    let a = c.args in
    let f = next a.file.now a.v in
    let m = ranks_before a.file.now a.v.start c.run_with-j.result - a.c.rank in
    let l = most (goal.at.put_whole-w-requires c).After-run_with-j in (
      c.requires.1,
      c.requires.2,
      after (goal.at.put_whole-w-requires c).After-run_with-j,
      (found (goal.at.put_whole-w-requires c).After-run_with-j).most,
      turn_now f runs_coder a.c a.e m a.n l c.requires.5,
      turn_room_now f runs_coder a.c a.e m a.n l (length a.dst.now) c.requires.6,
    )

-- the whole runs are gone
gone : (c : After-put_whole-w)
    → let a = c.args in
    Written (next a.file.now a.v) runs_coder a.dst.now a.c a.e a.n c.put_whole-w.new.dst c.put_whole-w.result.c c.put_whole-w.result.e
    (a.n - (ranks_before a.file.now a.v.start c.run_with-j.result - a.c.rank))
gone c =
    let a = c.args in
    let f = (first_with a.file.now a.v _ c.requires.1 (a.c.rank + a.n) c.run_with-j.result c.run_with-j.ensures).begins in
    let m : ranks_before a.file.now a.v.start c.run_with-j.result - a.c.rank ≤ a.n = omega arith in
    written_then (next a.file.now a.v) runs_coder keeps a.dst.now a.c a.e a.n a.dst.now a.c a.e a.n
    (written_begin _ _ _ _ _ _ c.requires.5 c.requires.6) _ m c.put_whole-w.result _ c.put_whole-w.ensures.1

rank_now : (c : After-put_whole-w) → let a = c.args in c.put_whole-w.result.c.rank ≡ ranks_before a.file.now a.v.start c.run_with-j.result
rank_now c =
    let a = c.args in
    ap (λ (x : Cursor). x.rank) c.put_whole-w.ensures.0 ∙ at-rank-before a.file.now a.v _ c.requires.1 a.c c.run_with-j.result

-- what is left
left : (c : After-put_whole-w)
    → let a = c.args in
    a.n - (ranks_before a.file.now a.v.start c.run_with-j.result - a.c.rank) ≡ a.c.rank + a.n - c.put_whole-w.result.c.rank
left c =
    let a = c.args in
    let r = rank_now c in
    let f = first_with a.file.now a.v _ c.requires.1 (a.c.rank + a.n) c.run_with-j.result c.run_with-j.ensures in
    let b = not-before a.file.now a.v _ c.requires.1 a.c a.e c.requires.2 a.n c.run_with-j.result c.requires.3 f in
    let t = (ahead a.file.now a.v _ c.requires.1 a.c a.e c.requires.2 c.run_with-j.result b f.most).ranks in
    omega arith

pub overflow_sub-end : goal.overflow_sub-end
overflow_sub-end c =
    let r = rank_now (goal.at.overflow_sub-end c).After-put_whole-w in
    let f = (found (goal.at.overflow_sub-end c).After-run_with-j).begins in
    omega arith

pub put_part-requires : goal.put_part-requires
put_part-requires c =
    let a = c.args in
    let g = rw (left (goal.at.put_part-requires c).After-put_whole-w) at (gone (goal.at.put_part-requires c).After-put_whole-w) in (
      c.requires.0,
      last_part a.file.now a.v _ c.requires.1 a.c a.e c.requires.2 a.n c.run_with-j.result c.requires.3 (found (goal.at.put_part-requires c).After-run_with-j) c.requires.4 _ c.put_whole-w.ensures.0,
      g.rest,
      g.room,
    )

pub returns : goal.returns
returns c =
    let a = c.args in
    let u = c.put_part in
    let g = rw (left (goal.at.returns c).After-put_whole-w) at (gone (goal.at.returns c).After-put_whole-w) in
    written_end _ _ _ _ _ _ _ _ _ _ (omega arith)
    (written_then (next a.file.now a.v) runs_coder keeps a.dst.now a.c a.e a.n _ _ _ _ g _ (le_refl _) u.result _ u.ensures)
