use native.Mathlib.Omega.{arith}
use Rattle.rewrite.proofs.Three.{ranks-there}
use Rattle.recode.proofs.RunEdits.{few_words}
use Rattle.recode.proofs.RunSizes.{few-ranks, ranks_measure, runs_measure}
use Rattle.recode.proofs.counted.sized.Goals as goal

pub ranks_after-requires : goal.ranks_after-requires
ranks_after-requires c =
    let a = c.args in
    let t = ranks-there a.file.now a.v c.requires.0 a.x c.requires.1 in
    (t.0, t.1, few_words a.file.now a.v c.requires.0)

pub by_counts-requires : goal.by_counts-requires
by_counts-requires c =
    let a = c.args in
    (c.requires.2, few-ranks a.file.now a.v c.requires.0 a.x c.requires.1 _ c.ranks_after.ensures.0, omega arith)

pub returns-then-sized_by_ranks : goal.returns-then-sized_by_ranks
returns-then-sized_by_ranks c =
    let a = c.args in
    let r = c.by_counts in
    ranks_measure a.file.now a.v c.requires.0 a.x c.requires.1 _ c.ranks_after.ensures.0 a.s c.requires.2 _ r.result
    r.ensures (c.sized_by_ranks.ensures c.if-sized_by_ranks.true)

pub ranks_after-requires-then-stores_runs-2 : goal.ranks_after-requires-then-stores_runs-2
ranks_after-requires-then-stores_runs-2 c =
    let a = c.args in
    let t = ranks-there a.file.now a.v c.requires.0 a.x c.requires.1 in
    (t.0, t.1, few_words a.file.now a.v c.requires.0)

pub runs_after-requires : goal.runs_after-requires
runs_after-requires c =
    let p = c.requires in
    (p.0, p.1, c.stores_runs-then-stores_runs.ensures.0 c.if-stores_runs-2.true)

pub by_counts-requires-then-stores_runs-2 : goal.by_counts-requires-then-stores_runs-2
by_counts-requires-then-stores_runs-2 c =
    let a = c.args in
    (c.requires.2, few-ranks a.file.now a.v c.requires.0 a.x c.requires.1 _ c.ranks_after-then-stores_runs-2.ensures.0, c.runs_after.ensures.1)

pub returns-then-stores_runs-2 : goal.returns-then-stores_runs-2
returns-then-stores_runs-2 c =
    let a = c.args in
    let r = c.by_counts-then-stores_runs-2 in
    runs_measure a.file.now a.v c.requires.0 a.x c.requires.1 _ c.ranks_after-then-stores_runs-2.ensures.0 a.s c.requires.2 _ r.result
    r.ensures (c.stores_runs.ensures.0 c.if-stores_runs.true) c.runs_after.ensures.0
