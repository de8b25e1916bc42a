-- Rank by rank. Assumes nothing.
use Rattle.std.proofs.Common.{◌≡◌, suc, ◌+◌, ◌-◌, length, arith}
use Rattle.difference_rows.specs.Steps.{next_at}
use Rattle.difference_rows.proofs.Filled.{going_turn, fill_end}
use Rattle.difference_rows.proofs.batch.each_u8.Goals as goal

pub loop-p-preserved : goal.loop-p-preserved
loop-p-preserved c =
    let a = c.args in
    let l = c.loop-p in
    let n = length a.out.now in
    let h = c.loop-p-test.true in
    let e : n - l.p-index ≡ suc (n - (l.p-index + 1)) = omega arith in
    going_turn 1 a.start a.second a.file.now a.c 0 n a.out.now l.c l.p-index _ l.out (omega arith) l.invariant _ e c.difference-d.ensures.0 c.step_by-c.ensures

pub returns : goal.returns
returns c =
    let a = c.args in
    let l = c.loop-p in
    let h = c.loop-p-test.false in
    fill_end (next_at 1 a.start a.second a.file.now) a.c 0 (length a.out.now) a.out.now l.c l.p-index _ l.out l.invariant.left (omega arith)
