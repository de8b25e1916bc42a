-- The encoder after a batch. Assumes nothing.
use Prim.Native.Nat.{◌+◌, ◌-◌, ◌≤◌}
use native.Mathlib.Nat.{mul-le-mul_right}
use native.Mathlib.Omega.{arith}
use lib.ListN.{length}
use Rattle.parts.specs.Ready.{Sound}
use Rattle.parts.proofs.Taken.{measure_begin, measure_end}
use Rattle.jump_entries.specs.Coding.{jumps_coder}
use Rattle.jump_entries.proofs.Batch.{along-rising, taken_batch, batch_fits}
use Rattle.jump_entries.proofs.coding.take_all.Goals.{After-taken-at}
use Rattle.jump_entries.proofs.coding.take_all.Goals as goal

pub returns-then-ps-eq0 : goal.returns-then-ps-eq0
returns-then-ps-eq0 c =
    let k = jumps_coder c.args.width in
    let n = c.if-ps-eq0.true in
    measure_end k c.args.ps.now c.args.e c.args.e 0 (omega arith) (measure_begin k c.args.ps.now c.args.e c.requires.2)

pub count_far-jumps-requires : goal.count_far-jumps-requires
count_far-jumps-requires c = along-rising c.args.e c.args.ps.now c.requires.2

-- no number wraps
fits : (c : After-taken-at)
    → let t = c.taken-at.result in Sound t × (t.rank + (length c.args.ps.now - 1) ≤ 16777216)
fits c =
    batch_fits c.args.width c.args.e c.args.ps.now c.if-ps-eq0.false c.requires.2 c.taken-at.ensures
    c.requires.1

pub overflow_cast-result : goal.overflow_cast-result
overflow_cast-result c = let n = (fits (goal.at.overflow_cast-result c).After-taken-at).1 in record { fits = omega arith }

pub overflow_add-result : goal.overflow_add-result
overflow_add-result c = let n = (fits (goal.at.overflow_add-result c).After-taken-at).1 in record { fits = omega arith }

pub overflow_add-result-2 : goal.overflow_add-result-2
overflow_add-result-2 c =
    let f = fits (goal.at.overflow_add-result-2 c).After-taken-at in
    let n = f.0.first-most in
    let m = f.1 in
    let x = c.count_far-jumps.ensures.1 in
    record { fits = omega arith }

pub overflow_add-result-3 : goal.overflow_add-result-3
overflow_add-result-3 c =
    let f = fits (goal.at.overflow_add-result-3 c).After-taken-at in
    let n = f.0.second-most in
    let m = f.1 in
    let k = mul-le-mul_right (length c.args.ps.now - 1) c.requires.1 in
    record { fits = omega arith }

pub returns : goal.returns
returns c =
    taken_batch c.args.width c.args.e c.args.ps.now c.if-ps-eq0.false c.requires.2 c.taken-at.ensures
    (rw c.limit.ensures at c.count_far-jumps.ensures.0)
