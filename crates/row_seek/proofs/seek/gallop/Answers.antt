-- The low rank stands below p all along, and the ranks after it fall. Assumes nothing.
use native.Mathlib.Omega.{arith}
use Rattle.row_seek.proofs.Resumed.{words-few}
use Rattle.row_seek.proofs.seek.gallop.Goals as goal

pub returns-then-p-at : goal.returns-then-p-at
returns-then-p-at c =
    let l = c.loop-step in
    let taken = c.loop-step-test.true in
    record {
      order = omega arith;
      most = omega arith;
      below = l.invariant.2;
      at = λ h. c.stored_position-at.ensures.0;
      past = λ h. c.if-p-at.true;
    }

pub overflow_mul-step : goal.overflow_mul-step
overflow_mul-step c =
    let m = words-few c.args.file.now c.args.v c.requires.0 in
    let taken = c.loop-step-test.true in
    record { fits = omega arith }

pub loop-step-preserved : goal.loop-step-preserved
loop-step-preserved c =
    let taken = c.loop-step-test.true in
    let l = c.loop-step.invariant in
    (omega arith, omega arith, omega (arith, c.stored_position-at.ensures.0, c.if-p-at.false))

pub returns : goal.returns
returns c =
    let l = c.loop-step.invariant in
    record { order = l.0; most = omega arith; below = l.2; at = λ h. absurd (omega arith); past = λ h. absurd (omega arith) }
