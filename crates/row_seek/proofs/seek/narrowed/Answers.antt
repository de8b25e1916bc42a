-- The two ranks stay around p, and come nearer. Assumes nothing.
use native.Mathlib.Omega.{arith}
use Rattle.row_seek.proofs.seek.narrowed.Goals as goal

pub loop-g-init : goal.loop-g-init
loop-g-init c = c.requires.1

pub loop-g-preserved-then-at-p : goal.loop-g-preserved-then-at-p
loop-g-preserved-then-at-p c =
    let i = c.loop-g.invariant in
    record {
      order = omega arith;
      most = i.most;
      below = omega (arith, c.stored_position-at.ensures.0, c.if-at-p.true);
      at = i.at;
      past = i.past;
    }

pub loop-g-preserved : goal.loop-g-preserved
loop-g-preserved c =
    let i = c.loop-g.invariant in
    record {
      order = omega arith;
      most = omega arith;
      below = i.below;
      at = λ h. c.stored_position-at.ensures.0;
      past = λ h. c.if-at-p.false;
    }

pub returns : goal.returns
returns c = let i = c.loop-g.invariant in (i, omega arith)
