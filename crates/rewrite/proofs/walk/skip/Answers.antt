use mathlib.Core.Path.{sym, ◌∙◌}
use native.Mathlib.Nat.{sub-zero}
use Rattle.rewrite.proofs.Stretch.{skip_turn, skip_end}
use Rattle.rewrite.proofs.walk.skip.Goals as goal

pub loop-init : goal.loop-init
loop-init c = rw sub-zero

pub loop-preserved : goal.loop-preserved
loop-preserved c =
    let a = c.args in
    let l = c.loop in
    rw c.next-c.ensures (skip_turn a.file.now a.v l.c a.n l.counter c.loop-test.true) ∙ l.invariant

pub returns : goal.returns
returns c =
    let a = c.args in
    let l = c.loop in
    sym (skip_end a.file.now a.v l.c a.n l.counter c.loop-test.false) ∙ l.invariant
