-- What is left of the walk gives the whole, and the ranks ahead fall. Assumes nothing.
use Rattle.std.proofs.Common.{◌∙◌}
use Rattle.parts.proofs.Sought.{sought-end, sought-there}
use Rattle.jump_walk.specs.Steps.{next}
use Rattle.jump_walk.proofs.steps.seek.Goals as goal

pub returns-then-wanted-c : goal.returns-then-wanted-c
returns-then-wanted-c c =
    let a = c.args in
    let l = c.loop-c in
    sought-there (next a.file.now a.v) a.v.words a.p.0 _ l.c c.if-wanted-c.true ∙ l.invariant.0

pub returns : goal.returns
returns c =
    let a = c.args in
    let l = c.loop-c in
    sought-end (next a.file.now a.v) a.v.words a.p.0 l.c c.loop-c-test.false ∙ l.invariant.0
