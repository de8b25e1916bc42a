use Rattle.format.specs.Answers.{position_says}
use Rattle.opened.proofs.Openings.{position-beyond, position-through}
use Rattle.opened.proofs.position_within.Goals as goal

pub returns-then-v-eq0 : goal.returns-then-v-eq0
returns-then-v-eq0 c =
    let a = c.args in
    position-beyond a.file.now a.v a.r.0 c.if-v-eq0.true

pub returns : goal.returns
returns c =
    let a = c.args in
    position-through a.file.now a.v a.r.0 (position_says c.position_in.result) c.if-v-eq0.false c.position_in.ensures
