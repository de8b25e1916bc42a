use mathlib.Core.Path.{◌∙◌}
use Rattle.words.proofs.Turn.{none_turn, none_end}
use Rattle.words.proofs.words_right.Goals as goal

pub loop-i-preserved : goal.loop-i-preserved
loop-i-preserved c =
    let a = c.args in
    let l = c.loop-i in
    rw c.get_u32.ensures.0 (none_turn a.empty a.n l.i a.at a.file.now l.right c.loop-i-test.true ∙ l.invariant)

pub returns : goal.returns
returns c =
    let a = c.args in
    let l = c.loop-i in
    none_end a.empty a.n l.i a.at a.file.now l.right c.loop-i-test.false ∙ l.invariant
