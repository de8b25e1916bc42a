-- Each turn copies a word. Assumes nothing.
use Rattle.box_rows.proofs.Copied.{copy_start, copy_turn, copy_end}
use Rattle.box_rows.proofs.copy_words.Goals as goal

pub loop-i-init : goal.loop-i-init
loop-i-init c = copy_start _ _ _ _ _

pub loop-i-preserved : goal.loop-i-preserved
loop-i-preserved c =
    let a = c.args in
    let l = c.loop-i in
    copy_turn a.file.now a.at a.from a.n a.dst.now l.dst l.i l.invariant c.get_u32.result c.loop-i-test.true c.get_u32.ensures.0

pub returns : goal.returns
returns c =
    let a = c.args in
    let l = c.loop-i in
    copy_end a.file.now a.at a.from a.n a.dst.now l.dst l.i l.invariant c.loop-i-test.false
