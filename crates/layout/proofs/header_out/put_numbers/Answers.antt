-- `put_numbers` meets its contract: the numbers that are left, put on, give the whole. Assumes nothing.
use Prim.Native.Nat.{◌+◌, ◌*◌}
use mathlib.Core.Path.{sym, ◌∙◌}
use Rattle.stores.proofs.Laws.{put-numbers-end}
use Rattle.layout.proofs.Header.{numbers_turn}
use Rattle.layout.proofs.header_out.put_numbers.Goals as goal

pub loop-i-preserved : goal.loop-i-preserved
loop-i-preserved c =
    let a = c.args in
    let l = c.loop-i in
    rw c.put_u32.ensures (numbers_turn l.dst a.at a.numbers.now l.i c.loop-i-test.true ∙ l.invariant)

pub returns : goal.returns
returns c =
    let a = c.args in
    let l = c.loop-i in
    sym (put-numbers-end 4 l.dst (a.at + 4 * l.i) a.numbers.now l.i c.loop-i-test.false) ∙ l.invariant
