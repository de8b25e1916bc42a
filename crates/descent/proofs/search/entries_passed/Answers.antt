-- `entries_passed` meets its contract. Assumes nothing.
use Rattle.std.proofs.Common.{leb, ◌∙◌, arith}
use Rattle.descent.proofs.Counting.{counting_first, counting_on, counting_end, flag, flag_le}
use Rattle.descent.proofs.search.entries_passed.Goals as goal

pub loop-i-init : goal.loop-i-init
loop-i-init c = let f = c.requires in counting_first _ _ _ _ _ _ f.0 f.1

pub overflow_add-k : goal.overflow_add-k
overflow_add-k c =
    let l = c.loop-i.invariant in
    let f = l.few in
    let s = l.small in
    record { fits = omega (arith, c.from-k.ensures, flag_le) }

pub loop-i-preserved : goal.loop-i-preserved
loop-i-preserved c =
    let l = c.loop-i in
    let t = leb c.count_at.result c.args.p in
    counting_on _ _ _ _ _ _ _ _ l.invariant c.count_at.result c.from-k.result (omega arith) c.count_at.ensures (c.from-k.ensures ∙ flag t) (rw c.from-k.ensures (flag_le t))

pub returns : goal.returns
returns c =
    let e = counting_end _ _ _ _ _ _ _ _ c.loop-i.invariant (omega arith) in
    let e1 = e.1 in
    (e.0, omega arith)
