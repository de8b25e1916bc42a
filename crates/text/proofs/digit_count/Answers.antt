-- `digit_count` meets its contract: the digits counted and those of the rest. Assumes nothing.
use mathlib.Core.Path.{◌≡◌}
use native.Mathlib.Omega.{arith}
use lib.ListN.{length}
use Rattle.format.specs.Lister.{decimal}
use Rattle.text.proofs.Decimal.{decimal-most, decimal-one, length-decimal_more}
use borrow.Author.Rules.{rules}
use Rattle.text.proofs.digit_count.Goals as goal

pub overflow_add-count : goal.overflow_add-count
overflow_add-count c = let f = c.ranges in let k = decimal-most c.args.n in let e = c.loop-rest.invariant.1 in search rules

pub loop-rest-preserved : goal.loop-rest-preserved
loop-rest-preserved c =
    let l = c.loop-rest in
    let e = l.invariant.1 in
    let f = c.ranges in
    (omega arith, omega (arith, length-decimal_more l.rest (omega arith) c.loop-rest-test.true))

pub returns : goal.returns
returns c =
    let l = c.loop-rest in
    let e = l.invariant.1 in
    let o : length (decimal l.rest) ≡ 1 = rw (decimal-one l.rest (omega arith)) in
    let m = decimal-most c.args.n in
    (omega arith, omega arith)
