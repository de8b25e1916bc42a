use Prim.Native.Nat.{◌+◌, ◌-◌, ◌%◌, ◌^◌, ◌≤◌, ◌<◌}
use mathlib.Core.Path.{◌∙◌}
use native.Mathlib.Omega.{arith}
use lib.ListN.{length-set}
use Rattle.text.proofs.Decimal.{length-decimal_more, decimal-some, decimal-short, decimal-long}
use Rattle.text.proofs.Placing.{decimal_turn, decimal-end}
use Rattle.text.proofs.put_decimal.Goals.{After-loop-i}
use Rattle.text.proofs.put_decimal.Goals as goal

pub loop-i-preserved : goal.loop-i-preserved
loop-i-preserved c =
    let a = c.args in
    let l = c.loop-i in
    let t = c.loop-i-test.true in
    let p = l.invariant.2 in
    let small : l.rest < 10 ^ 10 = omega arith in
    let more : 10 ≤ l.rest = decimal-long l.rest (omega arith) in
    let k = length-decimal_more l.rest small more in (
      omega arith,
      length-set l.dst (l.i - 1) (48 + l.rest % 10) ∙ l.invariant.1,
      omega arith,
      decimal_turn l.dst a.at l.rest l.i small more p ∙ l.invariant.3,
    )

-- what is left is the first digit
last : (c : After-loop-i) → c.loop-i.rest < 10
last c = let p = c.loop-i.invariant.2 in let h = c.loop-i-test.false in decimal-short c.loop-i.rest (omega arith) (omega arith)

pub overflow_add-dst-2 : goal.overflow_add-dst-2
overflow_add-dst-2 c = let d = last c in record { fits = omega arith }

pub overflow_cast-dst-2 : goal.overflow_cast-dst-2
overflow_cast-dst-2 c = let d = last c in record { fits = omega arith }

pub bounds-dst-at : goal.bounds-dst-at
bounds-dst-at c = let s = decimal-some c.args.n in omega arith

pub returns : goal.returns
returns c =
    let l = c.loop-i in
    let e = c.digit_count.ensures.0 in
    record { place = omega arith; bytes = decimal-end l.dst c.args.at l.rest (last c) ∙ l.invariant.3 }
