use Rattle.std.proofs.Common.{◌/◌, mul-le-mul_left, arith}
use Rattle.parts.proofs.Last.{left-all, last_none, last-cut, eighth, last_part}
use Rattle.parts.proofs.search.last_at_most.Goals as goal

pub loop-size-init : goal.loop-size-init
loop-size-init c =
    let n = c.if-n-eq0.false in
    let l = c.if-file-start.false in
    (omega arith, omega arith, left-all _ _ _ (omega arith))

pub overflow_mul-low-in-loop-size : goal.overflow_mul-low-in-loop-size
overflow_mul-low-in-loop-size c =
    let l = c.loop-size in
    let w = l.invariant.2.within in
    let s = l.invariant.1 in
    let m = mul-le-mul_left (l.size / 8) c.at_most.ensures.1 in
    omega arith

pub overflow_add-low : goal.overflow_add-low
overflow_add-low c =
    let l = c.loop-size in
    let w = l.invariant.2.within in
    let s = l.invariant.1 in
    let m = mul-le-mul_left (l.size / 8) c.at_most.ensures.1 in
    omega arith

pub loop-size-preserved : goal.loop-size-preserved
loop-size-preserved c =
    let a = c.args in
    let l = c.loop-size in
    let i = l.invariant in
    (i.0, i.1, eighth a.file.now a.start a.n a.x l.low l.size i.2 c.at_most.result c.loop-size-test.true c.at_most.ensures.0 c.at_most.ensures.1)

pub returns : goal.returns
returns c =
    let a = c.args in
    let l = c.loop-size in
    last_part a.file.now a.start a.n a.x l.low l.size l.invariant.2 c.at_most-low.result c.at_most-low.ensures.0 c.at_most-low.ensures.1

pub returns-then-n-eq0 : goal.returns-then-n-eq0
returns-then-n-eq0 c = last_none _ _ _ c.if-n-eq0.true

pub returns-then-file-start : goal.returns-then-file-start
returns-then-file-start c = last-cut _ _ _ _ c.if-n-eq0.false c.if-file-start.true

pub overflow_mul-low : goal.overflow_mul-low
overflow_mul-low c = let w = c.loop-size.invariant.2.within in let s = c.loop-size.invariant.1 in omega arith

pub overflow_add-start-in-loop-size : goal.overflow_add-start-in-loop-size
overflow_add-start-in-loop-size c = let w = c.loop-size.invariant.2.within in let s = c.loop-size.invariant.0 in omega arith

pub overflow_mul-part : goal.overflow_mul-part
overflow_mul-part c = let w = c.loop-size.invariant.2.within in let s = c.loop-size.invariant.1 in omega arith

pub at_most-requires : goal.at_most-requires
at_most-requires c = let w = c.loop-size.invariant.2.within in let s = c.loop-size.invariant.0 in omega arith

pub overflow_mul-size : goal.overflow_mul-size
overflow_mul-size c = let w = c.loop-size.invariant.2.within in let s = c.loop-size.invariant.1 in omega arith

pub loop-size-smaller : goal.loop-size-smaller
loop-size-smaller c = let h = c.loop-size-test.true in omega arith

pub overflow_mul-low-2 : goal.overflow_mul-low-2
overflow_mul-low-2 c = let w = c.loop-size.invariant.2.within in let s = c.loop-size.invariant.1 in omega arith

pub overflow_add-start-2 : goal.overflow_add-start-2
overflow_add-start-2 c = let w = c.loop-size.invariant.2.within in let s = c.loop-size.invariant.0 in omega arith

pub overflow_sub-size-2 : goal.overflow_sub-size-2
overflow_sub-size-2 c = let w = c.loop-size.invariant.2.some in omega arith

pub at_most-low-requires : goal.at_most-low-requires
at_most-low-requires c = let w = c.loop-size.invariant.2.within in let t = c.loop-size.invariant.2.some in let s = c.loop-size.invariant.0 in omega arith

pub overflow_add-low-2 : goal.overflow_add-low-2
overflow_add-low-2 c = let w = c.loop-size.invariant.2.within in let s = c.loop-size.invariant.1 in let m = c.at_most-low.ensures.1 in omega arith

pub overflow_cast-result : goal.overflow_cast-result
overflow_cast-result c = let w = c.loop-size.invariant.2.within in let s = c.loop-size.invariant.1 in let t = c.loop-size.invariant.2.some in let m = c.at_most-low.ensures.1 in omega arith
