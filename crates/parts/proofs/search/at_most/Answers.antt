use Rattle.std.proofs.Common.{◌≡◌, ◌+◌, ◌*◌, ◌≤◌, leb, length, sym, ◌∙◌, mul-le-mul_left, arith}
use Rattle.wire.specs.Wire.{whole}
use Rattle.wire.proofs.Laws.{whole-there}
use Rattle.parts.proofs.Last.{passing-none, passing-next}
use Rattle.parts.proofs.search.at_most.Goals.{In-loop-i}
use Rattle.parts.proofs.search.at_most.Goals as goal

-- the next number is in the file
room : (c : In-loop-i) → c.args.at + c.args.stride * (c.loop-i.i + 1) + 4 ≤ length c.args.file.now
room c =
    let h = c.loop-i-test.true in
    let k : c.loop-i.i + 1 ≤ c.args.n = omega arith in
    let m = mul-le-mul_left c.args.stride k in
    let p = c.requires in
    omega arith

pub overflow_add-count : goal.overflow_add-count
overflow_add-count c =
    let k = c.loop-i.invariant.0 in
    let m = c.counted-count.ensures.1 in
    omega arith

pub loop-i-preserved : goal.loop-i-preserved
loop-i-preserved c =
    let a = c.args in
    let l = c.loop-i in
    let m = c.counted-count.ensures.1 in
    let g = c.get_u32.ensures.0 ∙ sym (whole-there 4 (a.at + a.stride * (l.i + 1)) a.file.now (room (goal.at.loop-i-preserved c).In-loop-i)) in (
      omega arith,
      rw l.invariant.1 (passing-next (λ k. leb (whole 4 (a.at + a.stride * k) a.file.now) a.x) l.i c.counted-count.result (rw g at c.counted-count.ensures.0)),
    )

pub returns : goal.returns
returns c =
    let l = c.loop-i in
    let e : l.i ≡ c.args.n = omega arith in
    (rw e at l.invariant.1, omega arith)

pub loop-i-init : goal.loop-i-init
loop-i-init c = (omega arith, passing-none _)

pub overflow_mul-stride : goal.overflow_mul-stride
overflow_mul-stride c = let r = room c in omega arith

pub overflow_add-at : goal.overflow_add-at
overflow_add-at c = let r = room c in omega arith

pub get_u32-requires : goal.get_u32-requires
get_u32-requires c = room c
