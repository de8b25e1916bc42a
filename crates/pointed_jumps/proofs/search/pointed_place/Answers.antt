-- The rank that a pointer names. Assumes nothing.
use native.Mathlib.Nat.{mul-le-mul_right}
use native.Mathlib.Omega.{arith}
use Rattle.pointed_jumps.proofs.Found.{pointer_jump, pointer_rank, placed}
use Rattle.pointed_jumps.proofs.search.pointed_place.Goals as goal

-- The rank that a pointer names. Assumes nothing.
pub last_at_most-k-requires : goal.last_at_most-k-requires
last_at_most-k-requires c =
    let m = mul-le-mul_right c.args.v.words c.requires.1 in
    let e = c.pointers_at-pointers.ensures in
    omega arith

pub overflow_mul-k-2 : goal.overflow_mul-k-2
overflow_mul-k-2 c =
    let s = c.requires.2 in
    let o = pointer_jump c.args.v c.pointer_count-count.ensures.0 s.step s.jumps c.last_at_most-k.ensures.within in
    record { fits = omega arith }

pub returns : goal.returns
returns c =
    let s = c.requires.2 in
    let l = c.load_u32-named in
    let o = pointer_jump c.args.v c.pointer_count-count.ensures.0 s.step s.jumps c.last_at_most-k.ensures.within in
    let g = rw c.pointers_at-pointers.ensures at l.ensures.0 in
    placed c.args.file.now c.args.v c.args.width _ _ c.args.rank _ c.at_jump.ensures o
    (pointer_rank c.args.file.now c.args.v c.args.width _ l.result g o)
