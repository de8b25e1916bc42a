-- From the pointer's rank over the jumps between. Assumes nothing.
use Prim.Native.Nat.{◌-◌}
use mathlib.Core.Path.{refl}
use native.Mathlib.Nat.{mul-le-mul_right, div-le_self, div-mul-le_self, min-le_right}
use native.Mathlib.Omega.{arith}
use Rattle.differences.proofs.Walked.{room}
use Rattle.pointed_jumps.proofs.Found.{after-rank, placed, of_jump}
use Rattle.pointed_jumps.proofs.search.jump_place.Goals as goal

-- From the pointer's rank over the jumps between. Assumes nothing.
pub overflow_cast-k : goal.overflow_cast-k
overflow_cast-k c = let a = c.args in let m = div-le_self a.j a.v.step in record { fits = omega arith }

pub overflow_mul-k : goal.overflow_mul-k
overflow_mul-k c = let a = c.args in let m = div-le_self a.j a.v.step in record { fits = omega arith }

pub overflow_add-pointers : goal.overflow_add-pointers
overflow_add-pointers c =
    let m = div-le_self c.args.j c.args.v.step in
    let n = mul-le-mul_right c.args.v.words c.requires.1 in
    let e = c.pointers_at-pointers.ensures in
    record { fits = omega arith }

pub overflow_mul-between : goal.overflow_mul-between
overflow_mul-between c = let a = c.args in let m = div-mul-le_self a.j a.v.step in record { fits = omega arith }

pub overflow_sub-between : goal.overflow_sub-between
overflow_sub-between c = let a = c.args in div-mul-le_self a.j a.v.step

pub jump_after-rank-requires : goal.jump_after-rank-requires
jump_after-rank-requires c =
    let s = c.requires.2 in
    let n = s.words in
    let e = c.min.ensures in
    let m = min-le_right c.load_u32-pointer.result (c.args.v.words - 1) in
    (room c.args.file.now c.requires.0 c.requires.1 s.inside (omega arith) (omega arith), omega arith)

pub returns : goal.returns
returns c =
    let o = c.requires.3 in
    let l = c.load_u32-pointer in
    let g = rw c.pointers_at-pointers.ensures at l.ensures.0 in
    let x = rw c.min.ensures at c.jump_after-rank.ensures in
    let f = after-rank c.args.file.now c.args.v c.args.width _ l.result g c.args.j _ (div-mul-le_self c.args.j c.args.v.step) o x in
    let p = c.at_jump.ensures in (
      placed c.args.file.now c.args.v c.args.width _ c.args.j _ _ p o f,
      of_jump c.args.file.now c.args.v c.args.width _ c.args.j _ _ p o f refl,
    )
