-- The place of a position. Assumes nothing.
use native.Mathlib.Nat.{pos_of_ne-zero, mul-le-mul_right}
use native.Mathlib.Omega.{arith}
use Rattle.jumps.proofs.Found.{none, short, found_first}
use Rattle.jumps.proofs.search.seek.Goals as goal

-- The place of a position. Assumes nothing.
pub returns-then-v-eq0 : goal.returns-then-v-eq0
returns-then-v-eq0 c = let a = c.args in none a.file.now a.v a.p c.if-v-eq0.true

pub overflow_mul-width : goal.overflow_mul-width
overflow_mul-width c = let m = mul-le-mul_right c.args.v.words c.requires.1 in record { fits = omega arith }

pub overflow_add-v : goal.overflow_add-v
overflow_add-v c = let n = c.struct_known-2-1.given in let m = mul-le-mul_right c.args.v.words c.requires.1 in omega arith

pub returns-then-file-v : goal.returns-then-file-v
returns-then-file-v c = short c.args.file.now c.args.v c.args.width c.requires.2 c.if-file-v.true c.args.p

pub seek_from-requires : goal.seek_from-requires
seek_from-requires c =
    let z = c.requires in
    let f = c.first_place.ensures in
    let n = pos_of_ne-zero c.if-v-eq0.false in
    (z.0, z.1, rw f.0 n, c.if-file-v.false, rw f.0 f.2)

pub returns : goal.returns
returns c =
    let f = c.first_place in
    found_first c.args.file.now c.args.v c.args.width c.requires.2 f.result c.args.p _ f.ensures.0 f.ensures.1 c.seek_from.ensures
