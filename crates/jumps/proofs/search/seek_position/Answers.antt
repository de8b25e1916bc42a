-- The position of a rank. Assumes nothing.
use native.Mathlib.Nat.{mul-le-mul_right}
use Rattle.std.proofs.Common.{None}
use native.Mathlib.Omega.{arith}
use Rattle.differences.proofs.Walked.{room}
use Rattle.jumps.proofs.Found.{position-short, position-found}
use Rattle.jumps.proofs.search.seek_position.Goals as goal

-- The position of a rank. Assumes nothing.
pub overflow_mul-width : goal.overflow_mul-width
overflow_mul-width c = let m = mul-le-mul_right c.args.v.words c.requires.1 in record { fits = omega arith }

pub overflow_add-second : goal.overflow_add-second
overflow_add-second c = let m = mul-le-mul_right c.args.v.words c.requires.1 in omega arith

pub returns-then-file-second : goal.returns-then-file-second
returns-then-file-second c = position-short c.args.file.now c.args.v c.args.width c.requires.3 c.if-file-second.true c.args.rank

pub walk-place-requires : goal.walk-place-requires
walk-place-requires c =
    let f = c.first_place.ensures in
    let n = f.0 in
    (room c.args.file.now c.requires.0 c.requires.1 c.if-file-second.false (omega arith) c.requires.2, omega arith, rw n f.2)

pub returns : goal.returns
returns c =
    let f = c.first_place in
    let z = c.walk-place.ensures in
    position-found c.args.file.now c.args.v c.args.width c.requires.3 f.result c.args.rank None _ f.ensures.0 f.ensures.1 c.requires.2 z z.all
