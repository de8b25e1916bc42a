use native.Mathlib.Omega.{arith}
use Rattle.search.proofs.Places.{position_is}
use Rattle.search.proofs.stored_position.Goals as goal

pub overflow_cast-result : goal.overflow_cast-result
overflow_cast-result c =
    let k = position_is c.args.file.now c.args.v c.args.r.0 _ c.requires.1 c.position_of.ensures c.requires.0 in
    record { fits = omega (arith, k.1) }

pub returns : goal.returns
returns c =
    position_is c.args.file.now c.args.v c.args.r.0 _ c.requires.1 c.position_of.ensures c.requires.0
