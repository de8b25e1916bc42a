use Prim.Native.Nat.{◌-◌}
use native.Mathlib.Omega.{arith}
use Rattle.format.specs.Accepted.{positions_of}
use Rattle.recode.proofs.RunEdits.{end_none, end-there}
use Rattle.recode.proofs.counted.end_before.Goals as goal

pub returns-then-r-eq0 : goal.returns-then-r-eq0
returns-then-r-eq0 c = end_none c.args.r (positions_of c.args.file.now) c.if-r-eq0.true

pub stored_position-requires : goal.stored_position-requires
stored_position-requires c = (c.requires.0, let h = c.requires.1 in omega (arith, c.if-r-eq0.false))

pub overflow_add-result : goal.overflow_add-result
overflow_add-result c = let q = c.stored_position.ensures.1 in omega arith

pub returns : goal.returns
returns c =
    let g = c.args in
    let h = c.requires.1 in
    let l = c.if-r-eq0.false in
    end-there g.file.now g.v c.requires.0 (g.r - 1) (omega (arith, l)) g.r _ (omega (arith, l)) c.stored_position.ensures.0
