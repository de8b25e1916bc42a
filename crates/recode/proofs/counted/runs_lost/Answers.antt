use mathlib.Core.Path.{◌≡◌}
use native.Mathlib.Omega.{arith}
use Rattle.rewrite.proofs.Three.{ranks-there, cells-most}
use Rattle.recode.proofs.RunEdits.{lost-none, left_there, lost-one}
use Rattle.recode.proofs.counted.runs_lost.Goals as goal

pub runs_joined-requires : goal.runs_joined-requires
runs_joined-requires c = (c.requires.0, (ranks-there c.args.file.now c.args.v c.requires.0 c.args.x c.requires.1).1, λ p e. let z = e in cc)

pub returns-then-x : goal.returns-then-x
returns-then-x c = lost-none c.args.file.now c.args.v c.requires.0 c.args.x c.requires.1 c.args.end _ c.if-x.true c.runs_joined.ensures

pub stored_position-m-requires : goal.stored_position-m-requires
stored_position-m-requires c = (c.requires.0, left_there c.args.file.now c.args.v c.requires.0 c.args.x c.requires.1 c.if-x.false)

pub runs_joined-requires-2 : goal.runs_joined-requires-2
runs_joined-requires-2 c = (
  c.requires.0,
  (ranks-there c.args.file.now c.args.v c.requires.0 c.args.x c.requires.1).1,
  λ p e.
      let m = cells-most c.args.file.now c.args.v c.requires.0 c.args.x c.requires.1 in
      let q = c.stored_position-m.ensures.1 in
      let s : c.stored_position-m.result ≡ p = cc in
      rw (← s) (omega arith),
)

pub returns : goal.returns
returns c = lost-one c.args.file.now c.args.v c.requires.0 c.args.x c.requires.1 c.args.end _ _ c.if-x.false c.stored_position-m.ensures.0 c.runs_joined-2.ensures
