use mathlib.Core.Path.{sym}
use Rattle.rewrite.proofs.Stretch.{all_end}
use Rattle.rewrite.proofs.walk.measure_added.Goals as goal

pub returns-in_default : goal.returns-in_default
returns-in_default c = let a = c.args in rw c.in_default.is (sym (all_end a.s a.e))

pub take_all-requires : goal.take_all-requires
take_all-requires c = let p = c.requires in (p.0, rw c.in-Some.is at p.1)

pub returns : goal.returns
returns c = rw c.in-Some.is c.take_all.ensures
