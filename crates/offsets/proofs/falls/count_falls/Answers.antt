use Rattle.std.proofs.Common.{rules}
use Rattle.offsets.proofs.Falling.{falls_other}
use Rattle.offsets.proofs.falls.count_falls.Goals as goal

pub falls_of-requires : goal.falls_of-requires
falls_of-requires c = rw c.in-1.is at c.requires

pub falls_of-requires-in-2 : goal.falls_of-requires-in-2
falls_of-requires-in-2 c = rw c.in-2.is at c.requires

pub returns-in-1 : goal.returns-in-1
returns-in-1 c = rw c.in-1.is c.falls_of.ensures

pub returns-in-2 : goal.returns-in-2
returns-in-2 c = rw c.in-2.is c.falls_of-in-2.ensures

pub returns-in_default : goal.returns-in_default
returns-in_default c =
    let a = c.args in
    falls_other a.width a.n a.at a.file.now (λ e. search rules) (λ e. search rules) c.requires.0
