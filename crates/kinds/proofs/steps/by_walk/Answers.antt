use borrow.Author.Tests.{ne_eqb}
use Rattle.kinds.specs.declared.kind.Kind.TheVariants as kind
use Rattle.kinds.proofs.Told.{none_told}
use Rattle.kinds.proofs.steps.by_walk.Goals as goal

pub returns-in_default-2 : goal.returns-in_default-2
returns-in_default-2 c =
    let n = none_told c.try_from.ensures c.in_default.is in
    rw (ne_eqb _ 4 (n kind.Jumps), ne_eqb _ 6 (n kind.PointedJumps))
