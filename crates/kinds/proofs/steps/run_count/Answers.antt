use borrow.Author.Tests.{ne_eqb}
use Rattle.kinds.specs.declared.kind.Kind.TheVariants as kind
use Rattle.kinds.proofs.Told.{none_told}
use Rattle.kinds.proofs.steps.run_count.Goals as goal

pub returns-in_default-2 : goal.returns-in_default-2
returns-in_default-2 c = rw (ne_eqb c.args.v.kind 1 (none_told c.try_from.ensures c.in_default.is kind.Runs))
