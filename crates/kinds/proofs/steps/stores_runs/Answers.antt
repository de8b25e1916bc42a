use Rattle.std.proofs.Common.{⊎_elim}
use Rattle.kinds.specs.declared.kind.Kind.TheVariants as kind
use Rattle.kinds.proofs.Told.{none_told}
use Rattle.kinds.proofs.None.{never}
use Rattle.kinds.proofs.steps.stores_runs.Goals as goal

pub returns-in_default-2 : goal.returns-in_default-2
returns-in_default-2 c =
    let n = none_told c.try_from.ensures c.in_default.is in
    (λ h. absurd (never h), λ s. absurd (⊎_elim (n kind.Runs) (n kind.PagedRuns) s))
