use Rattle.kinds.specs.declared.kind.Kind.TheVariants as kind
use Rattle.kinds.proofs.Told.{told, told_other}
use Rattle.kinds.proofs.At.{setting_ended}
use Rattle.kinds.proofs.Laws.{ended_none}
use Rattle.kinds.proofs.coding.ended.Goals as goal

pub returns-in-Runs : goal.returns-in-Runs
returns-in-Runs c = setting_ended _ 1 (told c.in-Ok.ensures c.in-Runs.is) _ _ c.ended.ensures

pub returns-in-PagedRuns : goal.returns-in-PagedRuns
returns-in-PagedRuns c = setting_ended _ 5 (told c.in-Ok.ensures c.in-PagedRuns.is) _ _ c.ended-in-PagedRuns.ensures

pub returns-in_default-kind : goal.returns-in_default-kind
returns-in_default-kind c = ended_none _ (told_other c.in-Ok.ensures c.in_default-kind.not-Runs) (told_other c.in-Ok.ensures c.in_default-kind.not-PagedRuns) _

pub returns-in_default : goal.returns-in_default
returns-in_default c = let n = c.in_default.ensures.1 in ended_none _ (n kind.Runs) (n kind.PagedRuns) _
