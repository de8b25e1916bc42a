use Rattle.kinds.specs.declared.kind.Kind.TheVariants as kind
use Rattle.kinds.proofs.Told.{told, told_other}
use Rattle.kinds.proofs.At.{setting-ends-first, setting-ends-second, setting_finished}
use Rattle.kinds.proofs.Laws.{finish_none}
use Rattle.kinds.proofs.coding.finish.Goals as goal

pub finish-requires : goal.finish-requires
finish-requires c = let e = told c.in-Ok.ensures c.in-Runs.is in (c.requires.1, setting-ends-first c.args.s 1 e c.args.e _ c.requires.2, setting-ends-second c.args.s 1 e c.args.e _ c.requires.3)

pub finish-requires-in-PagedRuns : goal.finish-requires-in-PagedRuns
finish-requires-in-PagedRuns c = let e = told c.in-Ok.ensures c.in-PagedRuns.is in (c.requires.1, setting-ends-first c.args.s 5 e c.args.e _ c.requires.2, setting-ends-second c.args.s 5 e c.args.e _ c.requires.3)

pub returns-in-Runs : goal.returns-in-Runs
returns-in-Runs c = setting_finished _ 1 (told c.in-Ok.ensures c.in-Runs.is) _ _ _ c.finish.ensures

pub returns-in-PagedRuns : goal.returns-in-PagedRuns
returns-in-PagedRuns c = setting_finished _ 5 (told c.in-Ok.ensures c.in-PagedRuns.is) _ _ _ c.finish-in-PagedRuns.ensures

pub returns-in_default-kind : goal.returns-in_default-kind
returns-in_default-kind c = finish_none _ (told_other c.in-Ok.ensures c.in_default-kind.not-Runs) (told_other c.in-Ok.ensures c.in_default-kind.not-PagedRuns) c.args.e _

pub returns-in_default : goal.returns-in_default
returns-in_default c = let n = c.in_default.ensures.1 in finish_none _ (n kind.Runs) (n kind.PagedRuns) c.args.e _
