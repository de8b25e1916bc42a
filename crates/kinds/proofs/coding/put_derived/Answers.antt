use Rattle.kinds.specs.declared.kind.Kind.TheVariants as kind
use Rattle.kinds.proofs.Told.{told, told_other}
use Rattle.kinds.proofs.At.{setting-allowed, setting_standing, setting-derived}
use Rattle.kinds.proofs.Laws.{derived-none}
use Rattle.kinds.proofs.coding.put_derived.Goals as goal

pub put_derived-requires : goal.put_derived-requires
put_derived-requires c = let e = told c.in-Ok.ensures c.in-PagedRuns.is in (setting-allowed c.args.s 5 e c.requires.0, c.requires.1, setting_standing c.args.s 5 e _ _ _ c.requires.2)

pub put_derived-requires-in-PointedJumps : goal.put_derived-requires-in-PointedJumps
put_derived-requires-in-PointedJumps c = let e = told c.in-Ok.ensures c.in-PointedJumps.is in (setting-allowed c.args.s 6 e c.requires.0, c.requires.1, setting_standing c.args.s 6 e _ _ _ c.requires.2)

pub returns-in-PagedRuns : goal.returns-in-PagedRuns
returns-in-PagedRuns c = setting-derived _ 5 (told c.in-Ok.ensures c.in-PagedRuns.is) _ _ _ _ c.put_derived.ensures

pub returns-in-PointedJumps : goal.returns-in-PointedJumps
returns-in-PointedJumps c = setting-derived _ 6 (told c.in-Ok.ensures c.in-PointedJumps.is) _ _ _ _ c.put_derived-in-PointedJumps.ensures

pub returns-in_default-kind : goal.returns-in_default-kind
returns-in_default-kind c = derived-none _ (told_other c.in-Ok.ensures c.in_default-kind.not-PagedRuns) (told_other c.in-Ok.ensures c.in_default-kind.not-PointedJumps) _ _ _

pub returns-in_default : goal.returns-in_default
returns-in_default c = let n = c.in_default.ensures.1 in derived-none _ (n kind.PagedRuns) (n kind.PointedJumps) _ _ _
