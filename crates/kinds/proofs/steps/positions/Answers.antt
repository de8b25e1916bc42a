use Rattle.std.proofs.Common.{sym, ◌∙◌, ⊎_elim}
use Rattle.kinds.proofs.Told.{told, none_told}
use Rattle.kinds.proofs.At.{view_batch}
use Rattle.kinds.proofs.None.{not-allowed}
use Rattle.kinds.proofs.Jumping.{walked_kind}
use Rattle.kinds.proofs.steps.positions.Goals as goal

pub returns-then-by_walk : goal.returns-then-by_walk
returns-then-by_walk c =
    let g = c.positions.ensures in
    ⊎_elim (λ e. view_batch _ 4 e _ _ _ _ _ g) (λ e. view_batch _ 6 e _ _ _ _ _ g) (walked_kind _ (sym c.by_walk.ensures ∙ c.if-by_walk.true))

pub returns-in-Ok-Runs : goal.returns-in-Ok-Runs
returns-in-Ok-Runs c = view_batch _ 1 (told c.in-Ok-Runs.ensures c.in-Ok-Runs.field-0-is) _ _ _ _ _ c.positions-in-Ok-Runs.ensures

pub returns-in-Ok-Positions : goal.returns-in-Ok-Positions
returns-in-Ok-Positions c = view_batch _ 2 (told c.in-Ok-Positions.ensures c.in-Ok-Positions.field-0-is) _ _ _ _ _ c.positions-in-Ok-Positions.ensures

pub returns-in-Ok-BaseOffset : goal.returns-in-Ok-BaseOffset
returns-in-Ok-BaseOffset c = view_batch _ 3 (told c.in-Ok-BaseOffset.ensures c.in-Ok-BaseOffset.field-0-is) _ _ _ _ _ c.positions-in-Ok-BaseOffset.ensures

pub returns-in-Ok-PagedRuns : goal.returns-in-Ok-PagedRuns
returns-in-Ok-PagedRuns c = view_batch _ 5 (told c.in-Ok-PagedRuns.ensures c.in-Ok-PagedRuns.field-0-is) _ _ _ _ _ c.positions-in-Ok-PagedRuns.ensures

pub returns-in_default-2 : goal.returns-in_default-2
returns-in_default-2 c = absurd (not-allowed _ _ _ c.requires (none_told c.try_from.ensures c.in_default.is))
