use Rattle.kinds.proofs.Told.{told}
use Rattle.kinds.proofs.At.{view-next}
use Rattle.kinds.proofs.None.{not-allowed}
use Rattle.kinds.proofs.steps.next.Goals as goal

pub returns-in-Ok-Runs : goal.returns-in-Ok-Runs
returns-in-Ok-Runs c = view-next _ 1 (told c.in-Ok-Runs.ensures c.in-Ok-Runs.field-0-is) _ _ _ c.next.ensures

pub returns-in-Ok-Positions : goal.returns-in-Ok-Positions
returns-in-Ok-Positions c = view-next _ 2 (told c.in-Ok-Positions.ensures c.in-Ok-Positions.field-0-is) _ _ _ c.next-in-Ok-Positions.ensures

pub returns-in-Ok-BaseOffset : goal.returns-in-Ok-BaseOffset
returns-in-Ok-BaseOffset c = view-next _ 3 (told c.in-Ok-BaseOffset.ensures c.in-Ok-BaseOffset.field-0-is) _ _ _ c.next-in-Ok-BaseOffset.ensures

pub returns-in-Ok-Jumps : goal.returns-in-Ok-Jumps
returns-in-Ok-Jumps c = view-next _ 4 (told c.in-Ok-Jumps.ensures c.in-Ok-Jumps.field-0-is) _ _ _ c.next-in-Ok-Jumps.ensures

pub returns-in-Ok-PagedRuns : goal.returns-in-Ok-PagedRuns
returns-in-Ok-PagedRuns c = view-next _ 5 (told c.in-Ok-PagedRuns.ensures c.in-Ok-PagedRuns.field-0-is) _ _ _ c.next-in-Ok-PagedRuns.ensures

pub returns-in-Ok-PointedJumps : goal.returns-in-Ok-PointedJumps
returns-in-Ok-PointedJumps c = view-next _ 6 (told c.in-Ok-PointedJumps.ensures c.in-Ok-PointedJumps.field-0-is) _ _ _ c.next-in-Ok-PointedJumps.ensures

pub returns-in-Err : goal.returns-in-Err
returns-in-Err c = absurd (not-allowed _ _ _ c.requires c.in-Err.ensures.1)
