use Rattle.kinds.proofs.Told.{told}
use Rattle.kinds.proofs.At.{setting-allowed, setting-sizes}
use Rattle.kinds.proofs.None.{no_setting}
use Rattle.kinds.proofs.coding.sizes.Goals as goal

pub sizes-requires : goal.sizes-requires
sizes-requires c = (setting-allowed c.args.s 1 (told c.in-Ok-Runs.ensures c.in-Ok-Runs.field-0-is) c.requires.0, c.requires.1, c.requires.2, c.requires.3)

pub sizes-requires-in-Ok-Positions : goal.sizes-requires-in-Ok-Positions
sizes-requires-in-Ok-Positions c = (setting-allowed c.args.s 2 (told c.in-Ok-Positions.ensures c.in-Ok-Positions.field-0-is) c.requires.0, c.requires.1, c.requires.2, c.requires.3)

pub sizes-requires-in-Ok-BaseOffset : goal.sizes-requires-in-Ok-BaseOffset
sizes-requires-in-Ok-BaseOffset c = (setting-allowed c.args.s 3 (told c.in-Ok-BaseOffset.ensures c.in-Ok-BaseOffset.field-0-is) c.requires.0, c.requires.1, c.requires.2, c.requires.3)

pub sizes-requires-in-Ok-Jumps : goal.sizes-requires-in-Ok-Jumps
sizes-requires-in-Ok-Jumps c = (setting-allowed c.args.s 4 (told c.in-Ok-Jumps.ensures c.in-Ok-Jumps.field-0-is) c.requires.0, c.requires.1, c.requires.2, c.requires.3)

pub sizes-requires-in-Ok-PagedRuns : goal.sizes-requires-in-Ok-PagedRuns
sizes-requires-in-Ok-PagedRuns c = (setting-allowed c.args.s 5 (told c.in-Ok-PagedRuns.ensures c.in-Ok-PagedRuns.field-0-is) c.requires.0, c.requires.1, c.requires.2, c.requires.3)

pub sizes-requires-in-Ok-PointedJumps : goal.sizes-requires-in-Ok-PointedJumps
sizes-requires-in-Ok-PointedJumps c = (setting-allowed c.args.s 6 (told c.in-Ok-PointedJumps.ensures c.in-Ok-PointedJumps.field-0-is) c.requires.0, c.requires.1, c.requires.2, c.requires.3)

pub returns-in-Ok-Runs : goal.returns-in-Ok-Runs
returns-in-Ok-Runs c = setting-sizes _ 1 (told c.in-Ok-Runs.ensures c.in-Ok-Runs.field-0-is) _ _ c.sizes.ensures

pub returns-in-Ok-Positions : goal.returns-in-Ok-Positions
returns-in-Ok-Positions c = setting-sizes _ 2 (told c.in-Ok-Positions.ensures c.in-Ok-Positions.field-0-is) _ _ c.sizes-in-Ok-Positions.ensures

pub returns-in-Ok-BaseOffset : goal.returns-in-Ok-BaseOffset
returns-in-Ok-BaseOffset c = setting-sizes _ 3 (told c.in-Ok-BaseOffset.ensures c.in-Ok-BaseOffset.field-0-is) _ _ c.sizes-in-Ok-BaseOffset.ensures

pub returns-in-Ok-Jumps : goal.returns-in-Ok-Jumps
returns-in-Ok-Jumps c = setting-sizes _ 4 (told c.in-Ok-Jumps.ensures c.in-Ok-Jumps.field-0-is) _ _ c.sizes-in-Ok-Jumps.ensures

pub returns-in-Ok-PagedRuns : goal.returns-in-Ok-PagedRuns
returns-in-Ok-PagedRuns c = setting-sizes _ 5 (told c.in-Ok-PagedRuns.ensures c.in-Ok-PagedRuns.field-0-is) _ _ c.sizes-in-Ok-PagedRuns.ensures

pub returns-in-Ok-PointedJumps : goal.returns-in-Ok-PointedJumps
returns-in-Ok-PointedJumps c = setting-sizes _ 6 (told c.in-Ok-PointedJumps.ensures c.in-Ok-PointedJumps.field-0-is) _ _ c.sizes-in-Ok-PointedJumps.ensures

pub returns-in-Err : goal.returns-in-Err
returns-in-Err c = absurd (no_setting _ c.requires.0 c.in-Err.ensures.1)
