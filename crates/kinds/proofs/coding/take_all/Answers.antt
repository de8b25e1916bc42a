use Rattle.kinds.proofs.Told.{told}
use Rattle.kinds.proofs.At.{setting-allowed, setting-taken}
use Rattle.kinds.proofs.None.{no_setting}
use Rattle.kinds.proofs.coding.take_all.Goals as goal

pub take_all-requires : goal.take_all-requires
take_all-requires c = (setting-allowed c.args.s 1 (told c.in-Ok-Runs.ensures c.in-Ok-Runs.field-0-is) c.requires.0, c.requires.1)

pub take_all-requires-in-Ok-Positions : goal.take_all-requires-in-Ok-Positions
take_all-requires-in-Ok-Positions c = (setting-allowed c.args.s 2 (told c.in-Ok-Positions.ensures c.in-Ok-Positions.field-0-is) c.requires.0, c.requires.1)

pub take_all-requires-in-Ok-BaseOffset : goal.take_all-requires-in-Ok-BaseOffset
take_all-requires-in-Ok-BaseOffset c = (setting-allowed c.args.s 3 (told c.in-Ok-BaseOffset.ensures c.in-Ok-BaseOffset.field-0-is) c.requires.0, c.requires.1)

pub take_all-requires-in-Ok-Jumps : goal.take_all-requires-in-Ok-Jumps
take_all-requires-in-Ok-Jumps c = (setting-allowed c.args.s 4 (told c.in-Ok-Jumps.ensures c.in-Ok-Jumps.field-0-is) c.requires.0, c.requires.1)

pub take_all-requires-in-Ok-PagedRuns : goal.take_all-requires-in-Ok-PagedRuns
take_all-requires-in-Ok-PagedRuns c = (setting-allowed c.args.s 5 (told c.in-Ok-PagedRuns.ensures c.in-Ok-PagedRuns.field-0-is) c.requires.0, c.requires.1)

pub take_all-requires-in-Ok-PointedJumps : goal.take_all-requires-in-Ok-PointedJumps
take_all-requires-in-Ok-PointedJumps c = (setting-allowed c.args.s 6 (told c.in-Ok-PointedJumps.ensures c.in-Ok-PointedJumps.field-0-is) c.requires.0, c.requires.1)

pub returns-in-Ok-Runs : goal.returns-in-Ok-Runs
returns-in-Ok-Runs c = setting-taken _ 1 (told c.in-Ok-Runs.ensures c.in-Ok-Runs.field-0-is) _ _ _ c.take_all.ensures

pub returns-in-Ok-Positions : goal.returns-in-Ok-Positions
returns-in-Ok-Positions c = setting-taken _ 2 (told c.in-Ok-Positions.ensures c.in-Ok-Positions.field-0-is) _ _ _ c.take_all-in-Ok-Positions.ensures

pub returns-in-Ok-BaseOffset : goal.returns-in-Ok-BaseOffset
returns-in-Ok-BaseOffset c = setting-taken _ 3 (told c.in-Ok-BaseOffset.ensures c.in-Ok-BaseOffset.field-0-is) _ _ _ c.take_all-in-Ok-BaseOffset.ensures

pub returns-in-Ok-Jumps : goal.returns-in-Ok-Jumps
returns-in-Ok-Jumps c = setting-taken _ 4 (told c.in-Ok-Jumps.ensures c.in-Ok-Jumps.field-0-is) _ _ _ c.take_all-in-Ok-Jumps.ensures

pub returns-in-Ok-PagedRuns : goal.returns-in-Ok-PagedRuns
returns-in-Ok-PagedRuns c = setting-taken _ 5 (told c.in-Ok-PagedRuns.ensures c.in-Ok-PagedRuns.field-0-is) _ _ _ c.take_all-in-Ok-PagedRuns.ensures

pub returns-in-Ok-PointedJumps : goal.returns-in-Ok-PointedJumps
returns-in-Ok-PointedJumps c = setting-taken _ 6 (told c.in-Ok-PointedJumps.ensures c.in-Ok-PointedJumps.field-0-is) _ _ _ c.take_all-in-Ok-PointedJumps.ensures

pub returns-in-Err : goal.returns-in-Err
returns-in-Err c = absurd (no_setting _ c.requires.0 c.in-Err.ensures.1)
