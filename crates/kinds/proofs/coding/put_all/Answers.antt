use Rattle.kinds.proofs.Told.{told}
use Rattle.kinds.proofs.At.{setting-allowed, setting-room, setting-put}
use Rattle.kinds.proofs.None.{no_setting}
use Rattle.kinds.proofs.coding.put_all.Goals as goal

pub put_all-requires : goal.put_all-requires
put_all-requires c = let e = told c.in-Ok-Runs.ensures c.in-Ok-Runs.field-0-is in (setting-allowed c.args.s 1 e c.requires.0, c.requires.1, setting-room c.args.s 1 e _ _ _ c.requires.2)

pub put_all-requires-in-Ok-Positions : goal.put_all-requires-in-Ok-Positions
put_all-requires-in-Ok-Positions c = let e = told c.in-Ok-Positions.ensures c.in-Ok-Positions.field-0-is in (setting-allowed c.args.s 2 e c.requires.0, c.requires.1, setting-room c.args.s 2 e _ _ _ c.requires.2)

pub put_all-requires-in-Ok-BaseOffset : goal.put_all-requires-in-Ok-BaseOffset
put_all-requires-in-Ok-BaseOffset c = let e = told c.in-Ok-BaseOffset.ensures c.in-Ok-BaseOffset.field-0-is in (setting-allowed c.args.s 3 e c.requires.0, c.requires.1, setting-room c.args.s 3 e _ _ _ c.requires.2)

pub put_all-requires-in-Ok-Jumps : goal.put_all-requires-in-Ok-Jumps
put_all-requires-in-Ok-Jumps c = let e = told c.in-Ok-Jumps.ensures c.in-Ok-Jumps.field-0-is in (setting-allowed c.args.s 4 e c.requires.0, c.requires.1, setting-room c.args.s 4 e _ _ _ c.requires.2)

pub put_all-requires-in-Ok-PagedRuns : goal.put_all-requires-in-Ok-PagedRuns
put_all-requires-in-Ok-PagedRuns c = let e = told c.in-Ok-PagedRuns.ensures c.in-Ok-PagedRuns.field-0-is in (setting-allowed c.args.s 5 e c.requires.0, c.requires.1, setting-room c.args.s 5 e _ _ _ c.requires.2)

pub put_all-requires-in-Ok-PointedJumps : goal.put_all-requires-in-Ok-PointedJumps
put_all-requires-in-Ok-PointedJumps c = let e = told c.in-Ok-PointedJumps.ensures c.in-Ok-PointedJumps.field-0-is in (setting-allowed c.args.s 6 e c.requires.0, c.requires.1, setting-room c.args.s 6 e _ _ _ c.requires.2)

pub returns-in-Ok-Runs : goal.returns-in-Ok-Runs
returns-in-Ok-Runs c = setting-put _ 1 (told c.in-Ok-Runs.ensures c.in-Ok-Runs.field-0-is) _ _ _ _ _ c.put_all.ensures

pub returns-in-Ok-Positions : goal.returns-in-Ok-Positions
returns-in-Ok-Positions c = setting-put _ 2 (told c.in-Ok-Positions.ensures c.in-Ok-Positions.field-0-is) _ _ _ _ _ c.put_all-in-Ok-Positions.ensures

pub returns-in-Ok-BaseOffset : goal.returns-in-Ok-BaseOffset
returns-in-Ok-BaseOffset c = setting-put _ 3 (told c.in-Ok-BaseOffset.ensures c.in-Ok-BaseOffset.field-0-is) _ _ _ _ _ c.put_all-in-Ok-BaseOffset.ensures

pub returns-in-Ok-Jumps : goal.returns-in-Ok-Jumps
returns-in-Ok-Jumps c = setting-put _ 4 (told c.in-Ok-Jumps.ensures c.in-Ok-Jumps.field-0-is) _ _ _ _ _ c.put_all-in-Ok-Jumps.ensures

pub returns-in-Ok-PagedRuns : goal.returns-in-Ok-PagedRuns
returns-in-Ok-PagedRuns c = setting-put _ 5 (told c.in-Ok-PagedRuns.ensures c.in-Ok-PagedRuns.field-0-is) _ _ _ _ _ c.put_all-in-Ok-PagedRuns.ensures

pub returns-in-Ok-PointedJumps : goal.returns-in-Ok-PointedJumps
returns-in-Ok-PointedJumps c = setting-put _ 6 (told c.in-Ok-PointedJumps.ensures c.in-Ok-PointedJumps.field-0-is) _ _ _ _ _ c.put_all-in-Ok-PointedJumps.ensures

pub returns-in-Err : goal.returns-in-Err
returns-in-Err c = absurd (no_setting _ c.requires.0 c.in-Err.ensures.1)
