-- The cursor's `last` is the last cell of the part of a run that is told. Assumes nothing.
use Prim.Native.Nat.{◌+◌, ◌≤◌}
use mathlib.Core.Path.{refl}
use native.Mathlib.Omega.{arith}
use Rattle.format.specs.Accepted.{positions_of}
use Rattle.parts.specs.Found.{PartOf}
use Rattle.parts.proofs.Seen.{seen}
use Rattle.row_seek.proofs.Runs.{part_later, part_small}
use borrow.Author.Rules.{rules}
use Rattle.row_seek.proofs.seek.at_rank.Goals.{After-run_of-part}
use Rattle.row_seek.proofs.seek.at_rank.Goals as goal

-- The cursor's `last` is the last cell of the part of a run that is told. Assumes nothing.
part : (c : After-run_of-part) → PartOf (positions_of c.args.file.now) c.args.rank c.run_of-part.result
part c =
    c.run_of-part.ensures.right (positions_of c.args.file.now) (seen c.args.file.now c.args.v c.requires.0).holds c.if-rank-v.true

small : (c : After-run_of-part) → c.run_of-part.result.at + c.run_of-part.result.cells ≤ 16777216
small c = part_small c.args.file.now c.args.v c.requires.0 c.args.rank c.run_of-part.result (part c)

pub overflow_cast-c : goal.overflow_cast-c
overflow_cast-c c = let m = small (goal.at.overflow_cast-c c).After-run_of-part in search rules

pub overflow_add-c : goal.overflow_add-c
overflow_add-c c = let m = small (goal.at.overflow_add-c c).After-run_of-part in search rules

pub overflow_sub-c : goal.overflow_sub-c
overflow_sub-c c = let m = (part (goal.at.overflow_sub-c c).After-run_of-part).some in search rules

pub returns-then-rank-v : goal.returns-then-rank-v
returns-then-rank-v c =
    let q = part (goal.at.returns-then-rank-v c).After-run_of-part in
    let m = q.some in
    record { rank = refl; run = λ k. part_later _ c.args.rank _ 0 c.run_of-part.result _ q m (omega arith) (omega arith) (omega arith) }
