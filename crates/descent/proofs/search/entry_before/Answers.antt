-- `entry_before` meets its contract. Assumes nothing.
use Rattle.std.proofs.Common.{arith}
use Rattle.levels.specs.Levels.{entries, span_of}
use Rattle.descent.proofs.CheckSteps.{left-kept}
use Rattle.descent.proofs.search.entry_before.Goals as goal

-- `entry_before` meets its contract. Assumes nothing.
pub returns : goal.returns
returns c =
    let a = c.args in
    let x = c.pair_at-x in
    let e = rw c.saturating_sub.ensures at x.ensures.0 in
    (rw (c.kept.ensures, c.kept-2.ensures) (left-kept (entries a.start a.file.now) a.number a.k (span_of x.result) e), omega arith, omega arith)

pub overflow_add-number : goal.overflow_add-number
overflow_add-number c = let e = c.saturating_sub.ensures in omega arith

pub pair_at-x-requires : goal.pair_at-x-requires
pair_at-x-requires c = let e = c.saturating_sub.ensures in omega arith
