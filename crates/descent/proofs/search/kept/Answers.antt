-- `kept` meets its contract. Assumes nothing.
use Rattle.std.proofs.Common.{arith, le-leb}
use borrow.Author.Tests.{lt-leb}
use Rattle.descent.proofs.search.kept.Goals as goal

-- `kept` meets its contract. Assumes nothing.
pub returns-then-k-gt0 : goal.returns-then-k-gt0
returns-then-k-gt0 c = let h = c.if-k-gt0.true in rw (le-leb 1 c.args.k (omega arith))

pub returns-else-k-gt0 : goal.returns-else-k-gt0
returns-else-k-gt0 c = let h = c.if-k-gt0.false in rw (lt-leb 1 c.args.k (omega arith))
