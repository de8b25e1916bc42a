use borrow.Author.Tests.{lt-ltb, le-ltb}
use Rattle.search.proofs.position_below.Goals as goal

pub returns-then-cells-p : goal.returns-then-cells-p
returns-then-cells-p c = rw (le-ltb _ _ c.if-cells-p.true)

pub returns : goal.returns
returns c = rw (lt-ltb _ _ c.if-cells-p.false)
