-- `counts_right` meets its contract. Assumes nothing.
use Rattle.std.proofs.Common.{eqb, sym, le-leb}
use borrow.Author.Tests.{lt-leb}
use Rattle.format.specs.PagedRuns.{pages_kind, upper_entries}
use Rattle.laws.proofs.Tools.{both_one, both_false}
use Rattle.paged_runs.proofs.setting.counts_right.Goals as goal

-- `counts_right` meets its contract. Assumes nothing.
pub returns-then-v : goal.returns-then-v
unfolding pages_kind
returns-then-v c = rw (c.upper_count.ensures.0, le-leb _ _ c.if-v.true) (sym (both_one _))

pub returns-else-v : goal.returns-else-v
unfolding pages_kind
returns-else-v c =
    let v = c.args.v in
    rw (lt-leb _ _ c.if-v.false) (sym (both_false (eqb v.firsts (upper_entries v.step v.seconds))))
