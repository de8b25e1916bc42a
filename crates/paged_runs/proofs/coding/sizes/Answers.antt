use Rattle.std.proofs.Common.{arith}
use Rattle.page_entries.specs.Coding.{pages_coder, coder}
use Rattle.page_walk.proofs.Allowed.{page-step}
use Rattle.paged_runs.proofs.coding.sizes.Goals as goal

pub upper_count-upper-requires : goal.upper_count-upper-requires
upper_count-upper-requires c =
    let s = page-step c.args.width c.args.step c.requires.0 in
    let m = c.requires.3 in
    (s.0, s.1, omega arith)

pub returns : goal.returns
unfolding coder pages_coder
returns c = rw c.upper_count-upper.ensures.0
