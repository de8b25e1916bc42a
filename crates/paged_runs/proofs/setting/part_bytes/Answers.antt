-- `part_bytes` meets its contract. Assumes nothing.
use Rattle.std.proofs.Common.{refl, arith}
use Rattle.format.specs.PagedRuns.{pages_kind}
use Rattle.parts.proofs.Sizing.{sized-where}
use Rattle.page_walk.proofs.Allowed.{page-step}
use Rattle.paged_runs.proofs.setting.part_bytes.Goals as goal

-- `part_bytes` meets its contract. Assumes nothing.
pub counts_right-requires : goal.counts_right-requires
counts_right-requires c = let s = page-step _ _ c.requires.0 in (omega arith, s.0, s.1)

pub returns : goal.returns
unfolding pages_kind
returns c =
    rw c.then_some.ensures (sized-where (pages_kind c.args.v.width c.args.v.step) c.args.v c.counts_right.result _ c.counts_right.ensures refl refl (omega arith) (omega arith))
