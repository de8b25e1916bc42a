use Rattle.std.proofs.Common.{◌-◌, length, ◌∙◌, arith}
use Rattle.parts.proofs.Grown.{grow_fits, grown-range, room-range, put-range}
use Rattle.page_entries.specs.Coding.{pages_coder, coder}
use Rattle.page_walk.proofs.Allowed.{page-step}
use Rattle.page_entries.proofs.OneEntry.{lengthens_pages}
use Rattle.paged_runs.proofs.coding.put_run.Goals as goal

pub pages_put-requires : goal.pages_put-requires
unfolding coder
pages_put-requires c =
    let a = c.args in
    let s = (page-step a.width a.step c.requires.0).0 in (
      record { sound = c.requires.2; above = c.requires.3; below = omega arith },
      room-range (pages_coder a.step) a.e a.p a.n c.requires.1 (length a.dst.now) c.requires.5,
      omega arith,
    )

pub grow-requires : goal.grow-requires
grow-requires c =
    let a = c.args in
    rw c.pages_put.ensures.0 (grow_fits (pages_coder a.step) a.e a.p a.n c.requires.1 c.requires.2 c.requires.3 c.requires.4)

pub returns : goal.returns
unfolding coder
returns c =
    let a = c.args in
    let k = pages_coder a.step in
    let o = c.pages_put.ensures in
    let one = c.requires.1 in (
      grown-range k a.e a.p a.n one (lengthens_pages a.step) o.0 c.grow.ensures,
      o.1 ∙ put-range k (lengthens_pages a.step) a.e a.p a.n (a.n - 1) (omega arith) a.dst.now,
    )
