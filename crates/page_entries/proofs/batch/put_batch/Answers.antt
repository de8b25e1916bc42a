use mathlib.Core.Path.{sym, ◌∙◌}
use native.Mathlib.Omega.{arith}
use lib.Seq.{length-take-le}
use Rattle.laws.proofs.Stored.{rising_weaken}
use Rattle.parts.proofs.Taken.{write_begin, write-next}
use Rattle.page_entries.specs.Coding.{pages_coder}
use Rattle.page_entries.proofs.OneEntry.{keeps_pages}
use Rattle.page_entries.proofs.RunEnds.{rest_asks, rest_gives}
use Rattle.page_entries.proofs.batch.put_batch.Goals as goal

pub list_ends-k-requires : goal.list_ends-k-requires
list_ends-k-requires c =
    let n = c.requires.2 in
    (rising_weaken 0 _ 16777216 c.args.ps.now (omega arith) c.requires.3.rising, omega arith)

pub pages_put-at-requires : goal.pages_put-at-requires
pages_put-at-requires c =
    let a = c.args in
    let w = write_begin (pages_coder a.step) a.ps.now a.e a.dst.now c.requires.3 c.requires.4 in
    let n = write-next (pages_coder a.step) a.ps.now a.e a.dst.now a.e a.dst.now 0 c.requires.1 w in
    (n.0, n.1, c.requires.0)

-- the listed ends are in the array
pub slice_bounds-put_ends-end-2 : goal.slice_bounds-put_ends-end-2
slice_bounds-put_ends-end-2 c =
    let l = c.list_ends-k in
    let n = c.requires.2 in
    let e = l.ensures.1 in
    sym (length-take-le _ l.new.out (rw l.ensures.2 (omega arith)))

pub put_ends-requires : goal.put_ends-requires
put_ends-requires c =
    let a = c.args in
    let o = c.pages_put-at in
    let r = rest_asks (pages_coder a.step) (keeps_pages a.step) a.ps.now a.e a.dst.now c.requires.3 c.requires.4 c.requires.1 o.result o.new.dst o.ensures in
    (c.requires.0, r.0, c.list_ends-k.ensures.0 ∙ r.1, r.2, r.3)

pub returns : goal.returns
returns c =
    let a = c.args in
    let o = c.pages_put-at in
    let x = c.put_ends in
    rest_gives (pages_coder a.step) (keeps_pages a.step) a.ps.now a.e a.dst.now c.requires.3 c.requires.4 c.requires.1 o.result o.new.dst o.ensures
    x.result x.new.dst x.ensures
