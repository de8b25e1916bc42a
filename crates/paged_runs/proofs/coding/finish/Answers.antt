use Rattle.std.proofs.Common.{◌≡◌, [], length, sym, ap, ◌∙◌, arith}
use Rattle.stores.proofs.Laws.{put_nil}
use Rattle.page_entries.specs.Coding.{page_entry, pages_coder, coder}
use Rattle.page_entries.proofs.OneEntry.{length_entry, end_none, end_entry, end-put}
use Rattle.paged_runs.proofs.coding.finish.Goals as goal

pub returns-then-e-eq0 : goal.returns-then-e-eq0
unfolding coder
returns-then-e-eq0 c =
    let a = c.args in
    sym (put_nil a.dst.now a.e.second) ∙ end-put a.step a.e a.dst.now [] (end_none a.step a.e c.if-e-eq0.true)

pub put_pair-requires : goal.put_pair-requires
unfolding coder
put_pair-requires c =
    let a = c.args in
    let n : length ((pages_coder a.step).end_second a.e) ≡ 8 = ap length (end_entry a.step a.e c.if-e-eq0.false) ∙ length_entry a.e in
    let r = c.requires.2 in
    omega arith

pub returns : goal.returns
unfolding coder page_entry
returns c =
    let a = c.args in
    c.put_pair.ensures ∙ end-put a.step a.e a.dst.now (page_entry a.e) (end_entry a.step a.e c.if-e-eq0.false)
