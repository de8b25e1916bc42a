use mathlib.Core.Path.{◌≡◌, refl, ap, ◌∙◌}
use native.Mathlib.Omega.{arith}
use lib.ListN.{length}
use Rattle.parts.proofs.Taking.{put_second}
use Rattle.page_entries.specs.Coding.{page_entry, pages_coder}
use Rattle.page_entries.proofs.OneEntry.{length_entry, pages_entry}
use Rattle.page_entries.proofs.entry.put_entry.Goals as goal

pub put_pair-requires : goal.put_pair-requires
put_pair-requires c =
    let a = c.args in
    let n : length ((pages_coder a.step).second a.e a.p) ≡ 8 = ap length (pages_entry a.step a.e a.p c.requires.3) ∙ length_entry a.e in
    let r = c.requires.1.second in
    omega arith

pub returns : goal.returns
unfolding page_entry pages_coder
returns c =
    let a = c.args in
    let e = a.e in (
      c.after_run.ensures,
      c.put_pair.ensures ∙ put_second (pages_coder a.step) a.dst.now e a.p (page_entry e) refl (pages_entry a.step e a.p c.requires.3),
    )

pub overflow_add-end : goal.overflow_add-end
overflow_add-end c = omega arith

pub overflow_sub-end : goal.overflow_sub-end
overflow_sub-end c = omega arith

pub overflow_sub-end-2 : goal.overflow_sub-end-2
overflow_sub-end-2 c = omega arith

pub overflow_sub-end-3 : goal.overflow_sub-end-3
overflow_sub-end-3 c = omega arith

pub after_run-requires : goal.after_run-requires
after_run-requires c = let p = c.requires in (p.0, p.2, p.3)
