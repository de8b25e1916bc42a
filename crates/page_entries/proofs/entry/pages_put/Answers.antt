use mathlib.Core.Bool.{false}
use mathlib.Core.Path.{◌≡◌, refl, sym, ◌∙◌}
use Rattle.parts.specs.Encoder.{run_ends}
use Rattle.parts.proofs.Taking.{put-none}
use Rattle.page_entries.specs.Coding.{pages_coder}
use Rattle.page_entries.proofs.OneEntry.{pages_none, pages_on}
use Rattle.page_entries.proofs.entry.pages_put.Goals as goal

pub put_entry-requires : goal.put_entry-requires
put_entry-requires c = let p = c.requires in (p.0, p.1, p.2, sym c.run_ends.ensures ∙ c.if-run_ends.true)

pub returns : goal.returns
unfolding pages_coder
returns c =
    let a = c.args in
    let t : run_ends a.e a.p ≡ false = sym c.run_ends.ensures ∙ c.if-run_ends.false in
    (c.move_on.ensures ∙ pages_on a.step a.e a.p t, put-none (pages_coder a.step) a.dst.now a.e a.p refl (pages_none a.step a.e a.p t))

pub returns-then-run_ends : goal.returns-then-run_ends
returns-then-run_ends c = c.put_entry.ensures
