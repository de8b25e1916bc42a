use Rattle.std.proofs.Common.{◌∙◌}
use Rattle.page_entries.specs.Coding.{pages_coder, coder}
use Rattle.paged_runs.proofs.Codes.{level-alone}
use Rattle.paged_runs.proofs.FirstPart.{level_out}
use Rattle.paged_runs.proofs.coding.put_derived.Goals as goal

pub put_levels-requires : goal.put_levels-requires
unfolding coder
put_levels-requires c =
    let a = c.args in
    let p = c.requires in
    let t = p.2 in
    level_out a.width a.step p.0 t.bound t.positions t.most t.rising a.z t.sizes t.before a.start t.room a.dst.now
    (t.out ∙ level-alone a.width a.step p.0 t.bound t.positions t.rising a.z a.start t.before)

pub returns : goal.returns
unfolding coder pages_coder
returns c = c.put_levels.ensures
