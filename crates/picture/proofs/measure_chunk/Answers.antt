-- `measure_chunk` meets its contract: the batch holds the stored positions. Assumes nothing.
use mathlib.Core.Path.{ap, ◌∙◌}
use Rattle.kinds.specs.Coding.{taken_all}
use Rattle.picture.proofs.Chunks.{front}
use Rattle.picture.proofs.measure_chunk.Goals as goal

-- `measure_chunk` meets its contract: the batch holds the stored positions. Assumes nothing.
pub slice_bounds-take_all-end : goal.slice_bounds-take_all-end
slice_bounds-take_all-end c =
    let e = c.stored_cells-n.ensures in
    (front _ _ _ e.0 e.1).inside

pub slice_bounds-take_all-end-2 : goal.slice_bounds-take_all-end-2
slice_bounds-take_all-end-2 c =
    let e = c.stored_cells-n.ensures in
    (front _ _ _ e.0 e.1).count

pub take_all-requires : goal.take_all-requires
take_all-requires c =
    let e = c.stored_cells-n.ensures.1 in
    let p = c.requires in
    (p.0, rw e p.3)

pub returns : goal.returns
returns c =
    let a = c.args in
    c.take_all.ensures ∙ ap (taken_all a.s a.e) c.stored_cells-n.ensures.1
