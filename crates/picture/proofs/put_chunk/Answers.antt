-- `put_chunk` meets its contract: the batch holds the stored positions, and stays as it is. Assumes nothing.
use mathlib.Core.Path.{ap, ◌∙◌}
use native.Mathlib.Omega.{arith}
use Rattle.kinds.specs.Coding.{taken_all}
use Rattle.picture.specs.Chunk.{put_chunk}
use Rattle.picture.proofs.Chunks.{front}
use Rattle.picture.proofs.put_chunk.Goals as goal

-- `put_chunk` meets its contract: the batch holds the stored positions, and stays as it is. Assumes nothing.
pub slice_bounds-put_all-end : goal.slice_bounds-put_all-end
slice_bounds-put_all-end c =
    let e = c.stored_cells-n.ensures in
    (front _ _ _ e.0 e.1).inside

pub slice_bounds-put_all-end-2 : goal.slice_bounds-put_all-end-2
slice_bounds-put_all-end-2 c =
    let e = c.stored_cells-n.ensures in
    (front _ _ _ e.0 e.1).count

pub put_all-next-requires : goal.put_all-next-requires
put_all-next-requires c =
    let e = c.stored_cells-n.ensures.1 in
    let p = c.requires in
    (p.0, rw e p.3.along, rw e p.3.room)

pub overflow_mul-to : goal.overflow_mul-to
overflow_mul-to c = let r = c.requires.3.words in omega arith

pub overflow_add-to : goal.overflow_add-to
overflow_add-to c = let r = c.requires.3.words in omega arith

pub slice_bounds-put_kept-end : goal.slice_bounds-put_kept-end
slice_bounds-put_kept-end c =
    let e = c.stored_cells-n.ensures in
    (front _ _ _ e.0 e.1).inside

pub slice_bounds-put_kept-end-2 : goal.slice_bounds-put_kept-end-2
slice_bounds-put_kept-end-2 c =
    let e = c.stored_cells-n.ensures in
    (front _ _ _ e.0 e.1).count

pub put_kept-requires : goal.put_kept-requires
put_kept-requires c =
    let e = c.stored_cells-n.ensures.1 in
    let p = c.requires in
    let w = p.3.words in
    let l = c.dst-1.given in
    (e, omega arith, rw e (omega arith))

pub returns : goal.returns
unfolding put_chunk
returns c =
    let a = c.args in
    let e = c.stored_cells-n.ensures.1 in
    let m = c.put_all-next.ensures in
    (m.0 ∙ ap (taken_all a.s a.e) e, c.put_kept.ensures ∙ rw (m.1, e))
