use mathlib.Core.Path.{◌≡◌, ap, ◌∙◌}
use native.Mathlib.Omega.{arith}
use Rattle.format.specs.Accepted.{positions_of}
use Rattle.parts.specs.declared.Cursor.{Cursor}
use Rattle.parts.specs.Encoder.{begun}
use Rattle.kinds.specs.Steps.{start_of, walked, stepped_by}
use Rattle.kinds.specs.Coding.{taken_all}
use Rattle.layout.proofs.Measuring.{measures, bounded}
use Rattle.parts.specs.declared.walk.Walk.{Walk}
use Rattle.edits.specs.Edit.{edited}
use Rattle.rewrite.proofs.Three.{allowed, ranks-there, cells-most, edit-rising, along-cursor, along_encoder, edit-along, edit-all, reached_first, reached_rest}
use Rattle.rewrite.proofs.edited.measure.Goals.{After-measure_ranks-all, After-measure_ranks-front}
use Rattle.rewrite.proofs.edited.measure.Goals as goal

-- the encoder and the cursor after the ranks before the edit
front-encoder : (c : After-measure_ranks-front)
    → c.measure_ranks-front.result.e ≡ taken_all c.args.s (begun 0 0) (walked c.args.file.now c.args.v (start_of c.args.file.now c.args.v) c.args.x.before)
front-encoder c =
    ap (λ (w : Walk). w.e) c.measure_ranks-front.ensures ∙ along_encoder _ _ _ _ _ _ ∙ rw (c.begin-e.ensures, c.start-c.ensures)

front-cursor : (c : After-measure_ranks-front)
    → c.measure_ranks-front.result.c ≡ stepped_by c.args.file.now c.args.v (start_of c.args.file.now c.args.v) c.args.x.before
front-cursor c = ap (λ (w : Walk). w.c) c.measure_ranks-front.ensures ∙ along-cursor _ _ _ _ _ _ ∙ rw c.start-c.ensures

pub start-c-requires : goal.start-c-requires
start-c-requires c = allowed c.args.file.now c.args.v c.requires.0

pub measure_ranks-front-requires : goal.measure_ranks-front-requires
measure_ranks-front-requires c =
    let a = c.args in
    let p = c.requires in
    let t = edit-along a.file.now a.v p.0 a.x p.1 a.s 0 0 p.2 (omega arith) (omega arith) in
    rw (c.begin-e.ensures, c.start-c.ensures) (allowed a.file.now a.v p.0, p.2, t.front, p.0, reached_first a.file.now a.v p.0 a.x p.1)

pub measure_added-e-requires : goal.measure_added-e-requires
measure_added-e-requires c =
    let a = c.args in
    let p = c.requires in
    let t = edit-along a.file.now a.v p.0 a.x p.1 a.s 0 0 p.2 (omega arith) (omega arith) in
    rw (front-encoder (goal.at.measure_added-e-requires c).After-measure_ranks-front) (p.2, t.middle)

pub overflow_sub-x : goal.overflow_sub-x
overflow_sub-x c = omega (arith, c.requires.1.ordered)

pub skip-c-requires : goal.skip-c-requires
skip-c-requires c = allowed c.args.file.now c.args.v c.requires.0

pub overflow_sub-v : goal.overflow_sub-v
overflow_sub-v c =
    let a = c.args in
    let p = c.requires in
    omega (arith, (ranks-there a.file.now a.v p.0 a.x p.1).1)

pub measure_ranks-all-requires : goal.measure_ranks-all-requires
measure_ranks-all-requires c =
    let a = c.args in
    let p = c.requires in
    let t = edit-along a.file.now a.v p.0 a.x p.1 a.s 0 0 p.2 (omega arith) (omega arith) in
    rw (c.measure_added-e.ensures, c.skip-c.ensures, front-encoder (goal.at.measure_ranks-all-requires c).After-measure_ranks-front, front-cursor (goal.at.measure_ranks-all-requires c).After-measure_ranks-front) (allowed a.file.now a.v p.0, p.2, t.rest, p.0, reached_rest a.file.now a.v p.0 a.x p.1)

-- the encoder after all of them
all-encoder : (c : After-measure_ranks-all)
    → c.measure_ranks-all.result.e ≡ taken_all c.args.s (begun 0 0) (edited c.args.x (positions_of c.args.file.now))
all-encoder c =
    let a = c.args in
    let p = c.requires in
    let t = edit-along a.file.now a.v p.0 a.x p.1 a.s 0 0 p.2 (omega arith) (omega arith) in
    let begin : Cursor = start_of a.file.now a.v in
    let e : c.measure_ranks-front.result.e ≡ taken_all a.s (begun 0 0) (walked a.file.now a.v begin a.x.before)
    = ap (λ (w : Walk). w.e) c.measure_ranks-front.ensures ∙ along_encoder _ _ _ _ _ _ ∙ rw (c.begin-e.ensures, c.start-c.ensures) in
    let u : c.measure_ranks-front.result.c ≡ stepped_by a.file.now a.v begin a.x.before
    = ap (λ (w : Walk). w.c) c.measure_ranks-front.ensures ∙ along-cursor _ _ _ _ _ _ ∙ rw c.start-c.ensures in
    ap (λ (w : Walk). w.e) c.measure_ranks-all.ensures ∙ along_encoder _ _ _ _ _ _
    ∙ rw (c.measure_added-e.ensures, c.skip-c.ensures, e, u) (edit-all a.file.now a.v p.0 a.x p.1 a.s 0 0 t)

pub measured-requires : goal.measured-requires
measured-requires c =
    let a = c.args in
    let p = c.requires in
    rw (all-encoder (goal.at.measured-requires c).After-measure_ranks-all)
    (p.2, bounded a.s p.2 a.v.cells (edited a.x (positions_of a.file.now)) (cells-most a.file.now a.v p.0 a.x p.1) (edit-rising a.file.now a.v p.0 a.x p.1))

pub returns : goal.returns
returns c =
    let a = c.args in
    let p = c.requires in
    rw (c.measured.ensures, all-encoder (goal.at.returns c).After-measure_ranks-all)
    (measures a.s p.2 a.v.cells (edited a.x (positions_of a.file.now)) (cells-most a.file.now a.v p.0 a.x p.1) (edit-rising a.file.now a.v p.0 a.x p.1))
