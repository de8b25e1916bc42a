use Rattle.std.proofs.Common.{◌≡◌, ◌+◌, sym, ap, ◌∙◌, arith}
use Rattle.wire.proofs.Laws.{pair-there}
use Rattle.wire.specs.Wire.{add32}
use Rattle.parts.specs.Cursor.{along_run, along_by, stepped_as}
use Rattle.parts.proofs.Along.{past-along}
use Rattle.page_walk.specs.Steps.{next}
use Rattle.page_walk.proofs.Walk.{next-along, page-next, next-entered}
use Rattle.page_walk.proofs.steps.past_there.Goals.{After-along_run-d, After-struct_known-3-1}
use Rattle.page_walk.proofs.steps.past_there.Goals as goal

-- the step from the cell that is k further
stepped : (c : After-along_run-d)
    → let a = c.args in
    next a.file.now a.v c.along_run-d.result ≡ stepped_as (next a.file.now a.v) a.c (a.k + 1)
stepped c =
    let a = c.args in
    let h = c.requires.0 in
    let g = c.well_formed.1.1.0 in
    ap (next _ _) c.along_run-d.ensures ∙ past-along _ (next-along _ _) a.k a.c (omega arith) (omega arith) h

pub returns-then-d : goal.returns-then-d
unfolding along_run add32
returns-then-d c =
    sym (next-along _ _ c.along_run-d.result c.if-d.true) ∙ stepped (goal.at.returns-then-d c).After-along_run-d

-- the next entry is in the file
pub get_pair-requires : goal.get_pair-requires
unfolding along_by
get_pair-requires c =
    rw (c.page_of-p.ensures, page-next c.args.v.step c.along_run-d.result, c.along_run-d.ensures) (omega (arith, c.requires.1))

pub returns : goal.returns
returns c =
    c.enter.ensures
    ∙ next-entered _ _ _ _ _ c.if-d.false c.page_of-p.ensures
    (c.get_pair.ensures.0 ∙ sym (pair-there _ _ (get_pair-requires (goal.at.returns c).After-struct_known-3-1)))
    ∙ stepped (goal.at.returns c).After-along_run-d
