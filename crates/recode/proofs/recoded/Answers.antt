use mathlib.Core.Path.{sym, ◌∙◌}
use Rattle.laws.proofs.Refusals.{accepted_at, handed_on, handed_least}
use Rattle.parts.proofs.Seen.{seen}
use Rattle.layout.proofs.Measuring.{fitting}
use Rattle.recode.proofs.Recoding.{recode_number, recode_goes, recode_refused}
use Rattle.recode.proofs.recoded.Goals as goal

pub going-requires : goal.going-requires
going-requires c =
    let g = c.args in
    let w = c.requires in
    let k = (seen g.file.now g.v w.0).header in
    fitting g.s w.2 g.v.cells _ k.counted.cells-most (rw k.cells w.1.edit.rising) _ c.sized.ensures

pub returns-in_err-z : goal.returns-in_err-z
returns-in_err-z c =
    let g = c.args in
    let w = c.requires in
    let h = handed_on _ _ c.in_err-z.was _ c.from_residual.ensures.1 in
    let l = handed_least _ _ c.in_err-z.was _ c.from_residual.ensures.1 in
    recode_refused g.file.now g.x g.word g.s g.dst.now _
    (recode_number g.file.now g.v w.0 g.x g.word w.1 g.s w.2 _ c.sized.ensures _ _ (h ∙ c.going.ensures.0)) l

pub put_recoded-requires : goal.put_recoded-requires
put_recoded-requires c =
    let g = c.args in
    let w = c.requires in
    let z = accepted_at _ _ c.going.ensures.0 _ c.in_ok-z.was in
    let e = rw c.in_ok-z.was at c.going.ensures.1 in
    (w.0, w.1, recode_goes g.file.now g.v w.0 g.x g.word w.1 g.s w.2 _ c.sized.ensures _ z _ e)

pub returns : goal.returns
returns c =
    let g = c.args in
    let w = c.requires in
    let z = accepted_at _ _ c.going.ensures.0 _ c.in_ok-z.was in
    record {
      number = recode_number g.file.now g.v w.0 g.x g.word w.1 g.s w.2 _ c.sized.ensures _ 0 (sym z);
      left = c.put_recoded.ensures;
    }
