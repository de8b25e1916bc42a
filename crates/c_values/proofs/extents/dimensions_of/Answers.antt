use borrow.Author.Rules.{rules}
use Rattle.std.proofs.lemmas.Result.{err_from_is_err_and}
use Rattle.laws.proofs.Tools.{ok_is, err_is}
use Rattle.c_values.specs.Extents.{extents_number}
use Rattle.c_values.proofs.extents.dimensions_of.Goals as goal

pub returns-in_err-extents : goal.returns-in_err-extents
unfolding extents_number
returns-in_err-extents c =
    let e = err_is _ _ _ _ _ c.as_four.ensures c.ok_or.ensures.value _ c.in_err-extents.was in
    let p = err_from_is_err_and c.from_residual.result c.from_residual.ensures.1 in
    rw (p.1, p.2, e.1, e.0) (search rules)

pub returns : goal.returns
unfolding extents_number
returns c =
    let s = ok_is _ _ _ _ _ c.as_four.ensures c.ok_or.ensures.value _ c.in_ok-extents.was in
    rw (s.0, s.1) (search rules)
