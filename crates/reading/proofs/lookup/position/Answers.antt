use Rattle.std.proofs.lemmas.Result.{err_from_is_err_and, IfOk-at_ok}
use Rattle.laws.proofs.Refusals.{refused_at}
use Rattle.parts.specs.Holds.{ViewOf}
use Rattle.reading.proofs.Answers.{position-refused, position-found}
use Rattle.reading.proofs.lookup.position.Goals as goal

pub returns-in_err-v : goal.returns-in_err-v
returns-in_err-v c =
    let r = refused_at _ _ c.check.ensures.number _ c.in_err-v.was in
    let p = err_from_is_err_and c.from_residual.result c.from_residual.ensures.1 in
    rw (p.1, p.2) (position-refused _ _ _ r.0 r.1)

pub returns : goal.returns
returns c = position-found _ _ _ (IfOk-at_ok (ViewOf c.args.file.now) c.in_ok-v.was c.check.ensures.view) _ c.position_in.ensures
