use Rattle.std.proofs.lemmas.Result.{err_from_is_err_and}
use Rattle.laws.proofs.Refusals.{refused_at, accepted_at}
use Rattle.exports.proofs.PartCalls.{shorter_refused, second_shorter, first_shorter}
use Rattle.exports.proofs.lent.shorter_of.Goals as goal

pub returns-in_err-check_shorter : goal.returns-in_err-check_shorter
returns-in_err-check_shorter c =
    let r = refused_at _ _ c.check_shorter.ensures _ c.in_err-check_shorter.was in
    let p = err_from_is_err_and c.from_residual.result c.from_residual.ensures.1 in
    rw (p.1, p.2) (shorter_refused c.args.first.now c.args.second.now _ r.0 r.1)

pub returns-then-second-first : goal.returns-then-second-first
returns-then-second-first c =
    second_shorter _ _ (accepted_at _ _ c.check_shorter.ensures _ c.in_ok-check_shorter.was) c.if-second-first.true

pub returns : goal.returns
returns c = first_shorter _ _ (accepted_at _ _ c.check_shorter.ensures _ c.in_ok-check_shorter.was) c.if-second-first.false
