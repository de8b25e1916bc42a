use mathlib.Core.Path.{refl}
use native.Mathlib.Omega.{arith}
use Rattle.std.proofs.lemmas.Result.{err_from_is_err_and, IfOk-at_ok}
use Rattle.laws.proofs.Bounds.{below_elements}
use Rattle.laws.proofs.Refusals.{refused_at, accepted_at}
use Rattle.parts.specs.Holds.{ViewOf}
use Rattle.exports.proofs.PartCalls.{ranks-refused, ranks-small, ranks-given}
use Rattle.exports.proofs.lent.ranks_from.Goals.{In_ok-v}
use Rattle.exports.proofs.lent.ranks_from.Goals as goal

pub returns-in_err-v : goal.returns-in_err-v
returns-in_err-v c =
    let r = refused_at _ _ c.check_ranks.ensures.0 _ c.in_err-v.was in
    let p = err_from_is_err_and c.from_residual.result c.from_residual.ensures.1 in
    rw (p.1, p.2) (ranks-refused c.args.file.now c.args.from c.args.to _ r.0 r.1)

view : (c : In_ok-v) → ViewOf c.args.file.now c.in_ok-v.v
view c = IfOk-at_ok (ViewOf c.args.file.now) c.in_ok-v.was c.check_ranks.ensures.1

-- where the part begins, below the file's length
pub overflow_cast-result : goal.overflow_cast-result
overflow_cast-result c =
    let a = c.args in
    let small = c.type_inv.file in
    let z = accepted_at _ _ c.check_ranks.ensures.0 _ c.in_ok-v.was in
    let s = ranks-small a.file.now a.from a.to _ (view (goal.at.overflow_cast-result c).In_ok-v) z (below_elements 256 a.file.now (λ i. omega (arith, small i))) in
    record { fits = omega arith }

pub returns : goal.returns
returns c =
    let a = c.args in
    let z = accepted_at _ _ c.check_ranks.ensures.0 _ c.in_ok-v.was in
    ranks-given a.file.now a.from a.to _ (view (goal.at.returns c).In_ok-v) z _ refl
