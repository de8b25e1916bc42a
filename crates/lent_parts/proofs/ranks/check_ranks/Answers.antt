use Rattle.std.proofs.Common.{◌≤◌, ◌<◌, arith}
use Rattle.std.proofs.lemmas.Result.{err_from_is_err_and, IfOk-at_ok}
use Rattle.laws.proofs.Refusals.{refused_at}
use Rattle.parts.specs.Holds.{ViewOf}
use Rattle.lent_parts.proofs.Range.{range_refused, range_crossed, range-beyond, range_inside}
use Rattle.lent_parts.proofs.ranks.check_ranks.Goals.{In_ok-v}
use Rattle.lent_parts.proofs.ranks.check_ranks.Goals as goal

pub returns-in_err-v : goal.returns-in_err-v
returns-in_err-v c =
    let r = refused_at _ _ c.check.ensures.number _ c.in_err-v.was in
    let p = err_from_is_err_and c.from_residual.result c.from_residual.ensures.1 in
    rw (p.1, p.2, r.0) (range_refused c.args.file.now c.args.a.0 c.args.c.0 r.1, tt)

view : (c : In_ok-v) → ViewOf c.args.file.now c.in_ok-v.v
view c = IfOk-at_ok (ViewOf c.args.file.now) c.in_ok-v.was c.check.ensures.view

pub returns-then-c-a : goal.returns-then-c-a
returns-then-c-a c =
    let h = c.if-c-a.true in
    let g : c.args.c.0 < c.args.a.0 = omega arith in
    (range_crossed _ _ _ _ (view (goal.at.returns-then-c-a c).In_ok-v) g, tt)

pub returns-then-v-c : goal.returns-then-v-c
returns-then-v-c c =
    let h = c.if-c-a.false in
    let k = c.if-v-c.true in
    let f : c.args.a.0 ≤ c.args.c.0 = omega arith in
    let g : c.in_ok-v.v.words < c.args.c.0 = omega arith in
    (range-beyond _ _ _ _ (view (goal.at.returns-then-v-c c).In_ok-v) f g, tt)

pub returns : goal.returns
returns c =
    let o = view (goal.at.returns c).In_ok-v in
    let h = c.if-c-a.false in
    let k = c.if-v-c.false in
    let f : c.args.a.0 ≤ c.args.c.0 = omega arith in
    let g : c.args.c.0 ≤ c.in_ok-v.v.words = omega arith in
    (range_inside _ _ _ _ o f g, o)
