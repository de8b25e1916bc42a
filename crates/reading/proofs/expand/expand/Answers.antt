use mathlib.Core.Path.{◌∙◌}
use Rattle.std.proofs.lemmas.Result.{IfOk-at_ok}
use Rattle.laws.proofs.Refusals.{handed_on, handed_least}
use Rattle.parts.specs.Holds.{ViewOf}
use Rattle.reading.proofs.Answers.{expand-refused, expand-small, expand_fills}
use Rattle.reading.proofs.expand.expand.Goals.{In_ok-v}
use Rattle.reading.proofs.expand.expand.Goals as goal

pub returns-in_err-v : goal.returns-in_err-v
returns-in_err-v c =
    let a = c.args in
    let h = handed_on _ _ c.in_err-v.was _ c.from_residual.ensures.1 in
    let l = handed_least _ _ c.in_err-v.was _ c.from_residual.ensures.1 in
    expand-refused a.file.now a.dst.now _ (record { number = h ∙ c.check.ensures.number }) l

-- the view is that of an accepted file
view : (c : In_ok-v) → ViewOf c.args.file.now c.in_ok-v.v
view c = IfOk-at_ok (ViewOf c.args.file.now) c.in_ok-v.was c.check.ensures.view

pub returns-then-dst-v : goal.returns-then-dst-v
returns-then-dst-v c = let a = c.args in expand-small a.file.now _ (view (goal.at.returns-then-dst-v c).In_ok-v) a.dst.now c.if-dst-v.true

pub expanded-requires : goal.expanded-requires
expanded-requires c = (view (goal.at.expanded-requires c).In_ok-v, c.if-dst-v.false)

pub returns : goal.returns
returns c =
    let a = c.args in
    expand_fills a.file.now _ (view (goal.at.returns c).In_ok-v) a.dst.now _ c.if-dst-v.false c.expanded.ensures
