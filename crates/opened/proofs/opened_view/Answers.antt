use Rattle.std.proofs.lemmas.Result.{IfOk-at_ok}
use Rattle.parts.specs.Holds.{ViewOf}
use Rattle.opened.proofs.Openings.{view-accepted}
use Rattle.opened.proofs.opened_view.Goals as goal

pub returns-in-Ok : goal.returns-in-Ok
returns-in-Ok c = view-accepted _ _ (IfOk-at_ok (ViewOf c.args.file.now) c.in-Ok.is c.check.ensures.view)
