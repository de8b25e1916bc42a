use mathlib.Core.Path.{◌∙◌}
use Rattle.parts.proofs.Alike.{taken-all-alike}
use Rattle.pointed_jumps.proofs.Held.{widths}
use Rattle.pointed_jumps.proofs.Made.{alike}
use Rattle.pointed_jumps.proofs.coding.take_all.Goals as goal

pub take_all-requires : goal.take_all-requires
take_all-requires c =
    let w = widths c.args.width c.args.step c.requires.0 in
    (w.0, w.1, c.requires.1)

pub returns : goal.returns
returns c = let a = c.args in c.take_all.ensures ∙ taken-all-alike _ _ (alike a.width a.step) a.e a.ps.now
