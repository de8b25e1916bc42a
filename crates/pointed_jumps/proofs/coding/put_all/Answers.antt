use mathlib.Core.Path.{◌∙◌}
use Rattle.parts.proofs.Alike.{alike-back, taken-all-alike, put-all-alike, room-alike}
use Rattle.pointed_jumps.proofs.Held.{widths}
use Rattle.pointed_jumps.proofs.Made.{alike}
use Rattle.pointed_jumps.proofs.coding.put_all.Goals as goal

pub put_all-requires : goal.put_all-requires
put_all-requires c =
    let a = c.args in
    let w = widths a.width a.step c.requires.0 in
    (w.0, w.1, c.requires.1, room-alike _ _ (alike-back _ _ (alike a.width a.step)) a.e a.ps.now _ c.requires.2)

pub returns : goal.returns
returns c =
    let a = c.args in
    let q = alike a.width a.step in
    let p = c.put_all.ensures in
    (p.0 ∙ taken-all-alike _ _ q a.e a.ps.now, p.1 ∙ put-all-alike _ _ q a.dst.now a.e a.ps.now)
