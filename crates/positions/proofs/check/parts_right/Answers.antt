use Rattle.std.proofs.Common.{◌∙◌}
use Rattle.laws.proofs.Bounds.{below_elements}
use Rattle.positions.proofs.Held.{there, parts_are}
use Rattle.positions.proofs.check.parts_right.Goals as goal

pub positions_rise-requires : goal.positions_rise-requires
positions_rise-requires c = there c.args.file.now c.args.v c.requires

pub returns : goal.returns
returns c =
    let a = c.args in
    c.positions_rise.ensures ∙ parts_are a.file.now a.v c.requires (below_elements 256 a.file.now (λ i. (c.type_inv.file i).fits))
