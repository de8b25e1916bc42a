use Rattle.jumps.specs.Coding.{coder}
use Rattle.jumps.proofs.Held.{widths}
use Rattle.jumps.proofs.coding.take_all.Goals as goal

pub take_all-requires : goal.take_all-requires
take_all-requires c =
    let w = widths c.args.width c.args.step c.requires.0 in
    (w.0, w.1, c.requires.1)

pub returns : goal.returns
unfolding coder
returns c = c.take_all.ensures
