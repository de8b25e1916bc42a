use Rattle.jumps.specs.Coding.{coder}
use Rattle.jumps.proofs.Held.{widths}
use Rattle.jumps.proofs.coding.put_all.Goals as goal

pub put_all-requires : goal.put_all-requires
unfolding coder
put_all-requires c =
    let w = widths c.args.width c.args.step c.requires.0 in
    (w.0, w.1, c.requires.1, c.requires.2)

pub returns : goal.returns
unfolding coder
returns c = c.put_all.ensures
