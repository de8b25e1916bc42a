use Rattle.pointed_jumps.specs.Coding.{coder}
use Rattle.pointed_jumps.proofs.Held.{steps}
use Rattle.pointed_jumps.proofs.coding.sizes.Goals as goal

pub pointer_count-requires : goal.pointer_count-requires
pointer_count-requires c = (steps c.args.width c.args.step c.requires.0).0

pub returns : goal.returns
unfolding coder
returns c = let q = c.pointer_count.ensures.0 in rw q
