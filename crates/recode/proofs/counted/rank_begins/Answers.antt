use lib.Arith.{lt_of_le-ne}
use Rattle.recode.proofs.RunEdits.{first-none, first-there}
use Rattle.recode.proofs.counted.rank_begins.Goals as goal

pub returns-then-r-v : goal.returns-then-r-v
returns-then-r-v c = first-none c.args.file.now c.args.v c.requires.0 c.args.end c.args.r c.if-r-v.true

pub stored_position-requires : goal.stored_position-requires
stored_position-requires c = (c.requires.0, lt_of_le-ne c.requires.1 c.if-r-v.false)

pub returns : goal.returns
returns c = first-there c.args.file.now c.args.v c.requires.0 c.args.r (lt_of_le-ne c.requires.1 c.if-r-v.false) c.args.end _ _ c.stored_position.ensures.0 c.run_begins.ensures
