use Rattle.jump_walk.proofs.Found.{of_width}
use borrow.Author.Rules.{rules}
use Rattle.jumps.proofs.search.position_of.Goals as goal

pub seek_position-requires-2 : goal.seek_position-requires-2
seek_position-requires-2 c = let w = of_width c.args.v c.if-v-eq1.false in search rules
