use Rattle.std.proofs.Common.{eq-eqb, ne_eqb}
use Rattle.wire.specs.Wire.{add32}
use Rattle.parts.specs.Cursor.{moved_to}
use Rattle.difference_rows.specs.Steps.{jump_from, jump_by}
use Rattle.difference_rows.proofs.batch.step_by.Goals as goal

pub returns-then-difference-ne0 : goal.returns-then-difference-ne0
unfolding jump_by moved_to add32
returns-then-difference-ne0 c = rw (ne_eqb _ 0 c.if-difference-ne0.true)

pub returns : goal.returns
unfolding jump_by jump_from add32
returns c = rw (eq-eqb _ 0 c.if-difference-ne0.false, c.load_u32-jump.ensures.0)
