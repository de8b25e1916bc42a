use Rattle.std.proofs.Common.{◌∙◌}
use Rattle.parts.proofs.Steps.{entry_1, entry_2, entry_other}
use Rattle.parts.proofs.walk.entry_of.Goals as goal

pub returns-in-1 : goal.returns-in-1
returns-in-1 c = c.load_u8.ensures.0 ∙ entry_1 _ _ _ c.in-1.is

pub returns-in-2 : goal.returns-in-2
returns-in-2 c = c.load_u16.ensures.0 ∙ entry_2 _ _ _ c.in-2.is

pub returns-in_default : goal.returns-in_default
returns-in_default c = entry_other _ _ _ c.in_default.in_default-own.rest.0.1 c.in_default.in_default-own.rest.1
