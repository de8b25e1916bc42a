use native.Mathlib.Omega.{arith}
use Rattle.wire.proofs.Laws.{entry_field-none}
use Rattle.wire.proofs.get_entry.Goals as goal

pub get_u8-requires : goal.get_u8-requires
get_u8-requires c = rw c.in-1.is at c.requires

pub get_u16-requires : goal.get_u16-requires
get_u16-requires c = rw c.in-2.is at c.requires

pub returns-in-1 : goal.returns-in-1
returns-in-1 c = rw c.in-1.is (c.get_u8.ensures.0, omega arith)

pub returns-in-2 : goal.returns-in-2
returns-in-2 c = rw c.in-2.is c.get_u16.ensures

pub returns-in_default : goal.returns-in_default
returns-in_default c = (entry_field-none _ _ _ c.in_default.in_default-own.rest.0.1 c.in_default.in_default-own.rest.1, omega arith)
