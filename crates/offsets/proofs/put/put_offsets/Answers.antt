use Rattle.std.proofs.Common.{◌≡◌}
use Rattle.wire.proofs.Laws.{other_width}
use Rattle.offsets.proofs.put.put_offsets.Goals.{Start}
use Rattle.offsets.proofs.put.put_offsets.Goals as goal

wide : (c : Start) → (c.args.width ≡ 1 → ⊥) → c.args.width ≡ 2
wide c n = other_width c.args.width c.requires.2 c.requires.3 n

pub put_offsets_of-requires : goal.put_offsets_of-requires
put_offsets_of-requires c =
    let p = c.requires in
    (p.0, rw c.if-width-eq1.true at p.1)

pub put_offsets_of-requires-else-width-eq1 : goal.put_offsets_of-requires-else-width-eq1
put_offsets_of-requires-else-width-eq1 c =
    let p = c.requires in
    (p.0, rw (wide (goal.at.put_offsets_of-requires-else-width-eq1 c).Start c.if-width-eq1.false) at p.1)

pub returns-then-width-eq1 : goal.returns-then-width-eq1
returns-then-width-eq1 c = rw c.if-width-eq1.true c.put_offsets_of.ensures

pub returns-else-width-eq1 : goal.returns-else-width-eq1
returns-else-width-eq1 c =
    rw (wide (goal.at.returns-else-width-eq1 c).Start c.if-width-eq1.false)
    c.put_offsets_of-else-width-eq1.ensures
