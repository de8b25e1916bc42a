use Rattle.wire.specs.Wire.{field_pair}
use Rattle.wire.proofs.get_pair.Goals as goal

pub returns : goal.returns
unfolding field_pair
returns c =
    let x = c.get_u32.ensures in
    let y = c.get_u32-2.ensures in
    (rw (x.0, y.0), x.1, y.1)
