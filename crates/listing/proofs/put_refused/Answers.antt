-- `put_refused` meets its contract. Assumes nothing.
use native.Mathlib.Omega.{arith}
use Rattle.text.proofs.Placing.{length-refused, number-room, refused-put}
use Rattle.listing.proofs.put_refused.Goals as goal

-- `put_refused` meets its contract. Assumes nothing.
pub put_bytes-at-requires : goal.put_bytes-at-requires
put_bytes-at-requires c = omega (arith, length-refused c.args.number)

pub put_number-requires : goal.put_number-requires
put_number-requires c =
    number-room c.args.number c.args.out.now _ _ c.put_bytes-at.ensures c.requires

pub returns : goal.returns
returns c =
    let a = c.args in
    refused-put a.number a.out.now _ _ c.put_bytes-at.ensures _ _ c.put_number.ensures
