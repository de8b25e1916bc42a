-- `offer` meets its contract. Assumes nothing.
use mathlib.Core.Path.{refl}
use Rattle.listing.proofs.Listed.{offered_put, offered_small}
use Rattle.listing.proofs.offer.Goals as goal

-- `offer` meets its contract. Assumes nothing.
pub returns-then-out-text : goal.returns-then-out-text
returns-then-out-text c =
    let a = c.args in
    offered_small a.text.now a.out.now _ refl c.if-out-text.true

pub returns : goal.returns
returns c =
    let a = c.args in
    offered_put a.text.now a.out.now _ _ c.if-out-text.false c.put_bytes.ensures
