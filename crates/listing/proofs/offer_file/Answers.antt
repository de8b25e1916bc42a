-- `offer_file` meets its contract. Assumes nothing.
use native.Mathlib.Omega.{arith}
use Rattle.format.specs.Lister.{file_lines}
use Rattle.listing.proofs.Listed.{offered_put}
use Rattle.listing.proofs.offer_file.Goals as goal

-- `offer_file` meets its contract. Assumes nothing.
pub put_file-requires : goal.put_file-requires
put_file-requires c =
    let e = c.file_length-total.ensures in
    (c.requires.0, omega arith)

pub returns : goal.returns
returns c =
    let a = c.args in
    let e = c.file_length-total.ensures in
    offered_put (file_lines a.file.now) a.out.now _ _ (omega arith) c.put_file.ensures
