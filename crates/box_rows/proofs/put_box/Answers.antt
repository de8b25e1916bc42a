-- The box goes from the first dimension on, and fills the destination's beginning. Assumes nothing.
use mathlib.Core.Path.{◌≡◌}
use native.Mathlib.Omega.{arith}
use lib.ListN.{length}
use Rattle.format.specs.Picture.{most_dimensions}
use Rattle.box_rows.proofs.Whole.{box_placed, box_goes, box_done}
use borrow.Author.Rules.{rules}
use Rattle.box_rows.proofs.put_box.Goals as goal

-- The box goes from the first dimension on, and fills the destination's beginning. Assumes nothing.
pub long_rows-r-requires : goal.long_rows-r-requires
long_rows-r-requires c =
    let low : length c.args.low ≡ most_dimensions = search rules in
    let high : length c.args.high ≡ most_dimensions = search rules in
    box_placed c.args.file.now c.args.v c.args.d c.args.low c.args.high c.requires.0 c.requires.1 low high c.requires.2

pub put_from-requires : goal.put_from-requires
put_from-requires c =
    let r = c.long_rows-r in
    (omega arith, box_goes c.args.file.now c.args.v c.args.d c.args.low c.args.high c.requires.0 c.requires.1 r.result r.ensures c.begin.result _ c.begin.ensures c.requires.3)

pub returns : goal.returns
returns c =
    let r = c.long_rows-r in
    box_done c.args.file.now c.args.v c.args.d c.args.low c.args.high c.requires.0 c.requires.1 r.result r.ensures c.begin.result c.args.dst.now _ _ c.requires.3
    c.put_from.ensures
