-- `put_header` meets its contract. Assumes nothing.
use mathlib.Core.Path.{◌≡◌}
use lib.ListN.{length}
use Rattle.format.specs.Picture.{most_dimensions}
use Rattle.layout.specs.Laid.{counts_in}
use Rattle.layout.proofs.Header.{put_pieces}
use borrow.Author.Rules.{rules}
use Rattle.layout.proofs.header_out.put_header.Goals.{Start}
use Rattle.layout.proofs.header_out.put_header.Goals as goal

-- `put_header` meets its contract. Assumes nothing.
four : (c : Start) → length c.args.d.extents ≡ most_dimensions
four c = search rules

pub put_numbers-requires : goal.put_numbers-requires
put_numbers-requires c = let h = four (goal.at.put_numbers-requires c).Start in search rules

pub returns : goal.returns
returns c =
    let a = c.args in
    put_pieces a.s a.d a.empty (counts_in a.z) a.dst.now (four (goal.at.returns c).Start) c.put_setting.ensures c.put_numbers.ensures
    c.put_numbers-2.ensures
