-- `put_picture` meets its contract: header, parts and words, and what is made of the second part. Assumes nothing.
use mathlib.Core.Path.{◌≡◌}
use native.Mathlib.Omega.{arith}
use lib.ListN.{length}
use Rattle.format.specs.Picture.{most_dimensions}
use Rattle.layout.proofs.WholeFile.{Laid}
use Rattle.making.proofs.Making.{laid_by, words-room, derivable_then, file-there}
use borrow.Author.Rules.{rules}
use Rattle.making.proofs.put_picture.Goals.{Start}
use Rattle.making.proofs.put_picture.Goals as goal

-- `put_picture` meets its contract: header, parts and words, and what is made of the second part. Assumes nothing.
four : (c : Start) → length c.args.d.extents ≡ most_dimensions
four c = search rules

-- what the steps rely on
laid : (c : Start) → Laid c.args.s c.args.d c.args.empty c.args.words.now c.args.dst.now c.args.z
laid c = laid_by _ _ _ _ _ _ (four c) c.requires.0 c.requires.1

pub put_header-requires : goal.put_header-requires
put_header-requires c =
    let l = laid (goal.at.put_header-requires c).Start in
    (l.long, l.fitting)

pub put_out-requires : goal.put_out-requires
put_out-requires c =
    let l = laid (goal.at.put_out-requires c).Start in
    let f = l.fitting in
    (c.requires.1.allowed, c.requires.1.few, omega arith, omega arith, l.apart, words-room _ _ _ _ _ _ (four (goal.at.put_out-requires c).Start) c.requires.0 c.requires.1 _ c.put_header.ensures)

pub put_derived-requires : goal.put_derived-requires
put_derived-requires c =
    (c.requires.1.allowed, omega arith, derivable_then _ _ _ _ _ _ (four (goal.at.put_derived-requires c).Start) c.requires.0 c.requires.1 _ c.put_header.ensures _ c.put_out.ensures)

pub returns : goal.returns
returns c =
    file-there _ _ _ _ _ _ (four (goal.at.returns c).Start) c.requires.0 c.requires.1 _ c.put_header.ensures _ c.put_out.ensures _
    c.put_derived.ensures
