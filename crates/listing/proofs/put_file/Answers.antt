-- `put_file` meets its contract. Assumes nothing.
use Rattle.listing.proofs.Lines.{first-room, ranks-room, first_then}
use Rattle.listing.proofs.put_file.Goals as goal

-- `put_file` meets its contract. Assumes nothing.
pub put_line-at-requires : goal.put_line-at-requires
put_line-at-requires c =
    first-room c.args.file.now c.args.v c.requires.0 c.args.out.now c.requires.1

pub put_ranks-requires : goal.put_ranks-requires
put_ranks-requires c =
    (c.requires.0, ranks-room c.args.file.now c.args.v c.requires.0 c.args.out.now _ _ c.put_line-at.ensures c.requires.1)

pub returns : goal.returns
returns c =
    first_then c.args.file.now c.args.v c.requires.0 c.args.out.now _ _ c.put_line-at.ensures _ _
    c.put_ranks.ensures
