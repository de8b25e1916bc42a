-- `put_line` meets its contract. Assumes nothing.
use Rattle.text.proofs.Placing.{first-room, second-room, third_room, line-put}
use Rattle.text.proofs.put_line.Goals as goal

-- `put_line` meets its contract. Assumes nothing.
pub put_number-second-requires : goal.put_number-second-requires
put_number-second-requires c =
    first-room c.args.a c.args.b c.args.c c.args.dst.now c.args.at c.requires

pub put_number-third-requires : goal.put_number-third-requires
put_number-third-requires c =
    second-room c.args.a c.args.b c.args.c c.args.dst.now c.args.at _ _ c.requires c.put_number-second.ensures

pub put_number-requires : goal.put_number-requires
put_number-requires c =
    third_room c.args.a c.args.b c.args.c c.args.dst.now c.args.at _ _ _ _
    c.put_number-second.ensures c.put_number-third.ensures c.requires

pub returns : goal.returns
returns c =
    let a = c.args in
    line-put a.a a.b a.c a.dst.now a.at _ _ _ _
    c.put_number-second.ensures
    c.put_number-third.ensures _ _ c.put_number.ensures
