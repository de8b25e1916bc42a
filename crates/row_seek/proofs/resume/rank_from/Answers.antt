-- The rank at a position is the first from there on, where that one stands there. Assumes nothing.
use mathlib.Core.Path.{sym}
use lib.Arith.{lt_of_le-ne}
use Rattle.row_seek.proofs.Resumed.{sought-here, sought-past, sought-none}
use Rattle.row_seek.proofs.resume.rank_from.Goals as goal

-- The rank at a position is the first from there on, where that one stands there. Assumes nothing.
pub returns-then-next-p : goal.returns-then-next-p
returns-then-next-p c =
    let r = c.seek-next in
    (sought-here c.args.file.now c.args.v c.requires.0 r.result _ r.ensures.ready c.if-next-v.true c.requires.1 c.if-next-p.true, r.ensures)

pub returns-else-next-p : goal.returns-else-next-p
returns-else-next-p c =
    let r = c.seek-next in
    let more = c.if-next-v.true in
    let past = lt_of_le-ne (r.ensures.past more) (λ e. c.if-next-p.false (sym e)) in
    (sought-past c.args.file.now c.args.v c.requires.0 r.result _ r.ensures.ready more c.requires.1 past, r.ensures)

pub returns-else-next-v : goal.returns-else-next-v
returns-else-next-v c =
    let r = c.seek-next in
    (sought-none c.args.file.now c.args.v c.requires.0 r.result _ r.ensures.ready c.requires.1 c.if-next-v.false, r.ensures)
