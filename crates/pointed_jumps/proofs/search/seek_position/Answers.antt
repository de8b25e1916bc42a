-- The position of a rank. Assumes nothing.
use mathlib.Core.Path.{ap}
use mathlib.Core.Bool.{not}
use Rattle.std.proofs.Common.{None}
use native.Mathlib.Omega.{arith}
use Rattle.differences.proofs.Walked.{room}
use Rattle.pointed_jumps.proofs.Found.{no_position, position-found}
use Rattle.pointed_jumps.proofs.search.seek_position.Goals as goal

-- The position of a rank. Assumes nothing.
pub returns-then-not-searchable : goal.returns-then-not-searchable
returns-then-not-searchable c =
    no_position c.args.file.now c.args.v c.args.width c.requires.3 (ap not c.if-not-searchable.true) c.searchable.ensures.1 c.args.rank

pub pointed_place-from-requires : goal.pointed_place-from-requires
pointed_place-from-requires c =
    (c.requires.0, c.requires.1, c.searchable.ensures.0 (c.if-not-searchable.false), c.requires.2)

pub walk-place-requires : goal.walk-place-requires
walk-place-requires c =
    let s = c.searchable.ensures.0 (c.if-not-searchable.false) in
    let p = c.pointed_place-from.ensures in
    (room c.args.file.now c.requires.0 c.requires.1 s.inside (omega arith) c.requires.2, p.rank, p.within)

pub returns : goal.returns
returns c =
    let p = c.pointed_place-from in
    let z = c.walk-place.ensures in
    position-found c.args.file.now c.args.v c.args.width c.requires.3 p.result c.args.rank None _ p.ensures c.requires.2 z z.all
