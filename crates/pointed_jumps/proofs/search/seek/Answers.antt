-- The place of a position. Assumes nothing.
use mathlib.Core.Path.{ap}
use mathlib.Core.Bool.{not}
use native.Mathlib.Omega.{arith}
use Rattle.pointed_jumps.proofs.Found.{none, found_after}
use Rattle.pointed_jumps.proofs.search.seek.Goals as goal

-- The place of a position. Assumes nothing.
pub returns-then-not-searchable : goal.returns-then-not-searchable
returns-then-not-searchable c =
    none c.args.file.now c.args.v c.args.width c.requires.2 (ap not c.if-not-searchable.true) c.searchable.ensures.1 c.args.p

pub jump_place-requires : goal.jump_place-requires
jump_place-requires c =
    let s = c.searchable.ensures.0 (c.if-not-searchable.false) in
    (c.requires.0, c.requires.1, s, c.last_at_most-j.ensures.within s.jumps)

pub seek_from-requires : goal.seek_from-requires
seek_from-requires c =
    let s = c.searchable.ensures.0 (c.if-not-searchable.false) in
    let p = c.jump_place.ensures.0 in
    let n = s.words in
    let r = p.rank in
    (c.requires.0, c.requires.1, omega arith, s.inside, p.within)

pub returns : goal.returns
returns c =
    let s = c.searchable.ensures.0 (c.if-not-searchable.false) in
    let j = c.last_at_most-j in
    let p = c.jump_place in
    found_after c.args.file.now c.args.v c.args.width c.requires.2 p.result j.result c.args.p _ s.words
    p.ensures.0 p.ensures.1 j.ensures c.seek_from.ensures
