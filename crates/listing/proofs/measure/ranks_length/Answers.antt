-- `ranks_length` meets its contract: the bytes counted and those of the lines that are left. Assumes nothing.
use Prim.Native.Nat.{◌+◌, ◌*◌}
use mathlib.Core.Path.{◌≡◌}
use native.Mathlib.Omega.{arith}
use Rattle.format.specs.Bytes.{field}
use Rattle.parts.proofs.Seen.{seen}
use Rattle.kinds.proofs.Walks.{walk_start}
use Rattle.listing.proofs.Lines.{word-inside, ranks-most, total-end, step, total_turn}
use Rattle.listing.proofs.measure.ranks_length.Goals.{After-line_length-total}
use Rattle.listing.proofs.measure.ranks_length.Goals as goal

pub start-c-requires : goal.start-c-requires
start-c-requires c = (seen c.args.file.now c.args.v c.requires.0).holds.counted.allowed

pub loop-rank-init : goal.loop-rank-init
loop-rank-init c =
    let o = c.requires.0 in
    (rw c.start-c.ensures (walk_start c.args.file.now c.args.v o), omega arith)

pub get_u32-word-requires : goal.get_u32-word-requires
get_u32-word-requires c =
    word-inside c.args.file.now c.args.v c.requires.0 c.loop-rank.rank c.loop-rank-test.true

-- the word that the line tells
word_read : (c : After-line_length-total)
    → let a = c.args in
    c.get_u32-word.result ≡ field 4 (a.v.place + 4 * c.loop-rank.rank) a.file.now
word_read c = c.get_u32-word.ensures.0

pub overflow_add-total : goal.overflow_add-total
overflow_add-total c =
    let l = c.loop-rank in
    let t = total_turn c.args.file.now c.args.v c.requires.0 l.rank l.c _ c.loop-rank-test.true l.invariant.0 (word_read c) l.total l.invariant.1 in
    let m = ranks-most c.args.file.now c.args.v c.requires.0 c.requires.1 in
    let e = c.line_length-total.ensures in
    omega arith

pub next-c-requires : goal.next-c-requires
next-c-requires c =
    (seen c.args.file.now c.args.v c.requires.0).holds.counted.allowed

pub loop-rank-preserved : goal.loop-rank-preserved
loop-rank-preserved c =
    let a = c.args in
    let o = c.requires.0 in
    let l = c.loop-rank in
    let h = c.loop-rank-test.true in
    let t = total_turn a.file.now a.v o l.rank l.c _ h l.invariant.0 (word_read (goal.at.loop-rank-preserved c).After-line_length-total) l.total l.invariant.1 in
    let e = c.line_length-total.ensures in
    (rw c.next-c.ensures (step a.file.now a.v o l.rank l.c _ h l.invariant.0 (word_read (goal.at.loop-rank-preserved c).After-line_length-total)).rest, rw e t)

pub returns : goal.returns
returns c =
    let l = c.loop-rank in
    total-end c.args.file.now c.args.v c.requires.0 l.rank l.total c.loop-rank-test.false l.invariant.1
