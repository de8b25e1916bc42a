-- `put_ranks` meets its contract: the lines that are left, put on, give the whole. Assumes nothing.
use Prim.Native.Nat.{◌+◌, ◌*◌}
use mathlib.Core.Path.{◌≡◌, refl}
use Rattle.format.specs.Bytes.{field}
use Rattle.parts.proofs.Seen.{seen}
use Rattle.kinds.proofs.Walks.{walk_start}
use Rattle.listing.proofs.Lines.{word-inside, lines_end, step, lines_turn, line-room}
use Rattle.listing.proofs.put_ranks.Goals as goal

pub start-c-requires : goal.start-c-requires
start-c-requires c = (seen c.args.file.now c.args.v c.requires.0).holds.counted.allowed

pub loop-rank-init : goal.loop-rank-init
loop-rank-init c =
    let o = c.requires.0 in (
      rw c.start-c.ensures (walk_start c.args.file.now c.args.v o),
      record { place = refl; bytes = refl },
    )

pub get_u32-word-requires : goal.get_u32-word-requires
get_u32-word-requires c =
    word-inside c.args.file.now c.args.v c.requires.0 c.loop-rank.rank c.loop-rank-test.true

pub put_line-to-requires : goal.put_line-to-requires
put_line-to-requires c =
    let a = c.args in
    let l = c.loop-rank in
    let w : c.get_u32-word.result ≡ field 4 (a.v.place + 4 * l.rank) a.file.now
    = c.get_u32-word.ensures.0 in
    line-room a.file.now a.v c.requires.0 l.rank l.c _ c.loop-rank-test.true l.invariant.0 w a.out.now a.at l.out l.to
    c.requires.1 c.loop-rank.auto.out l.invariant.1

pub next-c-requires : goal.next-c-requires
next-c-requires c =
    (seen c.args.file.now c.args.v c.requires.0).holds.counted.allowed

pub loop-rank-preserved : goal.loop-rank-preserved
loop-rank-preserved c =
    let a = c.args in
    let o = c.requires.0 in
    let l = c.loop-rank in
    let h = c.loop-rank-test.true in
    let t = c.put_line-to.ensures in
    let w : c.get_u32-word.result ≡ field 4 (a.v.place + 4 * l.rank) a.file.now
    = c.get_u32-word.ensures.0 in (
      rw c.next-c.ensures (step a.file.now a.v o l.rank l.c _ h l.invariant.0 w).rest,
      lines_turn a.file.now a.v o l.rank l.c _ h l.invariant.0 w a.out.now a.at l.out _ l.to _ l.invariant.1 t,
    )

pub returns : goal.returns
returns c =
    let l = c.loop-rank in
    lines_end c.args.file.now c.args.v c.requires.0 c.args.out.now c.args.at l.rank l.to l.out c.loop-rank-test.false l.invariant.1
