-- The bytes of a batch: the first position, the jumps after it, the differences after it. Assumes nothing.
use Prim.Native.Nat.{ℕ, ◌+◌, ◌*◌, ◌≤◌}
use mathlib.Core.Path.{◌≡◌, ap, ◌∙◌}
use mathlib.Core.List.{List}
use native.Mathlib.Nat.{pos_of_ne-zero}
use native.Mathlib.Omega.{arith}
use lib.ListN.{length, get_or}
use Rattle.format.specs.Bytes.{bytes_of}
use Rattle.stores.specs.Put.{put}
use Rattle.stores.proofs.Laws.{length-put}
use Rattle.parts.specs.Batch.{RoomAll}
use Rattle.parts.proofs.Taking.{length-put_by}
use Rattle.parts.proofs.Taken.{Writing, write_begin, write-next, write-end}
use Rattle.difference_rows.specs.Later.{later_differences, later_jumps}
use Rattle.jump_entries.specs.Coding.{jumps_coder}
use Rattle.jump_entries.proofs.Batch.{along-rising}
use Rattle.jump_entries.proofs.PutBatch.{batch_put, batch_room, batch_count}
use borrow.Author.Rules.{rules}
use Rattle.jump_entries.proofs.coding.put_all.Goals.{After-put_jumps, After-put_one-at, Start}
use Rattle.jump_entries.proofs.coding.put_all.Goals as goal

-- The bytes of a batch: the first position, the jumps after it, the differences after it. Assumes nothing.
-- what is written by one position after the other
begins : (c : Start) → let a = c.args in Writing (jumps_coder a.width) a.ps.now a.e a.dst.now a.e a.dst.now 0
begins c = let a = c.args in write_begin (jumps_coder a.width) a.ps.now a.e a.dst.now c.requires.2 c.requires.3

room : (c : Start) → RoomAll (jumps_coder c.args.width) c.args.e c.args.ps.now (length c.args.dst.now)
room c = c.requires.3

pub returns-then-ps-eq0 : goal.returns-then-ps-eq0
returns-then-ps-eq0 c =
    let a = c.args in
    let n = c.if-ps-eq0.true in
    write-end (jumps_coder a.width) a.ps.now a.e a.dst.now a.e a.dst.now 0 (omega arith) (begins (goal.at.returns-then-ps-eq0 c).Start)

pub put_one-at-requires : goal.put_one-at-requires
put_one-at-requires c =
    let a = c.args in
    let n = write-next (jumps_coder a.width) a.ps.now a.e a.dst.now a.e a.dst.now 0 (pos_of_ne-zero c.if-ps-eq0.false) (begins (goal.at.put_one-at-requires c).Start) in
    (n.0, n.1, c.requires.0, c.requires.1)

-- the bytes after the first position
length-one : (c : After-put_one-at) → length c.put_one-at.new.dst ≡ length c.args.dst.now
length-one c =
    let a = c.args in
    ap length c.put_one-at.ensures.1 ∙ length-put_by (jumps_coder a.width) a.dst.now a.e (get_or a.ps.now 0 0)

rooms : (c : After-put_one-at) → let a = c.args in
    (c.put_one-at.result.first + 4 * length (later_jumps a.width a.ps.now) ≤ length c.put_one-at.new.dst)
    × (a.e.second + a.width * length a.ps.now ≤ length c.put_one-at.new.dst)
rooms c =
    let a = c.args in
    rw (length-one c) (batch_room a.width a.e a.ps.now c.if-ps-eq0.false c.put_one-at.ensures.0 (length a.dst.now) c.requires.3)

count : (c : After-put_one-at) → c.take_all-end.result.first ≡ c.put_one-at.result.first + 4 * length (later_jumps c.args.width c.args.ps.now)
count c = batch_count c.args.width c.args.e c.args.ps.now c.if-ps-eq0.false c.put_one-at.ensures.0 c.take_all-end.ensures

pub overflow_sub-end : goal.overflow_sub-end
overflow_sub-end c = let n = count (goal.at.overflow_sub-end c).After-put_one-at in search rules

pub put_jumps-requires : goal.put_jumps-requires
put_jumps-requires c =
    let a = c.args in
    let n = count (goal.at.put_jumps-requires c).After-put_one-at in
    let r = (rooms (goal.at.put_jumps-requires c).After-put_one-at).0 in
    (along-rising a.e a.ps.now c.requires.2, omega arith, omega arith, c.requires.0, c.requires.1)

-- after the jumps
length-jumps : (c : After-put_jumps) → length c.put_jumps.new.dst ≡ length c.put_one-at.new.dst
length-jumps c = ap length c.put_jumps.ensures ∙ length-put _ _ _

pub put_differences-requires : goal.put_differences-requires
put_differences-requires c =
    let a = c.args in
    (along-rising a.e a.ps.now c.requires.2, rw (length-jumps (goal.at.put_differences-requires c).After-put_jumps) (rooms (goal.at.put_differences-requires c).After-put_one-at).1, c.requires.0, c.requires.1)

pub returns : goal.returns
returns c =
    let a = c.args in
    let x = bytes_of 4 (later_jumps a.width a.ps.now) in
    let y = bytes_of a.width (later_differences a.width a.ps.now) in (
      c.take_all-end.ensures,
      c.put_differences.ensures
          ∙ ap (λ (l : List ℕ). put l (a.e.second + a.width * 1) y)
          (c.put_jumps.ensures ∙ ap (λ (l : List ℕ). put l c.put_one-at.result.first x) c.put_one-at.ensures.1)
          ∙ batch_put a.width a.e a.ps.now c.if-ps-eq0.false c.put_one-at.ensures.0 (length a.dst.now) a.dst.now c.requires.3,
    )
