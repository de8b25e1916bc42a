-- What is left to put out gives the whole; as long as a jump is left, a position is left. Assumes nothing.
use Rattle.std.proofs.Common.{◌-◌, ◌<◌, ◌≤◌, length, drop, sym, ◌∙◌, arith, rules}
use Rattle.laws.proofs.Positions.{rising_le}
use Rattle.difference_rows.specs.Later.{later_jumps}
use Rattle.difference_rows.proofs.PutTurns.{jump_left, place-next, jump_next, put-none}
use Rattle.difference_rows.proofs.put.put_jumps.Goals.{In-loop-place}
use Rattle.difference_rows.proofs.put.put_jumps.Goals as goal

-- a jump is left, and with it a position
left : (c : In-loop-place) → 1 ≤ length (later_jumps c.args.width (drop (c.loop-place.i - 1) c.args.ps.now))
left c =
    let e = c.loop-place.invariant.1 in
    let t = c.loop-place-test.true in
    omega arith

index : (c : In-loop-place) → c.loop-place.i < length c.args.ps.now
index c = jump_left c.args.width c.args.ps.now c.loop-place.i (left c)

pub stored_difference-d-requires : goal.stored_difference-d-requires
stored_difference-d-requires c =
    let l = c.loop-place in
    (rising_le 0 16777216 c.args.ps.now (l.i - 1) l.i c.requires.0 (omega arith) (index (goal.at.stored_difference-d-requires c).In-loop-place), c.requires.3, c.requires.4)

-- what is left after the position is put
pub overflow_add-place : goal.overflow_add-place
overflow_add-place c =
    let r = c.requires.2 in
    let l = c.loop-place in
    let e = place-next c.args.width c.args.ps.now l.i l.invariant.0 (left (goal.at.overflow_add-place c).In-loop-place) c.stored_difference-d.ensures c.zero.ensures.0 l.place ∙ l.invariant.1 in
    search rules

pub loop-place-preserved : goal.loop-place-preserved
loop-place-preserved c =
    let a = c.args in
    let l = c.loop-place in
    let o = c.put_u32.ensures in
    let d = c.stored_difference-d.ensures in
    let h = left (goal.at.loop-place-preserved c).In-loop-place in (
      omega arith,
      place-next a.width a.ps.now l.i l.invariant.0 h d c.zero.ensures.0 l.place ∙ l.invariant.1,
      jump_next a.width a.ps.now l.i l.invariant.0 h d c.zero.ensures.0 l.place l.dst o ∙ l.invariant.2,
    )

pub returns : goal.returns
returns c =
    let a = c.args in
    let l = c.loop-place in
    let t = c.loop-place-test.false in
    let e = l.invariant.1 in
    sym (put-none 4 l.dst l.place (later_jumps a.width (drop (l.i - 1) a.ps.now)) (omega arith)) ∙ l.invariant.2
