use Rattle.std.proofs.Common.{length, get_or, refl, ◌∙◌, arith}
use Rattle.laws.proofs.Bytes.{length-bytes}
use Rattle.parts.specs.Ready.{Next, Room}
use Rattle.parts.proofs.Taking.{put_first}
use Rattle.parts.proofs.Taken.{write_begin, write-next, write_turn, write-end}
use Rattle.positions.specs.Coding.{coder}
use Rattle.positions.proofs.Laws.{codes, taken-one}
use Rattle.positions.proofs.coding.put_all.Goals.{In-loop-p}
use Rattle.positions.proofs.coding.put_all.Goals as goal

pub loop-p-init : goal.loop-p-init
loop-p-init c =
    let a = c.args in
    write_begin (coder a.width a.step) a.ps.now a.e a.dst.now c.requires.1 c.requires.2

-- there is room for the next position
next-one : (c : In-loop-p) → let a = c.args in let l = c.loop-p in
    Next l.at (get_or a.ps.now l.p-index 0) × Room (coder a.width a.step) l.at (get_or a.ps.now l.p-index 0) (length l.dst)
next-one c =
    let a = c.args in
    let l = c.loop-p in
    write-next (coder a.width a.step) a.ps.now a.e a.dst.now l.at l.dst l.p-index (omega arith) l.invariant

pub put_u32-requires : goal.put_u32-requires
unfolding coder
put_u32-requires c =
    let r = (next-one (goal.at.put_u32-requires c).In-loop-p).1 in
    let n = length-bytes 4 (get_or c.args.ps.now c.loop-p.p-index 0) in
    omega (arith, r.first)

pub move_on-at-requires : goal.move_on-at-requires
move_on-at-requires c = (next-one (goal.at.move_on-at-requires c).In-loop-p).0

pub loop-p-preserved : goal.loop-p-preserved
unfolding coder
loop-p-preserved c =
    let a = c.args in
    let l = c.loop-p in
    let p = get_or a.ps.now l.p-index 0 in
    let k = coder a.width a.step in
    write_turn k a.ps.now a.e a.dst.now l.at l.dst l.p-index (omega arith) l.invariant (codes a.width a.step c.requires.0).keeps c.move_on-at.result _
    (c.move_on-at.ensures ∙ taken-one a.width a.step l.at p, c.put_u32.ensures ∙ put_first k l.dst l.at p _ refl refl)

pub returns : goal.returns
returns c =
    let a = c.args in
    let l = c.loop-p in
    write-end (coder a.width a.step) a.ps.now a.e a.dst.now l.at l.dst l.p-index (omega arith) l.invariant
