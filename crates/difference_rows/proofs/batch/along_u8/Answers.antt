-- All ranks, in blocks. Assumes nothing.
use Rattle.std.proofs.Common.{◌≡◌, ◌+◌, ◌-◌, length, length-take, length-drop, arith}
use native.Mathlib.Nat.{sub-zero}
use Rattle.difference_rows.specs.Steps.{next_at}
use Rattle.difference_rows.proofs.Filled.{going_begin, going_more, fill_last, filled_part}
use Rattle.difference_rows.proofs.batch.along_u8.Goals as goal

pub loop-i-init : goal.loop-i-init
loop-i-init c =
    let a = c.args in
    (omega arith, rw (sub-zero (length a.out.now)) (going_begin 1 a.start a.second a.file.now a.c 0 (length a.out.now) a.out.now c.requires))

pub loop-i-preserved : goal.loop-i-preserved
loop-i-preserved c =
    let a = c.args in
    let l = c.loop-i in
    let n = length a.out.now in
    let h = c.loop-i-test.true in
    let e : n - l.i ≡ 16 + (n - (l.i + 16)) = omega arith in
    let z = filled_part (next_at 1 a.start a.second a.file.now) l.c l.i _ 16 l.out (omega arith) (omega arith) (omega arith) c.block_u8-c.ensures in
    (omega arith, going_more 1 a.start a.second a.file.now a.c 0 n a.out.now l.c l.i _ l.out l.invariant.1 16 _ e z)

pub returns : goal.returns
returns c =
    let a = c.args in
    let l = c.loop-i in
    let n = length a.out.now in
    let f = next_at 1 a.start a.second a.file.now in
    let i = l.invariant.0 in
    let k : length l.out - l.i ≡ n - l.i = omega arith in
    fill_last f a.c 0 n a.out.now l.c l.i _ l.out l.invariant.1.left
    (filled_part f l.c l.i _ (n - l.i) l.out k (omega arith) (simp (length-take, length-drop) (omega arith)) c.each_u8.ensures)
