use Rattle.std.proofs.Common.{◌≡◌, ◌<◌, length, refl, ◌∙◌, le_refl, arith, length-set, rules}
use Rattle.parts.proofs.Batches.{batch_start, batch_end}
use Rattle.positions.proofs.Ahead.{ahead_start, ahead_turn, ahead-end}
use Rattle.positions.proofs.steps.along.Goals as goal

pub loop-i-init : goal.loop-i-init
loop-i-init c =
    let a = c.args in
    let h : 0 < length a.out.now = search rules in
    ahead_start a.file.now a.v a.c _ c.requires a.out.now h refl

pub loop-i-preserved : goal.loop-i-preserved
loop-i-preserved c =
    let a = c.args in
    let l = c.loop-i in
    let e : length l.out ≡ length a.out.now = l.auto.out ∙ length-set a.out.now 0 a.c.at in
    ahead_turn a.file.now a.v a.c _ c.requires l.i c.get_u32.result l.out (omega arith) e (rw c.get_u32.ensures.0 l.invariant)

pub returns : goal.returns
returns c =
    let a = c.args in
    let l = c.loop-i in
    let e : length l.out ≡ length a.out.now = l.auto.out ∙ length-set a.out.now 0 a.c.at in
    let n : l.i ≡ length a.out.now = omega arith in
    rw c.get_u32-2.ensures.0
    (ahead-end a.file.now a.v a.c _ c.requires _ l.out (rw e (le_refl _)) e (rw n at l.invariant))

pub returns-then-n-eq0 : goal.returns-then-n-eq0
returns-then-n-eq0 c = batch_end _ _ _ _ _ 0 (search rules) refl (batch_start _ _ _ _)
