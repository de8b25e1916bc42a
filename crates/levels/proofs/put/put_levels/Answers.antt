use Prim.Native.Nat.{◌-◌, ◌*◌}
use mathlib.Core.Path.{refl, sym, ◌∙◌}
use native.Mathlib.Omega.{arith}
use Rattle.format.specs.Tools.{up_to}
use Rattle.levels.proofs.Climbing.{climbing_end, room-least, size_less, at-ends, level_up, whole_up}
use Rattle.levels.proofs.put.put_levels.Goals as goal

pub loop-under-init : goal.loop-under-init
loop-under-init c = (c.requires, refl)

pub overflow_mul-at : goal.overflow_mul-at
overflow_mul-at c =
    let a = c.args in
    let l = c.loop-under in
    let m = l.invariant.0.stands.most in
    let t = c.loop-under-test.true in
    omega (arith, size_less l.dst a.start a.step l.under l.below l.invariant.0 t)

pub overflow_sub-at : goal.overflow_sub-at
overflow_sub-at c =
    let a = c.args in
    let l = c.loop-under in
    let t = c.loop-under-test.true in
    room-least l.dst a.start a.step l.under l.below l.invariant.0 t

pub put_level-requires : goal.put_level-requires
put_level-requires c =
    let a = c.args in
    let l = c.loop-under in
    let t = c.loop-under-test.true in
    (l.invariant.0.stands, at-ends l.dst a.start a.step l.under l.below l.invariant.0 t (l.below - 8 * up_to l.under a.step) refl)

pub loop-under-smaller : goal.loop-under-smaller
loop-under-smaller c =
    let a = c.args in
    let l = c.loop-under in
    let t = c.loop-under-test.true in
    size_less l.dst a.start a.step l.under l.below l.invariant.0 t

pub loop-under-preserved : goal.loop-under-preserved
loop-under-preserved c =
    let a = c.args in
    let l = c.loop-under in
    let t = c.loop-under-test.true in
    let at = l.below - 8 * up_to l.under a.step in
    rw c.put_level.ensures (
      level_up l.dst a.start a.step l.under l.below l.invariant.0 t at refl,
      whole_up l.dst a.start a.step l.under l.below l.invariant.0 t at refl ∙ l.invariant.1,
    )

pub returns : goal.returns
returns c =
    let a = c.args in
    let l = c.loop-under in
    let t = c.loop-under-test.false in
    sym (climbing_end l.dst a.start a.step l.under l.below t) ∙ l.invariant.1
