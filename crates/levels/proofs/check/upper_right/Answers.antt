-- `upper_right` meets its contract. The loop's invariant is `Climbing`; each level is smaller than the one below. Assumes nothing.
use mathlib.Core.Path.{refl, sym, ◌∙◌}
use native.Mathlib.Omega.{arith}
use Rattle.laws.proofs.Bounds.{up_to_half}
use Rattle.levels.specs.Levels.{entries}
use Rattle.levels.proofs.Reading.{length-entries}
use Rattle.levels.proofs.Above.{climbing_on, start_of_above, upper_none, upper_wrong, upper_whole}
use Rattle.levels.proofs.check.upper_right.Goals as goal

pub loop-under-init : goal.loop-under-init
loop-under-init c =
    let p = c.requires in
    record { whole = refl; count = p.firsts; most = p.seconds; long = omega arith }

pub overflow_sub-first : goal.overflow_sub-first
overflow_sub-first c =
    let a = c.args in
    let p = c.requires in
    let i = c.loop-under.invariant in
    let l = i.long in
    let m = p.long in
    let n = length-entries a.v.start a.file.now in
    let t = c.loop-under-test.true in
    omega (
      arith,
      start_of_above a.v.step (entries a.v.start a.file.now) c.loop-under.below c.loop-under.under p.low i.count
          (omega arith) t,
    )

pub level_right-requires : goal.level_right-requires
level_right-requires c =
    let a = c.args in
    let p = c.requires in
    let i = c.loop-under.invariant in
    let l = i.long in
    let m = p.long in
    let n = length-entries a.v.start a.file.now in
    let t = c.loop-under-test.true in
    let s = start_of_above a.v.step (entries a.v.start a.file.now) c.loop-under.below c.loop-under.under p.low i.count (omega arith) t in
    record { low = p.low; high = p.high; size_of = refl; most = i.most; long = omega arith; long-below = omega arith }

pub returns-then-not-level_right : goal.returns-then-not-level_right
returns-then-not-level_right c =
    let a = c.args in
    let p = c.requires in
    let o = c.loop-under in
    let i = o.invariant in
    let l = i.long in
    let m = p.long in
    let n = length-entries a.v.start a.file.now in
    let t = c.loop-under-test.true in
    let f = c.if-not-level_right.true in
    let q = sym c.level_right.ensures ∙ f in
    sym (upper_wrong a.v.step (entries a.v.start a.file.now) o.below o.under p.low i.count (omega arith) t q)
    ∙ i.whole
    ∙ upper_whole a.v.step (entries a.v.start a.file.now) a.v.firsts a.v.seconds

pub loop-under-smaller : goal.loop-under-smaller
loop-under-smaller c =
    let l = c.requires.low in
    let t = c.loop-under-test.true in
    omega (arith, up_to_half c.loop-under.under c.args.v.step l)

pub loop-under-preserved : goal.loop-under-preserved
loop-under-preserved c =
    let a = c.args in
    let p = c.requires in
    let o = c.loop-under in
    let m = p.long in
    let n = length-entries a.v.start a.file.now in
    let t = c.loop-under-test.true in
    let f = c.if-not-level_right.false in
    let q = sym c.level_right.ensures ∙ f in
    climbing_on (entries a.v.start a.file.now) a.v.step a.v.firsts a.v.seconds o.below o.under p.low (omega arith) o.invariant t q

pub returns : goal.returns
returns c =
    let a = c.args in
    let p = c.requires in
    let i = c.loop-under.invariant in
    let l = i.long in
    let m = p.long in
    let n = length-entries a.v.start a.file.now in
    let t = c.loop-under-test.false in
    sym (upper_none a.v.step (entries a.v.start a.file.now) c.loop-under.below c.loop-under.under p.low i.count (omega arith) t)
    ∙ i.whole ∙ upper_whole a.v.step (entries a.v.start a.file.now) a.v.firsts a.v.seconds
