-- `level_right` meets its contract. The invariant: what is left to compare gives the whole. Assumes nothing.
use Prim.Native.Nat.{ℕ, suc, ◌+◌, ◌-◌, ◌*◌, ◌≤◌, min}
use mathlib.Core.Path.{◌≡◌, sym, ap, ◌∙◌}
use native.Mathlib.Numerals.{add-one}
use native.Mathlib.Omega.{arith}
use lib.ListN.{get_or}
use Rattle.format.specs.PagedRuns.{none}
use Rattle.levels.specs.Levels.{entries, span_of}
use Rattle.levels.proofs.Reading.{length-entries}
use Rattle.levels.proofs.Above.{page-ends, end-some, rest_turn, rest_first, rest_none, first-end}
use Rattle.levels.proofs.check.level_right.Goals.{After-min-end}
use Rattle.levels.proofs.check.level_right.Goals as goal

-- `level_right` meets its contract. The invariant: what is left to compare gives the whole. Assumes nothing.
abbrev below_last : ℕ → ℕ → ℕ
below_last below end = below + end - 1

pub loop-i-init : goal.loop-i-init
loop-i-init c =
    let a = c.args in
    let p = c.requires in
    let n = length-entries a.start a.file.now in (
      rest_first a.step (entries a.start a.file.now) a.first a.size a.below a.under p.low p.size_of (omega (arith, p.long))
          (omega (arith, p.long-below)) _,
      first-end a.step a.under,
    )

pub overflow_add-end : goal.overflow_add-end
overflow_add-end c = omega (arith, c.requires.most, c.loop-i.invariant.1)

-- the end of the page below
page-end : (c : After-min-end)
    → c.min-end.result ≡ min (suc c.loop-i.i * c.args.step)
    c.args.under
page-end c =
    let a = c.args in
    let p = c.requires in
    let l = p.low in
    let t = c.loop-i-test.true in
    c.min-end.ensures
    ∙ page-ends a.step a.under c.loop-i.i c.loop-i.end (omega arith) (rw p.size_of at t)
    c.loop-i.invariant.1

page-some : (c : After-min-end)
    → 1 ≤ min (suc c.loop-i.i * c.args.step)
    c.args.under
page-some c =
    let a = c.args in
    let p = c.requires in
    let l = p.low in
    let t = c.loop-i-test.true in
    end-some a.step a.under c.loop-i.i (omega arith) (rw p.size_of at t)

pub overflow_add-first : goal.overflow_add-first
overflow_add-first c = omega (arith, c.requires.long)

pub pair_at-requires : goal.pair_at-requires
pair_at-requires c = omega (arith, c.requires.long)

pub overflow_add-below : goal.overflow_add-below
overflow_add-below c = omega (arith, page-end (goal.at.overflow_add-below c).After-min-end, c.requires.long-below)

pub overflow_sub-below : goal.overflow_sub-below
overflow_sub-below c = omega (arith, page-end (goal.at.overflow_sub-below c).After-min-end, page-some (goal.at.overflow_sub-below c).After-min-end)

pub pair_at-requires-in-loop-i : goal.pair_at-requires-in-loop-i
pair_at-requires-in-loop-i c = omega (arith, page-end (goal.at.pair_at-requires-in-loop-i c).After-min-end, page-some (goal.at.pair_at-requires-in-loop-i c).After-min-end, c.requires.long-below)

pub compare-s-requires : goal.compare-s-requires
compare-s-requires c = let l = c.requires.low in omega arith

pub loop-i-preserved : goal.loop-i-preserved
loop-i-preserved c =
    let o = c.loop-i in
    let a = c.args in
    let p = c.requires in
    let n = length-entries a.start a.file.now in
    let e = page-end (goal.at.loop-i-preserved c).After-min-end in
    let t = c.loop-i-test.true in
    let x = c.pair_at-in-loop-i in
    let f : below_last a.below c.min-end.result ≡ below_last a.below (min (suc o.i * a.step) a.under) = ap (below_last a.below) e in (
      rw c.compare-s.ensures
          (sym (rest_turn a.step (entries a.start a.file.now) a.first a.size a.below a.under p.low p.size_of (omega (arith, p.long))
          (omega (arith, p.long-below))
          o.s o.i c.pair_at.result (span_of x.result) t c.pair_at.ensures.0
          (x.ensures.0 ∙ ap (λ (j : ℕ). get_or (entries a.start a.file.now) j none) f))
          ∙ o.invariant.0),
      e ∙ rw (add-one o.i),
    )

pub returns : goal.returns
returns c =
    let a = c.args in
    let p = c.requires in
    let n = length-entries a.start a.file.now in
    sym (rest_none a.step (entries a.start a.file.now) a.first a.size a.below a.under p.low p.size_of (omega (arith, p.long))
    (omega (arith, p.long-below))
    c.loop-i.s c.loop-i.i c.loop-i-test.false)
    ∙ c.loop-i.invariant.0
