use Prim.Native.Nat.{ℕ, ◌+◌, ◌-◌, ◌*◌, min}
use mathlib.Core.Path.{◌≡◌, ap, ◌∙◌}
use native.Mathlib.Omega.{arith}
use Rattle.format.specs.Runs.{Span}
use Rattle.levels.specs.Levels.{span_of}
use Rattle.levels.specs.LevelZero.{span_at, summed}
use Rattle.levels.proofs.Filling.{filling_first, filling_end, cells_fit, empty_fit, filling_next}
use Rattle.levels.proofs.put.put_level.Goals.{After-get_pair}
use Rattle.levels.proofs.put.put_level.Goals as goal

pub loop-rest-init : goal.loop-rest-init
loop-rest-init c =
    let a = c.args in
    let p = c.requires in
    filling_first a.dst.now a.step a.start a.below a.under p.0 p.1

-- the last entry of the page
page-last : (c : After-get_pair) → let l = c.loop-rest in
    span_of c.get_pair.result
    ≡ span_at l.dst (l.from + 8 * min c.args.step l.rest - 8)
page-last c =
    let l = c.loop-rest in
    ap span_of c.get_pair.ensures.0 ∙ ap (λ (n : ℕ). span_at l.dst (l.from + 8 * n - 8)) c.min-size.ensures

pub add-s-requires : goal.add-s-requires
add-s-requires c =
    let a = c.args in
    let p = c.requires in
    let l = c.loop-rest in
    let t = c.loop-rest-test.true in
    let h = p.0.step-least in
    let x : c.get_pair.result.first ≡ _ = ap (λ (y : Span). y.cells) (page-last c) in
    let y : c.get_pair.result.second ≡ _ = ap (λ (y : Span). y.empty) (page-last c) in
    let u = cells_fit a.dst.now a.step a.start a.below a.under l.dst l.s l.at l.from l.rest l.invariant (omega arith) t in
    let v = empty_fit a.dst.now a.step a.start a.below a.under l.dst l.s l.at l.from l.rest l.invariant (omega arith) t in
    (omega arith, rw x u, rw y v)

pub loop-rest-preserved : goal.loop-rest-preserved
loop-rest-preserved c =
    let a = c.args in
    let l = c.loop-rest in
    let t = c.loop-rest-test.true in
    let h = c.requires.0.step-least in
    let q = c.add-s.ensures ∙ ap (summed a.step l.s) (page-last (goal.at.loop-rest-preserved c).After-get_pair) in
    rw (c.put_pair.ensures, c.min-size.ensures)
    (filling_next a.dst.now a.step a.start a.below a.under l.dst l.s l.at l.from l.rest l.invariant (omega arith) t _ q)

pub returns : goal.returns
returns c =
    let a = c.args in
    let l = c.loop-rest in
    let z = c.loop-rest-test.false in
    let h = c.requires.0.step-least in
    filling_end a.dst.now a.step a.start a.below a.under l.dst l.s l.at l.from l.rest l.invariant (omega arith) (omega arith)
