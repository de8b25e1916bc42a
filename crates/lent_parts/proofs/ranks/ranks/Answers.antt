use Prim.Native.Nat.{◌≤◌}
use mathlib.Core.Path.{refl, ◌∙◌}
use native.Mathlib.Omega.{arith}
use lib.ListN.{length}
use Rattle.std.proofs.lemmas.Result.{IfOk-at_ok}
use Rattle.parts.specs.Holds.{ViewOf}
use Rattle.laws.proofs.Refusals.{accepted_at, no_ok}
use Rattle.lent_parts.proofs.Range.{Ranged, ranged, no_part, part_given}
use Rattle.lent_parts.proofs.ranks.ranks.Goals.{In-Ok, After-word_at-to}
use Rattle.lent_parts.proofs.ranks.ranks.Goals as goal

pub returns-in_default : goal.returns-in_default
returns-in_default c =
    let a = c.args in
    no_part a.file a.a.0 a.c.0 _ _ c.check_ranks.ensures.0 (no_ok c.check_ranks.result c.in_default.not-Ok) refl

-- the range lies in the file
inside : (c : In-Ok) → Ranged c.args.file.now c.in-Ok.v c.args.a.0 c.args.c.0
inside c =
    let a = c.args in
    ranged a.file.now _ (IfOk-at_ok (ViewOf a.file.now) c.in-Ok.is c.check_ranks.ensures.1) a.a.0 a.c.0 (accepted_at _ _ c.check_ranks.ensures.0 _ c.in-Ok.is)

-- the words of the range are there
ends : (c : After-word_at-to) → (c.word_at-from.result ≤ c.word_at-to.result) × (c.word_at-to.result ≤ length c.args.file.now)
ends c =
    let a = c.args in
    let o = ranged a.file.now _ (IfOk-at_ok (ViewOf a.file.now) c.in-Ok.is c.check_ranks.ensures.1) a.a.0 a.c.0 (accepted_at _ _ c.check_ranks.ensures.0 _ c.in-Ok.is) in
    let h = o.order in
    let e = c.word_at-from.ensures in
    let f = c.word_at-to.ensures in
    (omega arith, rw f o.inside)

pub slice_bounds-result-count-2 : goal.slice_bounds-result-count-2
slice_bounds-result-count-2 c = let t = ends c in omega arith

pub slice_bounds-result-start-2 : goal.slice_bounds-result-start-2
slice_bounds-result-start-2 c = let t = ends c in omega arith

pub slice_bounds-result-end-2 : goal.slice_bounds-result-end-2
slice_bounds-result-end-2 c = let t = ends c in omega arith

pub returns : goal.returns
returns c =
    let a = c.args in
    let n = c.check_ranks.ensures.0 in
    part_given a.file a.a.0 a.c.0 _ _ n _ _ _ (inside (goal.at.returns c).In-Ok) (n ∙ accepted_at _ _ n _ c.in-Ok.is) c.word_at-from.ensures c.word_at-to.ensures refl refl
