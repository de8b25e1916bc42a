-- The sum of all pairs, level by level. Assumes nothing.
use Prim.Native.Nat.{ℕ, zero, suc, ◌+◌, ◌-◌, ◌≤◌, ◌<◌}
use mathlib.Core.Path.{◌≡◌, refl, ap, ◌∙◌}
use mathlib.Core.List.{List, [], ◌∷◌}
use native.Mathlib.Omega.{arith}
use Rattle.format.specs.Tools.{Below}
use Rattle.format.specs.Runs.{Span, runs, spans}
use Rattle.format.specs.PagedRuns.{none, plus, sums_from, level, lasts_from, lasts, flat_spans}
use Rattle.laws.proofs.Levels.{plus_assoc}
use Rattle.laws.proofs.Stored.{Rising}
use Rattle.parts.proofs.RunWalk.{Fit, all_fit}
use Rattle.levels.specs.LevelZero.{pair_sum}

-- the last entries of the pages have the sum of all pairs
last-sums : (b k : ℕ) (a : Span) (xs : List Span) → pair_sum (lasts_from b k a (sums_from b k a xs)) ≡ plus a (pair_sum xs)
unfolding lasts_from sums_from pair_sum
last-sums b k a [] = refl
last-sums b zero a (x ∷ xs) = ap (plus a) (last-sums b (b - 1) x xs)
last-sums b (suc k) a (x ∷ xs) = last-sums b k (plus a x) xs ∙ plus_assoc a x (pair_sum xs)

pub level-sum : (b : ℕ) (xs : List Span) → pair_sum (lasts b (level b xs)) ≡ pair_sum xs
unfolding lasts level sums_from
level-sum b [] = refl
level-sum b (x ∷ xs) = last-sums b (b - 1) x xs ∙ unfold pair_sum in refl

-- no entry of a level exceeds it
sums-small : (b k M : ℕ) (a : Span) (xs : List Span) → a.cells + (pair_sum xs).cells < M → a.empty + (pair_sum xs).empty < M
    → Below M (flat_spans (sums_from b k a xs))
unfolding sums_from flat_spans pair_sum
sums-small b k M a [] h g = tt
sums-small b zero M a (x ∷ xs) h g = (omega arith, (omega arith, sums-small b (b - 1) M x xs (omega arith) (omega arith)))
sums-small b (suc k) M a (x ∷ xs) h g = (omega arith, (omega arith, sums-small b k M (plus a x) xs (omega arith) (omega arith)))

pub level-small : (b M : ℕ) (xs : List Span) → (pair_sum xs).cells < M → (pair_sum xs).empty < M → Below M (flat_spans (level b xs))
unfolding level
level-small b M xs h g = sums-small b 0 M none xs (omega arith) (omega arith)

-- the pairs of the runs of positions below B
fit_sum : (B e : ℕ) (xs : List Span) → e ≤ B → Fit B e xs → (e + (pair_sum xs).cells ≤ B) × ((pair_sum xs).empty ≤ (pair_sum xs).cells)
unfolding pair_sum
fit_sum B e [] h f = (omega arith, omega arith)
fit_sum B e (x ∷ xs) h f =
    let f0 = f.0 in
    let i = fit_sum B (e + x.cells) xs f.1 f.2 in
    let i0 = i.0 in
    let i1 = i.1 in
    (omega arith, omega arith)

pub runs-sum : (B : ℕ) (ls : List ℕ) → Rising 0 B ls → ((pair_sum (spans (runs ls))).cells ≤ B) × ((pair_sum (spans (runs ls))).empty ≤ B)
runs-sum B ls r =
    let s = fit_sum B 0 (spans (runs ls)) (omega arith) (all_fit B ls r) in
    let s0 = s.0 in
    let s1 = s.1 in
    (omega arith, omega arith)
