-- How large the entries of the levels are: no sum exceeds that of all pairs. Assumes nothing.
use Prim.Native.Nat.{ℕ, zero, suc, ◌+◌, ◌-◌, ◌≤◌, ◌<◌}
use mathlib.Core.Path.{◌≡◌, refl, ap, ◌∙◌}
use mathlib.Core.List.{List, [], ◌∷◌}
use native.Mathlib.Omega.{arith}
use lib.ListN.{length}
use lib.Dec.{leb}
use Rattle.format.specs.Tools.{Below}
use Rattle.format.specs.Runs.{Run, Span, runs, spans_from, spans, flat_runs}
use Rattle.format.specs.PagedRuns.{plus, none, sums_from, level, lasts_from, lasts, levels_above, upper_levels, flat_spans}
use Rattle.laws.proofs.Tools.{cases}
use Rattle.laws.proofs.Bytes.{below-append}
use Rattle.laws.proofs.Bounds.{below-runs}
use Rattle.laws.proofs.Stored.{Rising}
use Rattle.laws.proofs.Search.{Proper}
use Rattle.laws.proofs.Ranks.{InOrder, in_order, proper_spans}
use Rattle.levels.proofs.LevelBytes.{flat_append}

-- all cells, and all empty cells, of a list of pairs
unfoldable pub cells_of : List Span → ℕ
cells_of [] = 0
cells_of (x ∷ xs) = x.cells + cells_of xs

unfoldable pub empty_of : List Span → ℕ
empty_of [] = 0
empty_of (x ∷ xs) = x.empty + empty_of xs

-- ---- a level, and the last entries of its pages

sums-below : (b k M : ℕ) (a : Span) (xs : List Span) → a.cells + cells_of xs < M → a.empty + empty_of xs < M → Below M (flat_spans (sums_from b k a xs))
unfolding sums_from flat_spans cells_of empty_of
sums-below b k M a [] h g = tt
sums-below b zero M a (x ∷ xs) h g = (omega arith, (omega arith, sums-below b (b - 1) M x xs (omega arith) (omega arith)))
sums-below b (suc k) M a (x ∷ xs) h g = (omega arith, (omega arith, sums-below b k M (plus a x) xs (omega arith) (omega arith)))

lasts-cells : (b k : ℕ) (a : Span) (xs : List Span) → cells_of (lasts_from b k a (sums_from b k a xs)) ≡ a.cells + cells_of xs
unfolding lasts_from sums_from cells_of
lasts-cells b k a [] = refl
lasts-cells b zero a (x ∷ xs) = ap (λ (n : ℕ). a.cells + n) (lasts-cells b (b - 1) x xs)
lasts-cells b (suc k) a (x ∷ xs) = let i = lasts-cells b k (plus a x) xs in omega arith

lasts-empty : (b k : ℕ) (a : Span) (xs : List Span) → empty_of (lasts_from b k a (sums_from b k a xs)) ≡ a.empty + empty_of xs
unfolding lasts_from sums_from empty_of
lasts-empty b k a [] = refl
lasts-empty b zero a (x ∷ xs) = ap (λ (n : ℕ). a.empty + n) (lasts-empty b (b - 1) x xs)
lasts-empty b (suc k) a (x ∷ xs) = let i = lasts-empty b k (plus a x) xs in omega arith

pub level-cells : (b : ℕ) (xs : List Span) → cells_of (lasts b (level b xs)) ≡ cells_of xs
unfolding lasts level sums_from
level-cells b [] = refl
level-cells b (x ∷ xs) = lasts-cells b (b - 1) x xs ∙ unfold cells_of in refl

level-empty : (b : ℕ) (xs : List Span) → empty_of (lasts b (level b xs)) ≡ empty_of xs
unfolding lasts level sums_from
level-empty b [] = refl
level-empty b (x ∷ xs) = lasts-empty b (b - 1) x xs ∙ unfold empty_of in refl

pub level-below : (b M : ℕ) (xs : List Span) → cells_of xs < M → empty_of xs < M → Below M (flat_spans (level b xs))
unfolding level
level-below b M xs h g = sums-below b 0 M none xs (omega arith) (omega arith)

above-below : (n b M : ℕ) (xs : List Span) → cells_of xs < M → empty_of xs < M → Below M (flat_spans (levels_above n b (level b xs)))
unfolding levels_above
above-below zero b M xs h g = unfold flat_spans in tt
above-below (suc n) b M xs h g =
    let c = level-cells b xs in
    let e = level-empty b xs in
    let up = lasts b (level b xs) in
    let all = above-below n b M up (omega arith) (omega arith) in
    cases (leb (length (level b xs)) b)
    (λ t. rw t (unfold flat_spans in tt))
    (λ t.
    rw (t, flat_append (levels_above n b (level b up)) (level b up))
    (below-append M (flat_spans (levels_above n b (level b up))) (flat_spans (level b up)) all (level-below b M up (omega arith) (omega arith))))

pub upper_below : (b M : ℕ) (xs : List Span) → cells_of xs < M → empty_of xs < M → Below M (flat_spans (upper_levels b (level b xs)))
unfolding upper_levels
upper_below b M xs h g = above-below (length (level b xs)) b M xs h g

-- ---- the pairs of runs of positions below B

runs-cells : (e v B : ℕ) (rs : List Run) → InOrder e v rs → Below B (flat_runs rs) → e ≤ B → e + cells_of (spans_from e v rs) ≤ B
unfolding spans_from cells_of flat_runs
runs-cells e v B [] o s h = omega arith
runs-cells e v B (x ∷ rs) o s h =
    let o0 = o.0 in
    let o1 = o.1 in
    let s0 = s.0 in
    let i = runs-cells (suc x.last) x.empty B rs o.2 s.1.1 (omega arith) in
    omega arith

pub proper_empty : (xs : List Span) → Proper xs → empty_of xs ≤ cells_of xs
unfolding cells_of empty_of
proper_empty [] o = omega arith
proper_empty (x ∷ xs) o = let o0 = o.0 in let i = proper_empty xs o.1 in omega arith

pub proper_runs : (B : ℕ) (ls : List ℕ) → Rising 0 B ls → Proper (spans (runs ls))
unfolding spans
proper_runs B ls r = proper_spans 0 0 (runs ls) (in_order 0 B ls r)

pub cells-runs : (B : ℕ) (ls : List ℕ) → Rising 0 B ls → cells_of (spans (runs ls)) ≤ B
unfolding spans
cells-runs B ls r = let i = runs-cells 0 0 B (runs ls) (in_order 0 B ls r) (below-runs 0 B ls r) (omega arith) in omega arith

pub empty_runs : (B : ℕ) (ls : List ℕ) → Rising 0 B ls → empty_of (spans (runs ls)) ≤ B
empty_runs B ls r = omega (arith, proper_empty (spans (runs ls)) (proper_runs B ls r), cells-runs B ls r)
