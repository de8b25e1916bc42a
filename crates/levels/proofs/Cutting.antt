-- The levels of pairs are those that the sizes cut from the list of all entries. Assumes nothing.
use Prim.Native.Nat.{ℕ, zero, suc, ◌+◌, ◌^◌, ◌≤◌}
use mathlib.Core.Path.{◌≡◌, refl, sym, subst, ap, ap₂, ◌∙◌}
use mathlib.Core.List.{List, [], ◌∷◌, ◌++◌, append_assoc}
use native.Mathlib.Nat.{pow-suc, one-le-pow, zero-lt-suc}
use native.Mathlib.Omega.{arith}
use lib.ListN.{length, take, drop, get_or, length-append}
use lib.Seq.{drop-drop, take_at, drop_at}
use lib.Dec.{leb}
use borrow.Author.Tests.{le-leb}
use Rattle.format.specs.Tools.{up_to}
use Rattle.format.specs.Runs.{Span}
use Rattle.format.specs.PagedRuns.{level, lasts, levels_above, levels}
use Rattle.laws.proofs.Tools.{cases}
use Rattle.laws.proofs.Bounds.{length-level, length-lasts}
use Rattle.levels.specs.Levels.{sizes_above, sizes_of, total, cut}
use Rattle.levels.proofs.LevelSizes.{halved}

-- ---- any bound of the number of levels that is large enough

above_enough : (n m b v : ℕ) → 2 ≤ b → v ≤ 2 ^ suc n → v ≤ 2 ^ suc m → sizes_above n b v ≡ sizes_above m b v
unfolding sizes_above
above_enough zero zero b v h s t = refl
above_enough zero (suc m) b v h s t = let l : v ≤ b = omega arith in rw (le-leb v b l)
above_enough (suc n) zero b v h s t = let l : v ≤ b = omega arith in rw (le-leb v b l)
above_enough (suc n) (suc m) b v h s t = rw (above_enough n m b (up_to v b) h (halved b (suc n) v h s) (halved b (suc m) v h t))

self_small : (n : ℕ) → n ≤ 2 ^ suc n
self_small zero = omega arith
self_small (suc n) = omega (arith, self_small n, pow-suc 2 (suc n), one-le-pow (suc n) 2 (zero-lt-suc 1))

pub sizes_enough : (b v : ℕ) → 2 ≤ b → v ≤ 16777216 → sizes_of b v ≡ v ∷ sizes_above v b v
unfolding sizes_of
sizes_enough b v h s = rw (above_enough 23 v b v h s (self_small v))

-- ---- the cut

-- level 0 is cut last
cut-last : (v : ℕ) (zs : List ℕ) (k : ℕ) (es : List Span) → cut (v ∷ zs) (suc k) es ≡ cut zs k es ++ (take v (drop (total zs k) es) ∷ [])
cut-last v zs zero es = refl
cut-last v zs (suc k) es =
    rw (cut-last v zs k (drop (get_or zs k 0) es), drop-drop (total zs k) (get_or zs k 0) es)

total-last : (v : ℕ) (zs : List ℕ) (k : ℕ) → total (v ∷ zs) (suc k) ≡ total zs k + v
total-last v zs zero = omega arith
total-last v zs (suc k) = let i = total-last v zs k in omega arith

-- the levels over the pairs xs are cut from a list that begins with their entries
pub record Cut (n b : ℕ) (xs : List Span) : Type 0 where
  pub lists : (more : List Span)
      → cut (length xs ∷ sizes_above n b (length xs)) (suc (length (sizes_above n b (length xs)))) (levels_above n b (level b xs) ++ (level b xs ++ more))
      ≡ levels n b xs
  pub sum : total (length xs ∷ sizes_above n b (length xs)) (suc (length (sizes_above n b (length xs)))) ≡ length (levels_above n b (level b xs)) + length xs

one-level : (b : ℕ) (xs more : List Span) → take (length xs) (level b xs ++ more) ≡ level b xs
one-level b xs more = take_at (level b xs) more (length xs) (length-level b xs)

pub cut-levels : (n b : ℕ) (xs : List Span) → 1 ≤ b → Cut n b xs
unfolding sizes_above levels_above levels
cut-levels zero b xs h = record { lists = λ more. rw (one-level b xs more); sum = omega arith }
cut-levels (suc n) b xs h =
    let l = length-level b xs in
    let u : length (lasts b (level b xs)) ≡ up_to (length xs) b = length-lasts b (level b xs) h ∙ rw l in
    let up = lasts b (level b xs) in
    let i = cut-levels n b up h in
    let zs = up_to (length xs) b ∷ sizes_above n b (up_to (length xs) b) in
    let sum : total zs (length zs) ≡ length (levels_above n b (level b up)) + up_to (length xs) b
    = subst (λ (k : ℕ). total (k ∷ sizes_above n b k) (suc (length (sizes_above n b k))) ≡ length (levels_above n b (level b up)) + k) u i.sum in
    let lists : (more : List Span) → cut zs (length zs) (levels_above n b (level b up) ++ (level b up ++ more)) ≡ levels n b up
    = subst (λ (k : ℕ). (more : List Span) → cut (k ∷ sizes_above n b k) (suc (length (sizes_above n b k))) (levels_above n b (level b up) ++ (level b up ++ more)) ≡ levels n b up) u i.lists in
    let size : length (levels_above n b (level b up) ++ level b up) ≡ total zs (length zs)
    = length-append (levels_above n b (level b up)) (level b up) ∙ rw (length-level b up, u) (sym sum) in
    cases (leb (length xs) b)
    (λ e. record { lists = λ more. rw (l, e, one-level b xs more); sum = rw (l, e) (omega arith) })
    (λ e.
    let above : sizes_above (suc n) b (length xs) ≡ zs = rw e in
    let entries : levels_above (suc n) b (level b xs) ≡ levels_above n b (level b up) ++ level b up = rw (l, e) in
    let all : levels (suc n) b xs ≡ levels n b up ++ (level b xs ∷ []) = rw e in
    record {
      lists =
          λ more.
          subst (λ (ks : List ℕ). cut (length xs ∷ ks) (suc (length ks)) (levels_above (suc n) b (level b xs) ++ (level b xs ++ more)) ≡ levels (suc n) b xs) (sym above)
          (subst (λ (es : List Span). cut (length xs ∷ zs) (suc (length zs)) (es ++ (level b xs ++ more)) ≡ levels (suc n) b xs) (sym entries)
          (cut-last (length xs) zs (length zs) ((levels_above n b (level b up) ++ level b up) ++ (level b xs ++ more))
          ∙ ap₂ (λ (x : List (List Span)) (y : List Span). x ++ (y ∷ []))
          (ap (cut zs (length zs)) (append_assoc (levels_above n b (level b up)) (level b up) (level b xs ++ more)) ∙ lists (level b xs ++ more))
          (ap (take (length xs)) (drop_at (levels_above n b (level b up) ++ level b up) (level b xs ++ more) (total zs (length zs)) size)
          ∙ one-level b xs more)
          ∙ sym all));
      sum =
          subst (λ (ks : List ℕ). total (length xs ∷ ks) (suc (length ks)) ≡ length (levels_above (suc n) b (level b xs)) + length xs) (sym above)
          (subst (λ (es : List Span). total (length xs ∷ zs) (suc (length zs)) ≡ length es + length xs) (sym entries)
          (total-last (length xs) zs (length zs) ∙ ap (λ (k : ℕ). k + length xs) (sym size)));
    })
