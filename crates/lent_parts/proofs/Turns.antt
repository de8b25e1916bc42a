-- Two lists compared: by the library's equality, in parts, and as numbers by their bytes. Assumes nothing.
use Prim.Native.Nat.{ℕ, zero, suc, ◌+◌, ◌*◌, ◌≤◌, ◌<◌}
use mathlib.Core.Path.{◌≡◌, refl, sym, ap, ap₂, ◌∙◌}
use mathlib.Core.Bool.{Bool, true, false, not}
use mathlib.Core.List.{List, [], ◌∷◌}
use native.Mathlib.Nat.{mul-zero, mul-suc}
use native.Mathlib.Omega.{arith}
use lib.ListN.{length, get_or, take, drop, drop_of_length-le, length-drop}
use lib.Seq.{drop-drop}
use lib.Dec.{eqb}
use lib.Pointwise.{pointwise}
use borrow.Author.Tests.{eqb-true, eqb-false, eq-eqb, ne_eqb}
use Rattle.std.proofs.lemmas.List.{take-take, drop-take}
use Rattle.format.specs.Tools.{both, same, Below}
use Rattle.format.specs.Bytes.{number, numbers_of}
use Rattle.laws.proofs.Tools.{cases, and_both}
use Rattle.laws.proofs.Bytes.{below-drop}

-- the library's equality of slices
pub pointwise_same : (xs ys : List ℕ) → pointwise eqb xs ys ≡ same xs ys
pointwise_same [] [] = refl
pointwise_same [] (y ∷ ys) = refl
pointwise_same (x ∷ xs) [] = refl
pointwise_same (x ∷ xs) (y ∷ ys) = and_both (eqb x y) (pointwise eqb xs ys) ∙ ap (both (eqb x y)) (pointwise_same xs ys)

-- past the end of both
pub elements_over : (xs ys : List ℕ) (i : ℕ) → length xs ≡ length ys → length xs ≤ i → true ≡ same (drop i xs) (drop i ys)
elements_over xs ys i as_long h = rw (drop_of_length-le xs {i = i} h, drop_of_length-le ys {i = i} (omega arith))

-- ---- a batch of n, then the others

pub same-cut : (n : ℕ) (xs ys : List ℕ) → same xs ys ≡ both (same (take n xs) (take n ys)) (same (drop n xs) (drop n ys))
same-cut zero xs ys = refl
same-cut (suc n) [] [] = refl
same-cut (suc n) [] (y ∷ ys) = refl
same-cut (suc n) (x ∷ xs) [] = refl
same-cut (suc n) (x ∷ xs) (y ∷ ys) = cases (eqb x y) (λ e. rw e (same-cut n xs ys)) (λ e. rw e)

flipped : (q p : Bool) → q ≡ not p → not q ≡ p
flipped q true e = ap not e
flipped q false e = ap not e

-- q says whether the batches xs and ys, of n from r on, differ
module _ (ps qs : List ℕ) (r n : ℕ) (q : Bool) (xs ys : List ℕ) (here : xs ≡ take n (drop r ps)) (there : ys ≡ take n (drop r qs)) (e : q ≡ not (pointwise eqb xs ys)) where
  batch_first : both (not q) (same (drop (r + n) ps) (drop (r + n) qs)) ≡ same (drop r ps) (drop r qs)
  batch_first =
      let z : not q ≡ same xs ys = flipped q (pointwise eqb xs ys) e ∙ pointwise_same xs ys in
      rw (z, here, there, ← drop-drop n r ps, ← drop-drop n r qs) (sym (same-cut n (drop r ps) (drop r qs)))

  pub batch_differs : q ≡ true → false ≡ same (drop r ps) (drop r qs)
  batch_differs z = rw z at batch_first

  pub batch_agrees : q ≡ false → same (drop (r + n) ps) (drop (r + n) qs) ≡ same (drop r ps) (drop r qs)
  batch_agrees z = rw z at batch_first

-- ---- n numbers of w bytes: their bytes are the same

pub below_all : (m : ℕ) (xs : List ℕ) → ((i : ℕ) → get_or xs i 0 < m) → Below m xs
below_all m [] h = tt
below_all m (x ∷ xs) h = (h 0, below_all m xs (λ i. h (suc i)))

number_same : (w : ℕ) (xs ys : List ℕ) → w ≤ length xs → w ≤ length ys → Below 256 xs → Below 256 ys
    → same (take w xs) (take w ys) ≡ eqb (number (take w xs)) (number (take w ys))
unfolding number
number_same zero xs ys l k h g = refl
number_same (suc w) [] ys l k h g = absurd (omega arith)
number_same (suc w) (x ∷ xs) [] l k h g = absurd (omega arith)
number_same (suc w) (x ∷ xs) (y ∷ ys) l k h g =
    let i : same (take w xs) (take w ys) ≡ eqb (number (take w xs)) (number (take w ys)) = number_same w xs ys (omega arith) (omega arith) h.1 g.1 in
    let s = h.0 in
    let t = g.0 in
    ap (both (eqb x y)) i
    ∙ cases (eqb x y)
    (λ e.
    let d = eqb-true x y e in
    cases (eqb (number (take w xs)) (number (take w ys)))
    (λ f. let u = eqb-true (number (take w xs)) (number (take w ys)) f in rw (e, f) (sym (eq-eqb (x + 256 * number (take w xs)) (y + 256 * number (take w ys)) (omega arith))))
    (λ f. let u = eqb-false (number (take w xs)) (number (take w ys)) f in rw (e, f) (sym (ne_eqb (x + 256 * number (take w xs)) (y + 256 * number (take w ys)) (λ z. u (omega arith))))))
    (λ e. let d = eqb-false x y e in rw e (sym (ne_eqb (x + 256 * number (take w xs)) (y + 256 * number (take w ys)) (λ z. d (omega arith)))))

pub numbers_same : (w n : ℕ) (xs ys : List ℕ) → w * n ≤ length xs → w * n ≤ length ys → Below 256 xs → Below 256 ys
    → same (take (w * n) xs) (take (w * n) ys) ≡ same (numbers_of w n xs) (numbers_of w n ys)
unfolding numbers_of
numbers_same w zero xs ys l k h g = rw mul-zero
numbers_same w (suc n) xs ys l k h g =
    let e : w * suc n ≡ w + w * n = rw mul-suc (omega arith) in
    rw (e, same-cut w (take (w + w * n) xs) (take (w + w * n) ys), take-take w (w + w * n) xs (omega arith), take-take w (w + w * n) ys (omega arith), drop-take w (w * n) xs, drop-take w (w * n) ys)
    (ap₂ both (number_same w xs ys (omega arith) (omega arith) h g)
    (numbers_same w n (drop w xs) (drop w ys) (omega (arith, length-drop w xs)) (omega (arith, length-drop w ys)) (below-drop 256 w xs h) (below-drop 256 w ys g)))

abbrev pub agree : List ℕ → List ℕ → ℕ → ℕ → ℕ → Bool
agree b₁ b₂ i j n = same (numbers_of 4 n (drop i b₁)) (numbers_of 4 n (drop j b₂))

-- 4 * n bytes from i and from j on
pub bytes_agree : (b₁ b₂ : List ℕ) (i j n : ℕ) → i + 4 * n ≤ length b₁ → j + 4 * n ≤ length b₂ → Below 256 b₁ → Below 256 b₂
    → pointwise eqb (take (4 * n) (drop i b₁)) (take (4 * n) (drop j b₂)) ≡ agree b₁ b₂ i j n
bytes_agree b₁ b₂ i j n l k h g =
    pointwise_same (take (4 * n) (drop i b₁)) (take (4 * n) (drop j b₂))
    ∙ numbers_same 4 n (drop i b₁) (drop j b₂) (omega (arith, length-drop i b₁)) (omega (arith, length-drop j b₂)) (below-drop 256 i b₁ h) (below-drop 256 j b₂ g)
