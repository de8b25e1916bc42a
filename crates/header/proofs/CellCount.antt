-- The counted product is the number of cells of allowed dimensions, and 0 of others. Assumes nothing.
use Prim.Native.Nat.{ℕ, zero, suc, ◌+◌, ◌-◌, ◌*◌, ◌≤◌, ◌<◌}
use mathlib.Core.Path.{◌≡◌, refl, sym, ◌∙◌}
use mathlib.Core.Bool.{Bool, true, false}
use mathlib.Core.List.{List, [], ◌∷◌}
use native.Mathlib.Nat.{le_refl, one-le-mul, mul_assoc, mul-one, mul-zero, zero-mul, le-mul_of_pos_right}
use native.Mathlib.Numerals.{add-one}
use native.Mathlib.Omega.{arith}
use lib.ListN.{length, take, drop, get_or, drop_of_length-le}
use lib.Seq.{drop-cons}
use lib.Dec.{leb, eqb}
use borrow.Author.Tests.{eqb-true, eqb-false, ne_eqb, leb-true, leb-false, le-leb, lt-leb}
use Rattle.format.specs.declared.Dimensions.{Dimensions}
use Rattle.format.specs.Tools.{pick, both, within, every}
use Rattle.format.specs.Picture.{most_dimensions, most_cells, product, cells, dimensions_allowed}
use Rattle.laws.proofs.Tools.{cases, both_true, both_false}
use Rattle.header.specs.CellCount.{extent_allowed, count_from}

-- ---- the whole

-- the extents are allowed, of which the first n are dimensions
abbrev allowed_from : ℕ → List ℕ → Bool
allowed_from n es = both (every (leb 1) (take n es)) (every (eqb 1) (drop n es))

allowed_cons : (n e : ℕ) (es : List ℕ) → allowed_from n (e ∷ es) ≡ both (extent_allowed n e) (allowed_from (n - 1) es)
allowed_cons zero e es = refl
allowed_cons (suc n) e es = let k : suc n - 1 ≡ n = omega arith in rw k (go (leb 1 e))
  where
    go : (t : Bool) → both (both t (every (leb 1) (take n es))) (every (eqb 1) (drop n es)) ≡ both t (allowed_from n es)
    go true = refl
    go false = refl

-- an allowed extent is at least 1
pub extent_least : (n e : ℕ) → extent_allowed n e ≡ true → 1 ≤ e
extent_least zero e h = omega (arith, eqb-true 1 e h)
extent_least (suc n) e h = leb-true 1 e h

product-least : (n : ℕ) (es : List ℕ) → allowed_from n es ≡ true → 1 ≤ product es
unfolding product
product-least n [] h = le_refl 1
product-least n (e ∷ es) h =
    let t = both_true (extent_allowed n e) (allowed_from (n - 1) es) (sym (allowed_cons n e es) ∙ h) in
    one-le-mul (extent_least n e t.0) (product-least (n - 1) es t.1)

pub count_is : (n c : ℕ) (es : List ℕ) → c ≤ most_cells
    → count_from n c es ≡ pick (both (allowed_from n es) (leb (c * product es) most_cells)) (c * product es) 0
unfolding count_from product
count_is zero c [] h = rw (mul-one c, le-leb c most_cells h)
count_is (suc n) c [] h = rw (mul-one c, le-leb c most_cells h)
count_is n c (e ∷ es) h =
    rw (allowed_cons n e es, ← mul_assoc c e (product es))
    (cases (extent_allowed n e)
    (λ a.
    cases (leb (c * e) most_cells)
    (λ l. rw (a, l) (count_is (n - 1) (c * e) es (leb-true (c * e) most_cells l)))
    (λ l. rw (a, l) (cases (allowed_from (n - 1) es) (λ r. past l r) (λ r. rw r))))
    (λ a. rw a))
  where
    past : leb (c * e) most_cells ≡ false → allowed_from (n - 1) es ≡ true
        → 0 ≡ pick (both (allowed_from (n - 1) es) (leb (c * e * product es) most_cells)) (c * e * product es) 0
    past l r =
        let m : c * e ≤ c * e * product es = le-mul_of_pos_right (c * e) (product-least (n - 1) es r) in
        let g : most_cells < c * e * product es = omega (arith, leb-false (c * e) most_cells l) in
        rw (r, lt-leb (c * e * product es) most_cells g)

-- the number of cells of allowed dimensions, else 0
pub count-cells : (d : Dimensions) → 1 ≤ d.count → d.count ≤ most_dimensions → length d.extents ≡ most_dimensions
    → count_from d.count 1 d.extents ≡ pick (dimensions_allowed d) (cells d) 0
unfolding dimensions_allowed cells
count-cells d a b l =
    let one : 1 * product d.extents ≡ product d.extents = omega arith in
    let four : eqb (length d.extents) most_dimensions ≡ true = rw l in
    rw (count_is d.count 1 d.extents (omega arith), le-leb 1 d.count a, le-leb d.count 4 b, four, one)
    (go (every (leb 1) (take d.count d.extents)) (every (eqb 1) (drop d.count d.extents)))
  where
    go : (s t : Bool) → pick (both (both s t) (leb (product d.extents) most_cells)) (product d.extents) 0
        ≡ pick (both s (both t (leb (product d.extents) most_cells))) (product d.extents) 0
    go true t = refl
    go false t = refl

-- another dimension count is not allowed
pub count_outside : (d : Dimensions) → within 1 4 d.count ≡ false → 0 ≡ pick (dimensions_allowed d) (cells d) 0
unfolding dimensions_allowed
count_outside d h = rw h

-- ---- an allowed picture has at least one cell

pub cells-least : (d : Dimensions) → dimensions_allowed d ≡ true → 1 ≤ cells d
unfolding dimensions_allowed cells
cells-least d h =
    let t1 = both_true (within 1 most_dimensions d.count) _ h in
    let t2 = both_true (eqb (length d.extents) most_dimensions) _ t1.1 in
    let t3 = both_true (every (leb 1) (take d.count d.extents)) _ t2.1 in
    let t4 = both_true (every (eqb 1) (drop d.count d.extents)) _ t3.1 in
    product-least d.count d.extents (rw (t3.0, t4.0))

-- so the count of cells is 0 exactly where the dimensions are not allowed
pub count_none : (d : Dimensions) → pick (dimensions_allowed d) (cells d) 0 ≡ 0 → dimensions_allowed d ≡ false
count_none d h =
    cases (dimensions_allowed d) (λ a. let e : cells d ≡ 0 = rw a at h in absurd (omega (arith, cells-least d a))) (λ a. a)

pub count-some : (d : Dimensions) → (pick (dimensions_allowed d) (cells d) 0 ≡ 0 → ⊥) → dimensions_allowed d ≡ true
count-some d h = cases (dimensions_allowed d) (λ a. a) (λ a. absurd (h (rw a)))

-- ---- one extent at an index

zero-refused : (n : ℕ) → extent_allowed n 0 ≡ false
zero-refused zero = refl
zero-refused (suc n) = refl

count_nought : (n : ℕ) (es : List ℕ) → count_from n 0 es ≡ 0
unfolding count_from
count_nought n [] = refl
count_nought n (e ∷ es) =
    let later = count_nought (n - 1) es in
    cases (extent_allowed n e) (λ a. rw (a, zero-mul e) later) (λ a. rw a)

-- an extent of a dimension, of which n are left, and one past them
dimension_allowed : (n e : ℕ) → 0 < n → (e ≡ 0 → ⊥) → extent_allowed n e ≡ true
dimension_allowed zero e h k = absurd (omega arith)
dimension_allowed (suc n) e h k = le-leb 1 e (omega (arith, k))

pub past-allowed : (n e : ℕ) → n ≡ 0 → e ≡ 1 → extent_allowed n e ≡ true
past-allowed n e h k = rw (h, k)

pub past-refused : (n e : ℕ) → n ≡ 0 → (e ≡ 1 → ⊥) → extent_allowed n e ≡ false
past-refused n e h k = rw h (ne_eqb 1 e (λ z. k (sym z)))

-- m dimensions, of which i extents are passed
module _ (m c i : ℕ) (es : List ℕ) where
  pub count-step : i < length es → extent_allowed (m - i) (get_or es i 0) ≡ true → c * get_or es i 0 ≤ most_cells
      → count_from (m - i) c (drop i es) ≡ count_from (m - (i + 1)) (c * get_or es i 0) (drop (i + 1) es)
  unfolding count_from
  count-step h a l =
      let k : m - i - 1 ≡ m - (i + 1) = omega arith in
      rw (drop-cons es i 0 h, a, le-leb (c * get_or es i 0) most_cells l, k, add-one i)

  pub count-refused : i < length es → extent_allowed (m - i) (get_or es i 0) ≡ false → count_from (m - i) c (drop i es) ≡ 0
  unfolding count_from
  count-refused h a = rw (drop-cons es i 0 h, a)

  -- an extent of a dimension: 0 is not allowed, and makes the product 0
  pub count_dimension : i < length es → 0 < m - i → c * get_or es i 0 ≤ most_cells
      → count_from (m - i) c (drop i es) ≡ count_from (m - (i + 1)) (c * get_or es i 0) (drop (i + 1) es)
  count_dimension h d l =
      cases (eqb (get_or es i 0) 0)
      (λ t.
      let z = eqb-true (get_or es i 0) 0 t in
      count-refused h (rw z (zero-refused (m - i))) ∙ sym (rw (z, mul-zero c) (count_nought (m - (i + 1)) (drop (i + 1) es))))
      (λ t. count-step h (dimension_allowed (m - i) (get_or es i 0) d (eqb-false (get_or es i 0) 0 t)) l)

  pub count_past : i < length es → most_cells < c * get_or es i 0 → count_from (m - i) c (drop i es) ≡ 0
  unfolding count_from
  count_past h l = rw (drop-cons es i 0 h, lt-leb (c * get_or es i 0) most_cells l, both_false (extent_allowed (m - i) (get_or es i 0)))

  pub count-end : length es ≤ i → count_from (m - i) c (drop i es) ≡ c
  unfolding count_from
  count-end h = rw (drop_of_length-le es h)
