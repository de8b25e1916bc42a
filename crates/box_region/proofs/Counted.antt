-- The cells of a box counted one dimension at a time. Assumes nothing.
use Prim.Native.Nat.{ℕ, zero, suc, ◌+◌, ◌-◌, ◌*◌, ◌≤◌, ◌<◌}
use mathlib.Core.Path.{◌≡◌, refl, sym, ap, ◌∙◌}
use mathlib.Core.Bool.{true}
use mathlib.Core.List.{List, [], ◌∷◌, ◌++◌}
use native.Mathlib.Nat.{add-zero, zero-add, mul-one, one-mul, mul_assoc, mul-le-mul, mul-le-mul_left, one-le-mul, le-mul_of_pos_right, le_refl}
use native.Mathlib.Numerals.{add-one}
use native.Mathlib.Omega.{arith}
use lib.ListN.{length, get_or, drop, drop_of_length-le, length-append}
use lib.Seq.{drop-cons}
use lib.Dec.{leb, ltb}
use borrow.Author.Tests.{leb-true, ltb-true, le-leb, lt-leb, lt-ltb, le-ltb}
use Rattle.format.specs.declared.Dimensions.{Dimensions}
use Rattle.format.specs.Tools.{pick, both, first, others, range, joined}
use Rattle.format.specs.Picture.{product, inside_extents, inside, most_dimensions}
use Rattle.format.specs.Box.{ordered, box_allowed, box_from}
use Rattle.laws.proofs.Tools.{cases, both_true, both_false, length-range}
use Rattle.header.proofs.RowOrder.{rest_least}
use Rattle.box_region.specs.Bounds.{bounded, box_count}

-- ---- a box that is allowed

-- the product n, continued over the widths; 0 where a bound fails
abbrev pub counted : ℕ → List ℕ → List ℕ → List ℕ → ℕ
counted n es low high = pick (bounded es low high) (n * box_count es low high) 0

-- low is inside its extent where high is, and is not above it
allowed-bounded : (es low high : List ℕ) → both (inside_extents es low) (both (inside_extents es high) (ordered es low high)) ≡ bounded es low high
unfolding inside_extents ordered bounded
allowed-bounded [] low high = refl
allowed-bounded (e ∷ es) low high =
    cases (leb (first low) (first high))
    (λ a.
    cases (ltb (first high) e)
    (λ c.
    let l = leb-true (first low) (first high) a in
    let h = ltb-true (first high) e c in
    rw (a, c, lt-ltb (first low) e (omega arith)) (allowed-bounded es (others low) (others high)))
    (λ c. rw (a, c, both_false (both (ltb (first low) e) (inside_extents es (others low))))))
    (λ a.
    rw (
      a,
      both_false (both (ltb (first high) e) (inside_extents es (others high))),
      both_false (both (ltb (first low) e) (inside_extents es (others low))),
    ))

pub allowed_as : (d : Dimensions) (low high : List ℕ) → length low ≡ most_dimensions → length high ≡ most_dimensions → box_allowed d low high ≡ bounded d.extents low high
unfolding box_allowed inside
allowed_as d low high l h = rw (l, h) (allowed-bounded d.extents low high)

-- ---- one extent

-- a number for each dimension
abbrev pub Four : List ℕ → List ℕ → List ℕ → Type 0
Four es low high = (length es ≡ most_dimensions) × (length low ≡ most_dimensions) × (length high ≡ most_dimensions)

module _ (n i : ℕ) (es low high : List ℕ) (k : i < most_dimensions) (f : Four es low high) where
  pub count_turn : get_or low i 0 ≤ get_or high i 0 → get_or high i 0 < get_or es i 0
      → counted n (drop i es) (drop i low) (drop i high)
      ≡ counted (n * (get_or high i 0 - get_or low i 0 + 1)) (drop (i + 1) es) (drop (i + 1) low) (drop (i + 1) high)
  unfolding bounded box_count
  count_turn a b =
      let w : suc (get_or high i 0) - get_or low i 0 ≡ get_or high i 0 - get_or low i 0 + 1 = omega arith in
      rw (
        drop-cons es i 0 (rw f.0 k),
        drop-cons low i 0 (rw f.1 k),
        drop-cons high i 0 (rw f.2 k),
        le-leb (get_or low i 0) (get_or high i 0) a,
        lt-ltb (get_or high i 0) (get_or es i 0) b,
        add-one i,
        w,
        mul_assoc n (get_or high i 0 - get_or low i 0 + 1) (box_count (drop (suc i) es) (drop (suc i) low) (drop (suc i) high)),
      )

  pub count_past : get_or es i 0 ≤ get_or high i 0 → counted n (drop i es) (drop i low) (drop i high) ≡ 0
  unfolding bounded
  count_past a =
      rw (
        drop-cons es i 0 (rw f.0 k),
        drop-cons low i 0 (rw f.1 k),
        drop-cons high i 0 (rw f.2 k),
        le-ltb (get_or high i 0) (get_or es i 0) a,
        both_false (leb (get_or low i 0) (get_or high i 0)),
      )

  pub count-above : get_or high i 0 < get_or low i 0 → counted n (drop i es) (drop i low) (drop i high) ≡ 0
  unfolding bounded
  count-above a =
      rw (drop-cons es i 0 (rw f.0 k), drop-cons low i 0 (rw f.1 k), drop-cons high i 0 (rw f.2 k), lt-leb (get_or low i 0) (get_or high i 0) a)

  -- the product so far, and the extents that are left, stay in the picture
  pub count_room : (m : ℕ) → n * product (drop i es) ≤ m → get_or high i 0 < get_or es i 0
      → n * (get_or high i 0 - get_or low i 0 + 1) * product (drop (i + 1) es) ≤ m
  unfolding product
  count_room m r a =
      let q = product (drop (i + 1) es) in
      let w : get_or high i 0 - get_or low i 0 + 1 ≤ get_or es i 0 = omega arith in
      let b : n * ((get_or high i 0 - get_or low i 0 + 1) * q) ≤ n * (get_or es i 0 * q) = mul-le-mul_left n (mul-le-mul w (le_refl q)) in
      let s : product (drop i es) ≡ get_or es i 0 * q = rw (drop-cons es i 0 (rw f.0 k), add-one i) in
      rw (mul_assoc n (get_or high i 0 - get_or low i 0 + 1) q) (omega (arith, rw s at r))

pub count-end : (n i : ℕ) (es low high : List ℕ) → length es ≤ i → counted n (drop i es) low high ≡ n
unfolding bounded box_count
count-end n i es low high h = rw (drop_of_length-le es {i = i} h, mul-one n)

-- so is the product alone
pub count_small : (m n i : ℕ) (es : List ℕ) → 1 ≤ product es → n * product (drop i es) ≤ m → n ≤ m
count_small m n i es k r = let b = le-mul_of_pos_right n (rest_least i es k) in omega arith

pub count-all : (d : Dimensions) (low high : List ℕ) → length low ≡ most_dimensions → length high ≡ most_dimensions
    → counted 1 d.extents low high ≡ pick (box_allowed d low high) (box_count d.extents low high) 0
count-all d low high l h = rw (allowed_as d low high l h, one-mul (box_count d.extents low high))

-- ---- as many as the positions of the box

pub range-append : (a m n : ℕ) → range a (m + n) ≡ range a m ++ range (a + m) n
unfolding range
range-append a zero n = rw (zero-add n, add-zero a)
range-append a (suc m) n =
    let e : suc m + n ≡ suc (m + n) = omega arith in
    let k : a + suc m ≡ suc a + m = omega arith in
    rw (e, k) (ap (λ (l : List ℕ). a ∷ l) (range-append (suc a) m n))

length-joined : (f : ℕ → List ℕ) (m : ℕ) (xs : List ℕ) → ((x : ℕ) → length (f x) ≡ m) → length (joined f xs) ≡ length xs * m
length-joined f m [] h = sym (native.Mathlib.Nat.zero-mul m)
length-joined f m (x ∷ xs) h =
    rw (length-append (f x) (joined f xs), h x, length-joined f m xs h, native.Mathlib.Nat.suc-mul (length xs) m) (omega arith)

pub length_box : (p : ℕ) (es low high : List ℕ) → length (box_from p es low high) ≡ box_count es low high
unfolding box_from box_count
length_box p [] low high = refl
length_box p (e ∷ es) low high =
    length-joined (λ c. box_from (p * e + c) es (others low) (others high)) (box_count es (others low) (others high))
    (range (first low) (suc (first high) - first low)) (λ c. length_box (p * e + c) es (others low) (others high))
    ∙ ap (λ (n : ℕ). n * box_count es (others low) (others high)) (length-range (first low) (suc (first high) - first low))

-- at least one
pub count-least : (es low high : List ℕ) → bounded es low high ≡ true → 1 ≤ box_count es low high
unfolding bounded box_count
count-least [] low high h = le_refl 1
count-least (e ∷ es) low high h =
    let t = both_true (leb (first low) (first high)) _ h in
    let u = both_true (ltb (first high) e) _ t.1 in
    let l = leb-true (first low) (first high) t.0 in
    one-le-mul (omega arith) (count-least es (others low) (others high) u.1)

pub box-least : (d : Dimensions) (low high : List ℕ) → length low ≡ most_dimensions → length high ≡ most_dimensions → box_allowed d low high ≡ true
    → 1 ≤ box_count d.extents low high
box-least d low high l h e = count-least d.extents low high (sym (allowed_as d low high l h) ∙ e)
