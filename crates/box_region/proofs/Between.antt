-- The positions of an allowed box are those below cells whose coordinates lie between its corners, rising. Assumes nothing.
use Prim.Native.Nat.{ℕ, zero, suc, ◌+◌, ◌-◌, ◌*◌, ◌/◌, ◌≤◌, ◌<◌}
use mathlib.Core.Path.{◌≡◌, refl, sym, ap, ap₂, ◌∙◌}
use mathlib.Core.Bool.{Bool, true, false, not}
use mathlib.Core.List.{List, [], ◌∷◌, ◌++◌, append_assoc, append-nil}
use native.Mathlib.Nat.{add-zero, zero-add, zero-mul, mul-one, mul_assoc, suc-mul, mul-add-div_right, mul-add-mod_self_right}
use native.Mathlib.Omega.{arith}
use lib.ListN.{length}
use lib.Arith.{digits_div, digits_mod}
use lib.Dec.{leb, ltb, eqb}
use borrow.Author.Tests.{eqb-true, leb-true, ltb-true, le-leb, lt-leb}
use Rattle.format.specs.declared.Dimensions.{Dimensions}
use Rattle.format.specs.Tools.{pick, both, within, unless, first, others, range, joined}
use Rattle.format.specs.Picture.{product, cells, coordinates_from, coordinates_at, inside}
use Rattle.format.specs.Box.{box_allowed, box_from, box_positions}
use Rattle.laws.proofs.Tools.{cases, both_true}
use Rattle.laws.proofs.Stored.{Rising, rising_weaken}
use Rattle.box_region.specs.Bounds.{bounded}
use Rattle.box_region.proofs.Counted.{allowed_as, range-append}
use Rattle.box_region.proofs.Joined.{product-bounded, joined_same}

-- each coordinate lies between low and high
unfoldable pub between : List ℕ → List ℕ → List ℕ → Bool
between [] low high = true
between (c ∷ cs) low high = both (within (first low) (first high) c) (between cs (others low) (others high))

-- those that pass the test
unfoldable pub selected : (ℕ → Bool) → List ℕ → List ℕ
selected f [] = []
selected f (x ∷ xs) = unless (not (f x)) x (selected f xs)

-- ---- ranges

joined-append : (f : ℕ → List ℕ) (xs ys : List ℕ) → joined f (xs ++ ys) ≡ joined f xs ++ joined f ys
joined-append f [] ys = refl
joined-append f (x ∷ xs) ys = ap (λ (l : List ℕ). f x ++ l) (joined-append f xs ys) ∙ sym (append_assoc (f x) (joined f xs) (joined f ys))

selected_append : (f : ℕ → Bool) (xs ys : List ℕ) → selected f (xs ++ ys) ≡ selected f xs ++ selected f ys
unfolding selected
selected_append f [] ys = refl
selected_append f (x ∷ xs) ys =
    cases (f x) (λ e. rw e (ap (λ (l : List ℕ). x ∷ l) (selected_append f xs ys))) (λ e. rw e (selected_append f xs ys))

selected_same : (f g : ℕ → Bool) (a n : ℕ) → ((t : ℕ) → t < n → f (a + t) ≡ g (a + t)) → selected f (range a n) ≡ selected g (range a n)
unfolding selected range
selected_same f g a zero h = refl
selected_same f g a (suc n) h =
    let i = selected_same f g (suc a) n (λ t k. let e : suc a + t ≡ a + suc t = omega arith in rw e (h (suc t) (omega arith))) in
    let z : f a ≡ g a = rw (add-zero a) at (h 0 (omega arith)) in
    rw (z, i)

selected_none : (f : ℕ → Bool) (a n : ℕ) → ((t : ℕ) → t < n → f (a + t) ≡ false) → selected f (range a n) ≡ []
unfolding selected range
selected_none f a zero h = refl
selected_none f a (suc n) h =
    let i = selected_none f (suc a) n (λ t k. let e : suc a + t ≡ a + suc t = omega arith in rw e (h (suc t) (omega arith))) in
    let z : f a ≡ false = rw (add-zero a) at (h 0 (omega arith)) in
    rw z i

pub rising_selected : (f : ℕ → Bool) (a n B : ℕ) → a + n ≤ B → Rising a B (selected f (range a n))
unfolding selected range
rising_selected f a zero B h = tt
rising_selected f a (suc n) B h =
    let i = rising_selected f (suc a) n B (omega arith) in
    cases (f a) (λ e. rw e (omega arith, omega arith, i)) (λ e. rw e (rising_weaken a (suc a) B (selected f (range (suc a) n)) (omega arith) i))

-- ---- the lists of the coordinates between l and h alone

module _ (f : ℕ → List ℕ) (l h : ℕ) where
  abbrev picked : ℕ → List ℕ
  picked c = pick (within l h c) (f c) []

  picked_below : (a n : ℕ) → a + n ≤ l → joined picked (range a n) ≡ []
  unfolding range
  picked_below a zero k = refl
  picked_below a (suc n) k = rw (lt-leb l a (omega arith)) (picked_below (suc a) n (omega arith))

  picked_above : (a n : ℕ) → h < a → joined picked (range a n) ≡ []
  unfolding range
  picked_above a zero k = refl
  picked_above a (suc n) k = cases (leb l a) (λ e. rw (e, lt-leb a h k) (picked_above (suc a) n (omega arith))) (λ e. rw e (picked_above (suc a) n (omega arith)))

  picked_in : (a n : ℕ) → l ≤ a → a + n ≤ suc h → joined picked (range a n) ≡ joined f (range a n)
  unfolding range
  picked_in a zero j k = refl
  picked_in a (suc n) j k =
      rw (le-leb l a j, le-leb a h (omega arith)) (ap (λ (x : List ℕ). f a ++ x) (picked_in (suc a) n (omega arith) (omega arith)))

  picked_all : (e : ℕ) → l ≤ h → h < e → joined picked (range 0 e) ≡ joined f (range l (suc h - l))
  picked_all e j k =
      let n = suc h - l in
      let s : e ≡ l + (n + (e - suc h)) = omega arith in
      let t : l + n ≡ suc h = omega arith in
      let r : range 0 (l + (n + (e - suc h))) ≡ range 0 l ++ (range l n ++ range (suc h) (e - suc h))
      = rw (range-append 0 l (n + (e - suc h)), zero-add l, range-append l n (e - suc h), t) in
      ap (λ (x : ℕ). joined picked (range 0 x)) s ∙ ap (joined picked) r
      ∙ joined-append picked (range 0 l) (range l n ++ range (suc h) (e - suc h))
      ∙ rw (picked_below 0 l (omega arith), joined-append picked (range l n) (range (suc h) (e - suc h)), picked_in l n (omega arith) (omega arith), picked_above (suc h) (e - suc h) (omega arith))
      (append-nil (joined f (range l n)))

-- ---- coordinates

-- what stands before in row order does not change them
shifted : (es : List ℕ) (p t : ℕ) → 0 < product es → coordinates_from es (p * product es + t) ≡ coordinates_from es t
unfolding coordinates_from product
shifted [] p t k = refl
shifted (e ∷ es) p t k =
    let m : 0 < product es = right-some e (product es) k in
    let q : p * (e * product es) ≡ p * e * product es = sym (mul_assoc p e (product es)) in
    rw (q, mul-add-div_right m (p * e) t, mul-add-mod_self_right p e (t / product es), mul-add-mod_self_right (p * e) (product es) t)
  where
    right-some : (a c : ℕ) → 0 < a * c → 0 < c
    right-some a zero h = absurd (omega (arith, native.Mathlib.Nat.mul-zero a))
    right-some a (suc c) h = omega arith

abbrev lies : List ℕ → List ℕ → List ℕ → ℕ → Bool
lies es low high q = between (coordinates_from es q) low high

module _ (e : ℕ) (es low high : List ℕ) (p : ℕ) (some : 0 < product es) where
  -- the cells with the coordinate c
  lies_at : (c t : ℕ) → c < e → t < product es
      → lies (e ∷ es) low high ((p * e + c) * product es + t)
      ≡ both (within (first low) (first high) c) (lies es (others low) (others high) ((p * e + c) * product es + t))
  unfolding coordinates_from between
  lies_at c t h k =
      rw (
        digits_div (p * e + c) k,
        digits_mod (p * e + c) k,
        digits_mod p h,
        shifted es (p * e + c) t some,
      )

  abbrev own : ℕ → List ℕ
  own c = selected (lies es (others low) (others high)) (range ((p * e + c) * product es) (product es))

  one : (c : ℕ) → c < e → selected (lies (e ∷ es) low high) (range ((p * e + c) * product es) (product es)) ≡ picked own (first low) (first high) c
  one c h =
      cases (within (first low) (first high) c)
      (λ w.
      rw w
      (selected_same (lies (e ∷ es) low high) (lies es (others low) (others high)) ((p * e + c) * product es) (product es) (λ t k. lies_at c t h k ∙ rw w)))
      (λ w. rw w (selected_none (lies (e ∷ es) low high) ((p * e + c) * product es) (product es) (λ t k. lies_at c t h k ∙ rw w)))

  -- n coordinates from a on
  several : (a n : ℕ) → a + n ≤ e
      → selected (lies (e ∷ es) low high) (range ((p * e + a) * product es) (n * product es)) ≡ joined (picked own (first low) (first high)) (range a n)
  unfolding selected range
  several a zero h = rw (zero-mul (product es))
  several a (suc n) h =
      let s : suc n * product es ≡ product es + n * product es = rw (suc-mul n (product es)) (omega arith) in
      let k : (p * e + a) * product es + product es ≡ (p * e + suc a) * product es
      = let m : p * e + suc a ≡ suc (p * e + a) = omega arith in rw (m, suc-mul (p * e + a) (product es)) in
      rw (s, range-append ((p * e + a) * product es) (product es) (n * product es), k)
      (selected_append (lies (e ∷ es) low high) (range ((p * e + a) * product es) (product es)) (range ((p * e + suc a) * product es) (n * product es))
      ∙ ap₂ (λ (x y : List ℕ). x ++ y) (one a (omega arith)) (several (suc a) n (omega arith)))

-- ---- the box

box_selected : (p : ℕ) (es low high : List ℕ) → bounded es low high ≡ true
    → box_from p es low high ≡ selected (lies es low high) (range (p * product es) (product es))
unfolding box_from bounded
box_selected p [] low high h = unfold product selected range coordinates_from between in (rw (mul-one p))
box_selected p (e ∷ es) low high h =
    let t = both_true (leb (first low) (first high)) _ h in
    let u = both_true (ltb (first high) e) _ t.1 in
    let l = leb-true (first low) (first high) t.0 in
    let k = ltb-true (first high) e u.0 in
    let some = product-bounded es (others low) (others high) u.1 in
    let m : (p * e + 0) * product es ≡ p * product (e ∷ es) = unfold product in (rw add-zero (mul_assoc p e (product es))) in
    let n : e * product es ≡ product (e ∷ es) = unfold product in refl in
    joined_same (λ c. box_from (p * e + c) es (others low) (others high)) (own e es low high p some) (range (first low) (suc (first high) - first low))
    (λ c. box_selected (p * e + c) es (others low) (others high) u.1)
    ∙ sym (picked_all (own e es low high p some) (first low) (first high) e l k)
    ∙ sym (several e es low high p some 0 e (omega arith))
    ∙ ap₂ (λ (x y : ℕ). selected (lies (e ∷ es) low high) (range x y)) m n

module _ (d : Dimensions) (low high : List ℕ) (allowed : box_allowed d low high ≡ true) where
  bounds : bounded d.extents low high ≡ true
  unfolding box_allowed inside
  bounds =
      let t = both_true (inside d low) _ allowed in
      let u = both_true (inside d high) _ t.1 in
      let l = eqb-true (length low) 4 (both_true (eqb (length low) 4) _ t.0).0 in
      let h = eqb-true (length high) 4 (both_true (eqb (length high) 4) _ u.0).0 in
      sym (allowed_as d low high l h) ∙ allowed

  -- exactly those between the corners, in rising order
  pub box_between : box_positions d low high ≡ selected (λ p. between (coordinates_at d p) low high) (range 0 (cells d))
  unfolding box_positions cells coordinates_at
  box_between =
      box_selected 0 d.extents low high bounds
      ∙ ap (λ (x : ℕ). selected (lies d.extents low high) (range x (product d.extents))) (zero-mul (product d.extents))

  pub box_rising : Rising 0 (cells d) (box_positions d low high)
  box_rising = rw box_between (rising_selected (λ p. between (coordinates_at d p) low high) 0 (cells d) (cells d) (omega arith))
