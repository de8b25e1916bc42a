-- Two dimensions as one, where the second is covered whole. Assumes nothing.
use Prim.Native.Nat.{ℕ, zero, suc, ◌+◌, ◌-◌, ◌*◌, ◌≤◌, ◌<◌}
use mathlib.Core.Path.{◌≡◌, refl, sym, ap, ◌∙◌, subst}
use mathlib.Core.Bool.{true}
use mathlib.Core.List.{List, [], ◌∷◌, ◌++◌, append-nil}
use native.Mathlib.Nat.{add-zero, zero-mul, mul-one, one-mul, suc-mul, add-mul, mul_assoc, mul_comm, mul-le-mul_right, le-mul_of_pos_right, le_trans}
use native.Mathlib.Omega.{arith}
use lib.ListN.{length, get_or}
use lib.Dec.{leb, ltb}
use borrow.Author.Tests.{leb-true, ltb-true, le-leb, lt-ltb}
use Rattle.format.specs.Tools.{range, joined}
use Rattle.format.specs.Picture.{product}
use Rattle.format.specs.Box.{box_from}
use Rattle.laws.proofs.Tools.{both_true, both_make}
use Rattle.box_region.specs.declared.region.Region.{Region}
use Rattle.box_region.specs.Bounds.{bounded}
use Rattle.box_region.specs.Region.{Placed, Four, SameCells}
use Rattle.box_region.proofs.Counted.{range-append}
use Rattle.box_region.proofs.Joined.{joined-row, joined_same}

-- ---- positions

-- consecutive rows of b cells
blocks : (q b l n : ℕ) → joined (λ c. range ((q + c) * b) b) (range l n) ≡ range ((q + l) * b) (n * b)
unfolding range
blocks q b l zero = rw (zero-mul b)
blocks q b l (suc n) =
    let s : suc n * b ≡ b + n * b = rw (suc-mul n b) (omega arith) in
    let k : (q + l) * b + b ≡ (q + suc l) * b = let m : q + suc l ≡ suc (q + l) = omega arith in rw (m, suc-mul (q + l) b) in
    rw (s, range-append ((q + l) * b) b (n * b), k) (ap (λ (x : List ℕ). range ((q + l) * b) b ++ x) (blocks q b (suc l) n))

module _ (a b l h m : ℕ) (whole : m + 1 ≡ b) (order : l ≤ h) where
  cells_many : (suc h - l) * b ≡ suc (h * b + m) - l * b
  cells_many =
      let e : l + (suc h - l) ≡ suc h = omega arith in
      let t : suc h * b ≡ l * b + (suc h - l) * b = ap (λ (x : ℕ). x * b) (sym e) ∙ add-mul l (suc h - l) b in
      let u = suc-mul h b in
      omega arith

  last-two : (q : ℕ) → box_from q ((a * b) ∷ []) ((l * b) ∷ []) ((h * b + m) ∷ []) ≡ box_from q (a ∷ (b ∷ [])) (l ∷ (0 ∷ [])) (h ∷ (m ∷ []))
  unfolding box_from
  last-two q =
      let z : q * (a * b) + l * b ≡ (q * a + l) * b = rw (add-mul (q * a) l b, mul_assoc q a b) in
      let n : suc m - 0 ≡ b = omega arith in
      let row : (c : ℕ) → range ((q * a + c) * b) b ≡ joined (λ d. ((q * a + c) * b + d) ∷ []) (range 0 (suc m - 0))
      = λ c. sym (joined-row ((q * a + c) * b) 0 (suc m - 0) ∙ rw (add-zero ((q * a + c) * b), n)) in
      joined-row (q * (a * b)) (l * b) (suc (h * b + m) - l * b)
      ∙ rw (z, ← cells_many) (sym (blocks (q * a) b l (suc h - l)))
      ∙ joined_same (λ c. range ((q * a + c) * b) b) (λ c. joined (λ d. ((q * a + c) * b + d) ∷ []) (range 0 (suc m - 0))) (range l (suc h - l)) row

-- other dimensions inside the first
box_inner : (e l h : ℕ) (es low high es' low' high' : List ℕ) → ((q : ℕ) → box_from q es' low' high' ≡ box_from q es low high)
    → (p : ℕ) → box_from p (e ∷ es') (l ∷ low') (h ∷ high') ≡ box_from p (e ∷ es) (l ∷ low) (h ∷ high)
unfolding box_from
box_inner e l h es low high es' low' high' k p =
    joined_same (λ c. box_from (p * e + c) es' low' high') (λ c. box_from (p * e + c) es low high) (range l (suc h - l)) (λ c. k (p * e + c))

box_one : (p : ℕ) (es low high : List ℕ) → box_from p (1 ∷ es) (0 ∷ low) (0 ∷ high) ≡ box_from p es low high
unfolding box_from range
box_one p es low high = append-nil (box_from (p * 1 + 0) es low high) ∙ rw (mul-one p, add-zero p)

-- ---- bounds

bounded_inner : (e l h : ℕ) (es low high es' low' high' : List ℕ) → (bounded es low high ≡ true → bounded es' low' high' ≡ true)
    → bounded (e ∷ es) (l ∷ low) (h ∷ high) ≡ true → bounded (e ∷ es') (l ∷ low') (h ∷ high') ≡ true
unfolding bounded
bounded_inner e l h es low high es' low' high' k b =
    let t = both_true (leb l h) _ b in
    let u = both_true (ltb h e) _ t.1 in
    both_make (leb l h) _ t.0 (both_make (ltb h e) _ u.0 (k u.1))

bounded-first : (e l h : ℕ) (es low high : List ℕ) → bounded (e ∷ es) (l ∷ low) (h ∷ high) ≡ true → (l ≤ h) × (h < e) × (bounded es low high ≡ true)
unfolding bounded
bounded-first e l h es low high b =
    let t = both_true (leb l h) _ b in
    let u = both_true (ltb h e) _ t.1 in
    (leb-true l h t.0, ltb-true h e u.0, u.1)

bounded-one : (es low high : List ℕ) → bounded (1 ∷ es) (0 ∷ low) (0 ∷ high) ≡ bounded es low high
unfolding bounded
bounded-one es low high = refl

-- the last cell of a merged row lies in it
row-end : (a b h m : ℕ) → m < b → h < a → h * b + m < a * b
row-end a b h m n k = let t = mul-le-mul_right b k in let u = suc-mul h b in omega arith

bounded-two : (a b l h m : ℕ) → m + 1 ≡ b → bounded (a ∷ (b ∷ [])) (l ∷ (0 ∷ [])) (h ∷ (m ∷ [])) ≡ true
    → bounded ((a * b) ∷ []) ((l * b) ∷ []) ((h * b + m) ∷ []) ≡ true
unfolding bounded
bounded-two a b l h m whole k =
    let f = bounded-first a l h (b ∷ []) (0 ∷ []) (m ∷ []) k in
    let t = mul-le-mul_right b f.0 in
    both_make (leb (l * b) (h * b + m)) _ (le-leb (l * b) (h * b + m) (omega arith))
    (both_make (ltb (h * b + m) (a * b)) _ (lt-ltb (h * b + m) (a * b) (row-end a b h m (omega arith) f.1)) refl)

-- ---- four dimensions

four-numbers : (xs : List ℕ) → length xs ≡ 4 → xs ≡ get_or xs 0 0 ∷ (get_or xs 1 0 ∷ (get_or xs 2 0 ∷ (get_or xs 3 0 ∷ [])))
four-numbers [] h = absurd (omega arith)
four-numbers (a ∷ []) h = absurd (omega arith)
four-numbers (a ∷ b ∷ []) h = absurd (omega arith)
four-numbers (a ∷ b ∷ c ∷ []) h = absurd (omega arith)
four-numbers (a ∷ b ∷ c ∷ d ∷ []) h = refl
four-numbers (a ∷ b ∷ c ∷ d ∷ e ∷ xs) h = absurd (omega arith)

module _ (e0 e1 e2 e3 l0 l1 l2 l3 h0 h1 h2 h3 : ℕ) where
  abbrev numbers : Region
  numbers = record { extents = e0 ∷ (e1 ∷ (e2 ∷ (e3 ∷ []))); low = l0 ∷ (l1 ∷ (l2 ∷ (l3 ∷ []))); high = h0 ∷ (h1 ∷ (h2 ∷ (h3 ∷ []))) }

  abbrev pub merged_numbers : Region
  merged_numbers =
      record {
        extents = 1 ∷ (e0 ∷ (e1 ∷ ((e2 * e3) ∷ [])));
        low = 0 ∷ (l0 ∷ (l1 ∷ ((l2 * e3) ∷ [])));
        high = 0 ∷ (h0 ∷ (h1 ∷ ((h2 * e3 + h3) ∷ [])));
      }

  module _ (placed : Placed numbers) where
    second : (l1 ≤ h1) × (h1 < e1) × (bounded (e2 ∷ (e3 ∷ [])) (l2 ∷ (l3 ∷ [])) (h2 ∷ (h3 ∷ [])) ≡ true)
    second = bounded-first e1 l1 h1 _ _ _ (bounded-first e0 l0 h0 _ _ _ placed.bounds).2

    third : (l2 ≤ h2) × (h2 < e2) × (bounded (e3 ∷ []) (l3 ∷ []) (h3 ∷ []) ≡ true)
    third = bounded-first e2 l2 h2 _ _ _ second.2

    last-below : h3 < e3
    last-below = (bounded-first e3 l3 h3 _ _ _ third.2).1

    merged_few : e2 * e3 ≤ 16777216
    unfolding product
    merged_few =
        let f = bounded-first e0 l0 h0 _ _ _ placed.bounds in
        let g = second in
        let n = rw (mul-one e3) at placed.few in
        let x : e2 * e3 ≤ e1 * (e2 * e3) = rw (mul_comm e1 (e2 * e3)) (le-mul_of_pos_right (e2 * e3) (omega arith)) in
        let y : e1 * (e2 * e3) ≤ e0 * (e1 * (e2 * e3)) = rw (mul_comm e0 (e1 * (e2 * e3))) (le-mul_of_pos_right (e1 * (e2 * e3)) (omega arith)) in
        le_trans x (le_trans y n)

    merged_low : l2 * e3 ≤ h2 * e3
    merged_low = mul-le-mul_right e3 third.0

    merged_high : h2 * e3 + h3 < e2 * e3
    merged_high = row-end e2 e3 h2 h3 last-below third.1

module _ (e0 e1 e2 e3 l0 l1 l2 h0 h1 h2 h3 : ℕ) (whole : h3 + 1 ≡ e3) (placed : Placed (numbers e0 e1 e2 e3 l0 l1 l2 0 h0 h1 h2 h3)) where
  merged_bounds : bounded (1 ∷ (e0 ∷ (e1 ∷ ((e2 * e3) ∷ [])))) (0 ∷ (l0 ∷ (l1 ∷ ((l2 * e3) ∷ [])))) (0 ∷ (h0 ∷ (h1 ∷ ((h2 * e3 + h3) ∷ [])))) ≡ true
  merged_bounds =
      bounded-one (e0 ∷ (e1 ∷ ((e2 * e3) ∷ []))) (l0 ∷ (l1 ∷ ((l2 * e3) ∷ []))) (h0 ∷ (h1 ∷ ((h2 * e3 + h3) ∷ [])))
      ∙ bounded_inner e0 l0 h0 _ _ _ _ _ _ (bounded_inner e1 l1 h1 _ _ _ _ _ _ (bounded-two e2 e3 l2 h2 h3 whole)) placed.bounds

  merged_product : product (1 ∷ (e0 ∷ (e1 ∷ ((e2 * e3) ∷ [])))) ≡ product (e0 ∷ (e1 ∷ (e2 ∷ (e3 ∷ []))))
  unfolding product
  merged_product = rw (one-mul (e0 * (e1 * (e2 * e3 * 1))), mul-one (e2 * e3), mul-one e3)

  merged_cells : SameCells (numbers e0 e1 e2 e3 l0 l1 l2 0 h0 h1 h2 h3) (merged_numbers e0 e1 e2 e3 l0 l1 l2 0 h0 h1 h2 h3)
  merged_cells =
      record {
        four = (refl, refl, refl);
        positions =
            box_one 0 (e0 ∷ (e1 ∷ ((e2 * e3) ∷ []))) (l0 ∷ (l1 ∷ ((l2 * e3) ∷ []))) (h0 ∷ (h1 ∷ ((h2 * e3 + h3) ∷ [])))
            ∙ box_inner e0 l0 h0 _ _ _ _ _ _ (box_inner e1 l1 h1 _ _ _ _ _ _ (last-two e2 e3 l2 h2 h3 whole (third _ _ _ _ _ _ _ _ _ _ _ _ placed).0)) 0;
        bounds = merged_bounds;
        product = merged_product;
      }

-- ---- a region

module _ (r : Region) (four : Four r) (placed : Placed r) where
  abbrev e : ℕ → ℕ
  e i = get_or r.extents i 0

  abbrev l : ℕ → ℕ
  l i = get_or r.low i 0

  abbrev h : ℕ → ℕ
  h i = get_or r.high i 0

  as_numbers : r ≡ numbers (e 0) (e 1) (e 2) (e 3) (l 0) (l 1) (l 2) (l 3) (h 0) (h 1) (h 2) (h 3)
  as_numbers =
      ap (λ (x : List ℕ). record { extents = x; low = r.low; high = r.high }) (four-numbers r.extents four.0)
      ∙ ap (λ (x : List ℕ). record { extents = e 0 ∷ (e 1 ∷ (e 2 ∷ (e 3 ∷ []))); low = x; high = r.high }) (four-numbers r.low four.1)
      ∙ ap (λ (x : List ℕ). record { extents = e 0 ∷ (e 1 ∷ (e 2 ∷ (e 3 ∷ []))); low = l 0 ∷ (l 1 ∷ (l 2 ∷ (l 3 ∷ []))); high = x }) (four-numbers r.high four.2)

  here : Placed (numbers (e 0) (e 1) (e 2) (e 3) (l 0) (l 1) (l 2) (l 3) (h 0) (h 1) (h 2) (h 3))
  here = subst Placed as_numbers placed

  pub last-inside : h 3 < e 3
  last-inside = last-below _ _ _ _ _ _ _ _ _ _ _ _ here

  pub row-few : e 2 * e 3 ≤ 16777216
  row-few = merged_few _ _ _ _ _ _ _ _ _ _ _ _ here

  pub row_low : l 2 * e 3 ≤ h 2 * e 3
  row_low = merged_low _ _ _ _ _ _ _ _ _ _ _ _ here

  pub row-high : h 2 * e 3 + h 3 < e 2 * e 3
  row-high = merged_high _ _ _ _ _ _ _ _ _ _ _ _ here

  pub merged_same : l 3 ≡ 0 → h 3 + 1 ≡ e 3 → SameCells r (merged_numbers (e 0) (e 1) (e 2) (e 3) (l 0) (l 1) (l 2) 0 (h 0) (h 1) (h 2) (h 3))
  merged_same z w =
      let t : r ≡ numbers (e 0) (e 1) (e 2) (e 3) (l 0) (l 1) (l 2) 0 (h 0) (h 1) (h 2) (h 3)
      = as_numbers ∙ ap (λ (x : ℕ). numbers (e 0) (e 1) (e 2) (e 3) (l 0) (l 1) (l 2) x (h 0) (h 1) (h 2) (h 3)) z in
      subst (λ (x : Region). SameCells x (merged_numbers (e 0) (e 1) (e 2) (e 3) (l 0) (l 1) (l 2) 0 (h 0) (h 1) (h 2) (h 3))) (sym t)
      (merged_cells _ _ _ _ _ _ _ _ _ _ _ w (subst Placed t placed))

pub same-placed : (r s : Region) → Placed r → SameCells r s → Placed s
same-placed r s p c = record { bounds = c.bounds; few = rw c.product p.few }

pub same_start : (r : Region) → Four r → Placed r → SameCells r r
same_start r f p = record { four = f; positions = refl; bounds = p.bounds; product = refl }

pub same_again : (r s t : Region) → SameCells r s → SameCells s t → SameCells r t
same_again r s t a b = record { four = b.four; positions = b.positions ∙ a.positions; bounds = b.bounds; product = b.product ∙ a.product }
