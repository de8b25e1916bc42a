-- Row order one extent at a time, forwards to a position and backwards to coordinates. Assumes nothing.
use Prim.Native.Nat.{ℕ, zero, suc, ◌+◌, ◌*◌, ◌/◌, ◌%◌, ◌≤◌, ◌<◌}
use mathlib.Core.Path.{◌≡◌, refl, sym, ap, ◌∙◌}
use mathlib.Core.Bool.{true, false}
use mathlib.Core.List.{List, [], ◌∷◌}
use native.Mathlib.Nat.{le_refl, mul-one, mul-zero, zero-mul, mul_assoc, suc-mul, mul-le-mul_right, div-add-mod', mod-lt, zero-lt-suc, le-mul_of_pos_right}
use native.Mathlib.Numerals.{add-one}
use native.Mathlib.Omega.{arith}
use lib.ListN.{length, drop, get_or, set, drop_of_length-le}
use lib.Seq.{drop-cons}
use borrow.Author.Tests.{lt-ltb, le-ltb}
use Rattle.format.specs.Tools.{first, others}
use Rattle.format.specs.Picture.{product, row_order, inside_extents, coordinates_from}
use Rattle.laws.proofs.Coordinates.{coordinates-back}

-- ---- the extents that are left

first-drop : (i : ℕ) (cs : List ℕ) → first (drop i cs) ≡ get_or cs i 0
first-drop zero [] = refl
first-drop (suc i) [] = refl
first-drop zero (c ∷ cs) = refl
first-drop (suc i) (c ∷ cs) = first-drop i cs

others-drop : (i : ℕ) (cs : List ℕ) → others (drop i cs) ≡ drop (suc i) cs
others-drop zero [] = refl
others-drop (suc i) [] = refl
others-drop zero (c ∷ cs) = refl
others-drop (suc i) (c ∷ cs) = others-drop i cs

row_cons : (p e : ℕ) (es cs : List ℕ) → row_order p (e ∷ es) cs ≡ row_order (p * e + first cs) es (others cs)
unfolding row_order
row_cons p e es cs = refl

right-least : (a b : ℕ) → 1 ≤ a * b → 1 ≤ b
right-least a zero h = absurd (omega (arith, mul-zero a))
right-least a (suc b) h = zero-lt-suc b

left-least : (a b : ℕ) → 1 ≤ a * b → 1 ≤ a
left-least zero b h = absurd (omega (arith, zero-mul b))
left-least (suc a) b h = zero-lt-suc a

-- a product of at least 1 has such factors
pub rest_least : (i : ℕ) (es : List ℕ) → 1 ≤ product es → 1 ≤ product (drop i es)
unfolding product
rest_least zero es h = h
rest_least (suc i) [] h = h
rest_least (suc i) (e ∷ es) h = rest_least i es (right-least e (product es) h)

product_at : (i : ℕ) (es : List ℕ) → i < length es → product (drop i es) ≡ get_or es i 0 * product (drop (i + 1) es)
unfolding product
product_at i es h = rw (drop-cons es i 0 h, add-one i)

pub extent_least : (i : ℕ) (es : List ℕ) → i < length es → 1 ≤ product es → 1 ≤ get_or es i 0
extent_least i es h k = left-least _ (product (drop (i + 1) es)) (rw (product_at i es h) at (rest_least i es k))

-- ---- forwards

module _ (i p : ℕ) (es cs : List ℕ) (h : i < length es) where
  pub row_turn : row_order p (drop i es) (drop i cs) ≡ row_order (p * get_or es i 0 + get_or cs i 0) (drop (i + 1) es) (drop (i + 1) cs)
  row_turn = rw (drop-cons es i 0 h, row_cons p (get_or es i 0) (drop (suc i) es) (drop i cs), first-drop i cs, others-drop i cs, add-one i)

  pub inside_turn : get_or cs i 0 < get_or es i 0 → inside_extents (drop i es) (drop i cs) ≡ inside_extents (drop (i + 1) es) (drop (i + 1) cs)
  unfolding inside_extents
  inside_turn l = rw (drop-cons es i 0 h, first-drop i cs, others-drop i cs, lt-ltb (get_or cs i 0) (get_or es i 0) l, add-one i)

  pub inside_stop : get_or es i 0 ≤ get_or cs i 0 → inside_extents (drop i es) (drop i cs) ≡ false
  unfolding inside_extents
  inside_stop l = rw (drop-cons es i 0 h, first-drop i cs, others-drop i cs, le-ltb (get_or cs i 0) (get_or es i 0) l)

  -- the positions that begin with these coordinates are below m
  pub room_turn : (m : ℕ) → suc p * product (drop i es) ≤ m → get_or cs i 0 < get_or es i 0
      → suc (p * get_or es i 0 + get_or cs i 0) * product (drop (i + 1) es) ≤ m
  room_turn m r l =
      let e = get_or es i 0 in
      let q = product (drop (i + 1) es) in
      let a : suc (p * e + get_or cs i 0) ≤ suc p * e = rw (suc-mul p e) (omega arith) in
      let b : suc (p * e + get_or cs i 0) * q ≤ suc p * e * q = mul-le-mul_right q a in
      let c : suc p * product (drop i es) ≡ suc p * e * q = rw (product_at i es h) (sym (mul_assoc (suc p) e q)) in
      omega arith

-- and so is the position so far
pub room-below : (m i p : ℕ) (es : List ℕ) → 1 ≤ product es → suc p * product (drop i es) ≤ m → p < m
room-below m i p es k r = let b = le-mul_of_pos_right (suc p) (rest_least i es k) in omega arith

-- no extent is left
module _ (i p : ℕ) (es cs : List ℕ) (h : length es ≤ i) where
  pub row-end : row_order p (drop i es) cs ≡ p
  unfolding row_order
  row-end = rw (drop_of_length-le es h)

  pub inside-end : inside_extents (drop i es) cs ≡ true
  unfolding inside_extents
  inside-end = rw (drop_of_length-le es h)

pub room-end : (i p : ℕ) (es : List ℕ) → length es ≤ i → p * product (drop i es) ≤ p
unfolding product
room-end i p es h = rw (drop_of_length-le es h, mul-one p) (le_refl p)

-- ---- backwards

drop-set : (l : List ℕ) (k x : ℕ) → k < length l → drop k (set l k x) ≡ x ∷ drop (suc k) l
drop-set [] k x h = absurd (omega arith)
drop-set (a ∷ l) zero x h = refl
drop-set (a ∷ l) (suc k) x h = drop-set l k x (omega arith)

-- the coordinate at k is the remainder, and the quotient is left
module _ (k rest : ℕ) (es cs : List ℕ) (h : k < length es) (g : k < length cs) where
  back_list : drop k (set cs k (rest % get_or es k 0)) ≡ rest % get_or es k 0 ∷ drop (k + 1) cs
  back_list = rw add-one (drop-set cs k (rest % get_or es k 0) g)

  back_extents : drop k es ≡ get_or es k 0 ∷ drop (k + 1) es
  back_extents = rw (add-one k) (drop-cons es k 0 h)

  pub back-row : row_order (rest / get_or es k 0) (drop k es) (drop k (set cs k (rest % get_or es k 0))) ≡ row_order rest (drop (k + 1) es) (drop (k + 1) cs)
  back-row =
      rw (
        back_extents,
        back_list,
        row_cons (rest / get_or es k 0) (get_or es k 0) (drop (k + 1) es) (rest % get_or es k 0 ∷ drop (k + 1) cs),
        div-add-mod' rest (get_or es k 0),
      )

  pub back_inside : 1 ≤ get_or es k 0 → inside_extents (drop k es) (drop k (set cs k (rest % get_or es k 0))) ≡ inside_extents (drop (k + 1) es) (drop (k + 1) cs)
  unfolding inside_extents
  back_inside l = rw (back_extents, back_list, lt-ltb (rest % get_or es k 0) (get_or es k 0) (mod-lt rest l))

  pub back-room : (p : ℕ) → rest * product (drop (k + 1) es) ≤ p → rest / get_or es k 0 * product (drop k es) ≤ p
  back-room p r =
      let e = get_or es k 0 in
      let q = product (drop (k + 1) es) in
      let a : rest / e * e ≤ rest = omega (arith, div-add-mod' rest e) in
      let b : rest / e * e * q ≤ rest * q = mul-le-mul_right q a in
      let c : rest / e * product (drop k es) ≡ rest / e * e * q = rw (product_at k es h) (sym (mul_assoc (rest / e) e q)) in
      omega arith

-- nothing is left at the end, and the coordinates are those of the position
nothing_left : (m rest p : ℕ) → rest * m ≤ p → p < m → rest ≡ 0
nothing_left m zero p h k = refl
nothing_left m (suc rest) p h k = absurd (omega (arith, suc-mul rest m))

pub back_end : (rest p : ℕ) (es cs : List ℕ) → length cs ≡ length es → row_order rest es cs ≡ p → inside_extents es cs ≡ true
    → rest * product es ≤ p → p < product es → cs ≡ coordinates_from es p
back_end rest p es cs n r t m b =
    let z : rest ≡ 0 = nothing_left (product es) rest p m b in
    sym (coordinates-back es cs n t) ∙ ap (coordinates_from es) (rw z at r)
