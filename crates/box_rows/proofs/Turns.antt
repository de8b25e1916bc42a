-- A box dimension by dimension: what is left of it gives the whole. Assumes nothing.
use Prim.Native.Nat.{ℕ, suc, ◌+◌, ◌-◌, ◌*◌, ◌≤◌, ◌<◌}
use mathlib.Core.Path.{◌≡◌, refl, sym, ap, ◌∙◌}
use mathlib.Core.Bool.{true}
use mathlib.Core.List.{List, [], ◌∷◌, ◌++◌}
use native.Mathlib.Nat.{mul-one, mul_assoc, suc-mul, mul-le-mul_right, le-mul_of_pos_right, le_refl, add-zero}
use native.Mathlib.Numerals.{add-one}
use native.Mathlib.Omega.{arith}
use lib.ListN.{length, get_or, drop, length-append, length-map}
use lib.Seq.{drop-cons}
use lib.Dec.{leb, ltb}
use borrow.Author.Tests.{leb-true, ltb-true}
use Rattle.format.specs.declared.View.{View}
use Rattle.format.specs.Tools.{range, joined}
use Rattle.format.specs.Picture.{product, most_dimensions}
use Rattle.format.specs.Accepted.{words_of}
use Rattle.format.specs.Box.{box_from}
use Rattle.laws.proofs.Tools.{both_true, length-range}
use Rattle.stores.specs.Put.{put}
use Rattle.stores.proofs.Laws.{put-append, length-put}
use Rattle.box_rows.specs.declared.Filled.{Filled}
use Rattle.box_region.specs.Bounds.{bounded}
use Rattle.row_seek.specs.Ready.{Ready}
use Rattle.box_rows.specs.Filling.{words_on, RowGoes, RowFilled, BoxGoes, BoxFilled}
use Rattle.parts.proofs.Seen.{seen}
use Rattle.row_seek.proofs.Resumed.{ready_later}
use Rattle.box_region.proofs.Counted.{Four}
use Rattle.box_region.proofs.Joined.{joined-row, product-bounded}

-- ---- lists

pub words_append : (b xs ys : List ℕ) → words_on b (xs ++ ys) ≡ words_on b xs ++ words_on b ys
unfolding words_on
words_append b [] ys = refl
words_append b (x ∷ xs) ys = ap (λ (l : List ℕ). get_or (words_of b) x 0 ∷ l) (words_append b xs ys)

pub length-words_on : (b ps : List ℕ) → length (words_on b ps) ≡ length ps
unfolding words_on
length-words_on b ps = length-map ps _

-- ---- the first of the dimensions that are left

module _ (b : List ℕ) (v : View) (i : ℕ) (extents low high : List ℕ) (k : i < most_dimensions) (f : Four extents low high) where
  pub first_goes : (p : ℕ) (s : Filled) (room : ℕ) → BoxGoes b v (drop i extents) (drop i low) (drop i high) p s room
      → BoxGoes b v (get_or extents i 0 ∷ drop (i + 1) extents) (get_or low i 0 ∷ drop (i + 1) low) (get_or high i 0 ∷ drop (i + 1) high) p s room
  first_goes p s room g = rw (add-one i, ← drop-cons extents i 0 (rw f.0 k), ← drop-cons low i 0 (rw f.1 k), ← drop-cons high i 0 (rw f.2 k)) g

  pub first-filled : (p : ℕ) (s : Filled) (before : List ℕ) (r : Filled) (after : List ℕ)
      → BoxFilled b v (get_or extents i 0 ∷ drop (i + 1) extents) (get_or low i 0 ∷ drop (i + 1) low) (get_or high i 0 ∷ drop (i + 1) high) p s before r after
      → BoxFilled b v (drop i extents) (drop i low) (drop i high) p s before r after
  first-filled p s before r after g =
      rw (drop-cons extents i 0 (rw f.0 k), drop-cons low i 0 (rw f.1 k), drop-cons high i 0 (rw f.2 k), ← add-one i) g

-- ---- of a box that goes

module _ (b : List ℕ) (v : View) (e : ℕ) (es : List ℕ) (l : ℕ) (low : List ℕ) (h : ℕ) (high : List ℕ) (p : ℕ) (s : Filled) (room : ℕ)
    (g : BoxGoes b v (e ∷ es) (l ∷ low) (h ∷ high) p s room) where
  pub in_order : l ≤ h
  unfolding bounded
  in_order = leb-true l h (both_true (leb l h) _ g.bounds).0

  pub in_extent : h < e
  unfolding bounded
  in_extent = ltb-true h e (both_true (ltb h e) _ (both_true (leb l h) _ g.bounds).1).0

  later : bounded es low high ≡ true
  unfolding bounded
  later = (both_true (ltb h e) _ (both_true (leb l h) _ g.bounds).1).1

  -- the cells that begin with these coordinates
  within : (a : ℕ) → a ≤ h → suc (p * e + a) * product es ≤ suc p * product (e ∷ es)
  unfolding product
  within a k =
      let x = in_extent in
      let m : suc (p * e + a) ≤ suc p * e = rw (suc-mul p e) (omega arith) in
      rw (← mul_assoc (suc p) e (product es)) (mul-le-mul_right (product es) m)

  pub cell-small : (a : ℕ) → a ≤ h → p * e + a < 16777216
  cell-small a k =
      let w = within a k in
      let n = g.inside in
      let m = le-mul_of_pos_right (suc (p * e + a)) (product-bounded es low high later) in
      let f = (seen b v g.view).header.counted.cells-most in
      omega arith

-- ---- the last dimension

module _ (b : List ℕ) (v : View) (e l : ℕ) (low : List ℕ) (h : ℕ) (high : List ℕ) (p : ℕ) (s : Filled) (room : ℕ)
    (g : BoxGoes b v (e ∷ []) (l ∷ low) (h ∷ high) p s room) where
  row : box_from p (e ∷ []) (l ∷ low) (h ∷ high) ≡ range (p * e + l) (h - l + 1)
  unfolding box_from
  row =
      let k = in_order b v e [] l low h high p s room g in
      let n : suc h - l ≡ h - l + 1 = omega arith in
      joined-row (p * e) l (suc h - l) ∙ ap (range (p * e + l)) n

  cells-row : product (e ∷ []) ≡ e
  unfolding product
  cells-row = mul-one e

  pub row_goes : RowGoes b v s (p * e + l) (h - l + 1) room
  row_goes =
      let k = in_order b v e [] l low h high p s room g in
      let x = in_extent b v e [] l low h high p s room g in
      let n = rw (cells-row, suc-mul p e) at g.inside in
      let z = rw (row, length-range (p * e + l) (h - l + 1)) at g.fits in
      record {
        view = g.view;
        ready = ready_later b v s.cursor (p * e) (p * e + l) (omega arith) (rw cells-row at g.ready);
        inside = omega arith;
        fits = z;
      }

  pub row-filled : (before : List ℕ) (r : Filled) (after : List ℕ) → RowFilled b v s (p * e + l) (h - l + 1) before r after
      → BoxFilled b v (e ∷ []) (l ∷ low) (h ∷ high) p s before r after
  row-filled before r after f =
      let k = in_order b v e [] l low h high p s room g in
      let x = in_extent b v e [] l low h high p s room g in
      let n : p * e + l + (h - l + 1) ≤ suc p * e = rw (suc-mul p e) (omega arith) in
      record {
        put = rw row f.put;
        words = rw (row, length-range (p * e + l) (h - l + 1)) f.words;
        ready = rw cells-row (ready_later b v r.cursor _ (suc p * e) n f.ready);
      }

-- ---- another dimension

module _ (b : List ℕ) (v : View) (e : ℕ) (es low high : List ℕ) (p h : ℕ) where
  -- the positions from coordinate a on
  abbrev rest : ℕ → List ℕ
  rest a = joined (λ c. box_from (p * e + c) es low high) (range a (suc h - a))

  pub record BoxLeft (l : ℕ) (s₀ : Filled) (dst₀ : List ℕ) (s : Filled) (dst : List ℕ) (a : ℕ) : Type 0 where
    pub least : l ≤ a
    pub most : a ≤ suc h
    pub size : length dst ≡ length dst₀
    pub words : s.words + length (rest a) ≡ s₀.words + length (rest l)
    pub put : put dst s.words (words_on b (rest a)) ≡ put dst₀ s₀.words (words_on b (rest l))
    pub ready : Ready b v s.cursor ((p * e + a) * product es)

  rest_cons : (a : ℕ) → a ≤ h → rest a ≡ box_from (p * e + a) es low high ++ rest (a + 1)
  unfolding range
  rest_cons a k =
      let m : suc h - a ≡ suc (suc h - (a + 1)) = omega arith in
      rw (m, add-one a)

  rest_none : (a : ℕ) → h < a → rest a ≡ []
  unfolding range
  rest_none a k = let m : suc h - a ≡ 0 = omega arith in rw m

  module _ (l : ℕ) (s₀ : Filled) (dst₀ : List ℕ) (g : BoxGoes b v (e ∷ es) (l ∷ low) (h ∷ high) p s₀ (length dst₀)) where
    pub box_start : BoxLeft l s₀ dst₀ s₀ dst₀ l
    unfolding product
    box_start =
        let k = in_order b v e es l low h high p s₀ (length dst₀) g in
        let m : p * (e * product es) ≤ (p * e + l) * product es
        = rw (← mul_assoc p e (product es)) (mul-le-mul_right (product es) (omega arith)) in
        record {
          least = le_refl l;
          most = omega arith;
          size = refl;
          words = refl;
          put = refl;
          ready = ready_later b v s₀.cursor _ _ m g.ready;
        }

    module _ (s : Filled) (dst : List ℕ) (a : ℕ) (w : BoxLeft l s₀ dst₀ s dst a) where
      pub box_down : a ≤ h → BoxGoes b v es low high (p * e + a) s (length dst)
      unfolding box_from
      box_down k =
          let n = within b v e es l low h high p s₀ (length dst₀) g a k in
          let i = g.inside in
          let f = g.fits in
          let q = w.words in
          let z = w.size in
          let c : length (rest a) ≡ length (box_from (p * e + a) es low high) + length (rest (a + 1))
          = ap length (rest_cons a k) ∙ length-append (box_from (p * e + a) es low high) (rest (a + 1)) in
          record {
            view = g.view;
            bounds = later b v e es l low h high p s₀ (length dst₀) g;
            ready = w.ready;
            inside = omega arith;
            fits = omega arith;
          }

      pub box_turn : a ≤ h → (r : Filled) (after : List ℕ) → BoxFilled b v es low high (p * e + a) s dst r after → BoxLeft l s₀ dst₀ r after (a + 1)
      box_turn k r after f =
          let this = box_from (p * e + a) es low high in
          let c = rest_cons a k in
          let n : length (rest a) ≡ length this + length (rest (a + 1)) = ap length c ∙ length-append this (rest (a + 1)) in
          let q = w.words in
          let x = f.words in
          let y = w.least in
          let t : put dst s.words (words_on b (rest a)) ≡ put after r.words (words_on b (rest (a + 1)))
          = ap (λ (z : List ℕ). put dst s.words z) (ap (words_on b) c ∙ words_append b this (rest (a + 1)))
          ∙ put-append dst s.words (words_on b this) (words_on b (rest (a + 1)))
          ∙ rw (length-words_on b this, ← x, ← f.put) in
          let m : suc (p * e + a) ≡ p * e + (a + 1) = omega arith in
          record {
            least = omega arith;
            most = omega arith;
            size = ap length f.put ∙ length-put dst s.words (words_on b this) ∙ w.size;
            words = omega arith;
            put = sym t ∙ w.put;
            ready = rw (← m) f.ready;
          }

      pub box_end : h < a → BoxFilled b v (e ∷ es) (l ∷ low) (h ∷ high) p s₀ dst₀ s dst
      unfolding box_from put words_on
      box_end k =
          let z = rest_none a k in
          let x = in_extent b v e es l low h high p s₀ (length dst₀) g in
          let y = w.most in
          record {
            put = rw z at w.put;
            words = sym (add-zero s.words) ∙ rw z at w.words;
            ready = ready_later b v s.cursor _ _ (edge a (omega arith)) w.ready;
          }
        where
          edge : (a : ℕ) → a ≤ e → (p * e + a) * product es ≤ suc p * product (e ∷ es)
          edge a y = unfold product in (rw (← mul_assoc (suc p) e (product es)) (mul-le-mul_right (product es) (rw (suc-mul p e) (omega arith))))
