-- The header's numbers fit their fields: bounds of allowed dimensions. Assumes nothing.
use Prim.Native.Nat.{ℕ, zero, suc, ◌*◌, ◌^◌, ◌≤◌, ◌<◌}
use mathlib.Core.Path.{◌≡◌, refl}
use mathlib.Core.Bool.{true}
use mathlib.Core.List.{List, [], ◌∷◌}
use native.Mathlib.Nat.{le_refl, one-le-mul, mul_comm, le-mul_of_pos_right}
use native.Mathlib.Omega.{arith}
use lib.ListN.{length, take, drop}
use lib.Dec.{eqb, leb}
use borrow.Author.Tests.{eqb-true, leb-true, le-leb}
use Rattle.format.specs.Tools.{Below, within, every}
use Rattle.format.specs.declared.Dimensions.{Dimensions}
use Rattle.format.specs.Picture.{product, cells, dimensions_allowed, most_cells, most_dimensions}
use Rattle.laws.proofs.Tools.{both_true, both_make, within_true}

-- each extent is at least 1
every-take-drop : (n : ℕ) (es : List ℕ) → every (leb 1) (take n es) ≡ true → every (eqb 1) (drop n es) ≡ true → every (leb 1) es ≡ true
every-take-drop zero [] p q = refl
every-take-drop zero (e ∷ es) p q =
    let t = both_true (eqb 1 e) (every (eqb 1) es) q in
    both_make (leb 1 e) (every (leb 1) es) (le-leb 1 e (omega (arith, eqb-true 1 e t.0))) (every-take-drop zero es refl t.1)
every-take-drop (suc n) [] p q = refl
every-take-drop (suc n) (e ∷ es) p q =
    let t = both_true (leb 1 e) (every (leb 1) (take n es)) p in
    both_make (leb 1 e) (every (leb 1) es) t.0 (every-take-drop n es t.1 q)

product-least : (es : List ℕ) → every (leb 1) es ≡ true → 1 ≤ product es
unfolding product
product-least [] h = le_refl 1
product-least (e ∷ es) h =
    let t = both_true (leb 1 e) (every (leb 1) es) h in
    one-le-mul (leb-true 1 e t.0) (product-least es t.1)

extent_most : (M : ℕ) (es : List ℕ) → every (leb 1) es ≡ true → product es < M → Below M es
unfolding product
extent_most M [] h k = tt
extent_most M (e ∷ es) h k =
    let t = both_true (leb 1 e) (every (leb 1) es) h in
    let a : 1 ≤ e = leb-true 1 e t.0 in
    let p : 1 ≤ product es = product-least es t.1 in
    let m1 : e ≤ e * product es = le-mul_of_pos_right e p in
    let m2 : product es ≤ e * product es = rw (mul_comm e (product es)) (le-mul_of_pos_right (product es) a) in
    (omega arith, extent_most M es t.1 (omega arith))

-- the extents fit the header's four fields
pub record FourExtents (d : Dimensions) : Type 0 where
  pub four : length d.extents ≡ most_dimensions
  pub small : Below (256 ^ 4) d.extents

pub record SmallDims (d : Dimensions) : Type 0 where
  pub count : d.count ≤ most_dimensions
  pub extents : FourExtents d
  pub most : cells d ≤ most_cells

pub small-dims : (d : Dimensions) → dimensions_allowed d ≡ true → SmallDims d
unfolding dimensions_allowed cells
small-dims d h =
    let t1 = both_true (within 1 4 d.count) _ h in
    let t2 = both_true (eqb (length d.extents) 4) _ t1.1 in
    let t3 = both_true (every (leb 1) (take d.count d.extents)) _ t2.1 in
    let t4 = both_true (every (eqb 1) (drop d.count d.extents)) _ t3.1 in
    let m = leb-true (product d.extents) most_cells t4.1 in
    record {
      count = (within_true 1 4 d.count t1.0).1;
      extents =
          record {
            four = eqb-true (length d.extents) 4 t2.0;
            small = extent_most (256 ^ 4) d.extents (every-take-drop d.count d.extents t3.0 t4.0) (omega arith);
          };
      most = m;
    }
