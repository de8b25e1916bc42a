-- Coordinates and positions are inverse. Assumes nothing.
use Prim.Native.Nat.{ℕ, zero, suc, ◌+◌, ◌*◌, ◌/◌, ◌%◌, ◌<◌}
use mathlib.Core.Path.{◌≡◌, refl, sym, ap, ◌∙◌}
use mathlib.Core.Bool.{true}
use mathlib.Core.List.{List, [], ◌∷◌}
use native.Mathlib.Nat.{mul-zero, zero-lt-suc, mul-one, mul_assoc, add-mul, zero-mul, div-add-mod', mod-lt, div-lt_iff_lt-mul, mod-eq_of_lt}
use native.Mathlib.Omega.{arith}
use lib.ListN.{length}
use lib.Arith.{digits_div, digits_mod, digits_lt}
use lib.Dec.{ltb, eqb}
use borrow.Author.Tests.{ltb-true, lt-ltb, eqb-true, eq-eqb}
use Rattle.format.specs.Tools.{first, others}
use Rattle.format.specs.declared.Dimensions.{Dimensions}
use Rattle.format.specs.Picture.{most_dimensions, product, cells, dimensions_allowed, row_order, position_at, inside_extents, inside, coordinates_from, coordinates_at}
use Rattle.laws.proofs.Tools.{both_true, both_make}
use Rattle.laws.proofs.Limits.{small-dims}

row_shift : (p : ℕ) (es cs : List ℕ) → row_order p es cs ≡ p * product es + row_order 0 es cs
unfolding row_order product
row_shift p [] cs = omega (arith, mul-one p)
row_shift p (e ∷ es) cs =
    let f : ℕ = first cs in
    let z : 0 * e + f ≡ f = omega (arith, zero-mul e) in
    let d : (p * e + f) * product es ≡ p * (e * product es) + f * product es = add-mul (p * e) f (product es) ∙ ap (λ (x : ℕ). x + f * product es) (mul_assoc p e (product es)) in
    rw (z, row_shift (p * e + f) es (others cs), row_shift f es (others cs)) (omega arith)

row_cons : (e : ℕ) (es cs : List ℕ) → row_order 0 (e ∷ es) cs ≡ first cs * product es + row_order 0 es (others cs)
unfolding row_order
row_cons e es cs =
    let z : 0 * e + first cs ≡ first cs = omega (arith, zero-mul e) in
    rw z (row_shift (first cs) es (others cs))

row_below : (es cs : List ℕ) → inside_extents es cs ≡ true → row_order 0 es cs < product es
unfolding product inside_extents
row_below [] cs h = unfold row_order in (omega arith)
row_below (e ∷ es) cs h =
    let t = both_true (ltb (first cs) e) (inside_extents es (others cs)) h in
    rw (row_cons e es cs) (digits_lt (ltb-true (first cs) e t.0) (row_below es (others cs) t.1))

pub coordinates-back : (es cs : List ℕ) → length cs ≡ length es → inside_extents es cs ≡ true → coordinates_from es (row_order 0 es cs) ≡ cs
unfolding coordinates_from inside_extents
coordinates-back [] [] n h = refl
coordinates-back [] (c ∷ cs) n h = absurd (omega arith)
coordinates-back (e ∷ es) [] n h = absurd (omega arith)
coordinates-back (e ∷ es) (c ∷ cs) n h =
    let t = both_true (ltb c e) (inside_extents es cs) h in
    let b = row_below es cs t.1 in
    rw (row_cons e es (c ∷ cs), digits_div c b, digits_mod c b, mod-eq_of_lt (ltb-true c e t.0), coordinates-back es cs (omega arith) t.1)

factor_pos : (e m p : ℕ) → p < e * m → 0 < m
factor_pos e zero p h = absurd (omega (arith, mul-zero e))
factor_pos e (suc m) p h = zero-lt-suc m

pub position-back : (es : List ℕ) (p : ℕ) → p < product es → row_order 0 es (coordinates_from es p) ≡ p
unfolding coordinates_from product
position-back [] p h = unfold row_order product in (omega arith)
position-back (e ∷ es) p h =
    let m : 0 < product es = factor_pos e (product es) p h in
    let q : p / product es < e = (div-lt_iff_lt-mul m).1 h in
    rw (row_cons e es (p / product es % e ∷ coordinates_from es (p % product es)), mod-eq_of_lt q, position-back es (p % product es) (mod-lt p m))
    (div-add-mod' p (product es))

-- ---- of a picture

-- the coordinates of the position of coordinates
pub coordinates_of_position : (d : Dimensions) (cs : List ℕ) → dimensions_allowed d ≡ true → inside d cs ≡ true → coordinates_at d (position_at d cs) ≡ cs
unfolding inside coordinates_at position_at
coordinates_of_position d cs a h =
    let t = both_true (eqb (length cs) most_dimensions) (inside_extents d.extents cs) h in
    coordinates-back d.extents cs (eqb-true (length cs) most_dimensions t.0 ∙ sym (small-dims d a).extents.four) t.1

-- the position of the coordinates of a position
pub position_of_coordinates : (d : Dimensions) (p : ℕ) → p < cells d → position_at d (coordinates_at d p) ≡ p
unfolding coordinates_at position_at cells
position_of_coordinates d p h = position-back d.extents p h

-- and each lies inside
pub position-inside : (d : Dimensions) (cs : List ℕ) → inside d cs ≡ true → position_at d cs < cells d
unfolding inside position_at cells
position-inside d cs h = row_below d.extents cs (both_true (eqb (length cs) most_dimensions) (inside_extents d.extents cs) h).1

length-coordinates : (es : List ℕ) (p : ℕ) → length (coordinates_from es p) ≡ length es
unfolding coordinates_from
length-coordinates [] p = refl
length-coordinates (e ∷ es) p = ap suc (length-coordinates es (p % product es))

inside-coordinates : (es : List ℕ) (p : ℕ) → p < product es → inside_extents es (coordinates_from es p) ≡ true
unfolding coordinates_from inside_extents product
inside-coordinates [] p h = refl
inside-coordinates (e ∷ es) p h =
    let m : 0 < product es = factor_pos e (product es) p h in
    let q : p / product es < e = (div-lt_iff_lt-mul m).1 h in
    both_make (ltb (p / product es % e) e) (inside_extents es (coordinates_from es (p % product es)))
    (lt-ltb (p / product es % e) e (mod-lt (p / product es) (omega arith))) (inside-coordinates es (p % product es) (mod-lt p m))

pub coordinates-inside : (d : Dimensions) (p : ℕ) → dimensions_allowed d ≡ true → p < cells d → inside d (coordinates_at d p) ≡ true
unfolding inside coordinates_at cells
coordinates-inside d p a h =
    both_make (eqb (length (coordinates_at d p)) most_dimensions) (inside_extents d.extents (coordinates_at d p))
    (eq-eqb _ most_dimensions (length-coordinates d.extents p ∙ (small-dims d a).extents.four)) (inside-coordinates d.extents p h)
