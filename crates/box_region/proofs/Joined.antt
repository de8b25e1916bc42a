-- Lists joined over coordinates, and extents with bounds inside them. Assumes nothing.
use Prim.Native.Nat.{ℕ, zero, suc, ◌+◌, ◌≤◌}
use mathlib.Core.Path.{◌≡◌, refl, ap, ap₂, ◌∙◌}
use mathlib.Core.Bool.{true}
use mathlib.Core.List.{List, [], ◌∷◌, ◌++◌}
use native.Mathlib.Nat.{one-le-mul, le_refl}
use native.Mathlib.Omega.{arith}
use lib.Dec.{leb, ltb}
use borrow.Author.Tests.{ltb-true}
use Rattle.format.specs.Tools.{first, others, range, joined}
use Rattle.format.specs.Picture.{product}
use Rattle.laws.proofs.Tools.{both_true}
use Rattle.box_region.specs.Bounds.{bounded}

pub joined_same : (f g : ℕ → List ℕ) (xs : List ℕ) → ((c : ℕ) → f c ≡ g c) → joined f xs ≡ joined g xs
joined_same f g [] h = refl
joined_same f g (x ∷ xs) h = ap₂ (λ (a b : List ℕ). a ++ b) (h x) (joined_same f g xs h)

-- one position for each coordinate: a row
pub joined-row : (q a n : ℕ) → joined (λ c. (q + c) ∷ []) (range a n) ≡ range (q + a) n
unfolding range
joined-row q a zero = refl
joined-row q a (suc n) = ap (λ (l : List ℕ). (q + a) ∷ l) (joined-row q (suc a) n ∙ ap (λ (x : ℕ). range x n) (omega arith))

-- extents with bounds inside them are at least 1
pub product-bounded : (es low high : List ℕ) → bounded es low high ≡ true → 1 ≤ product es
unfolding bounded product
product-bounded [] low high h = le_refl 1
product-bounded (e ∷ es) low high h =
    let t = both_true (leb (first low) (first high)) _ h in
    let u = both_true (ltb (first high) e) _ t.1 in
    let k = ltb-true (first high) e u.0 in
    one-le-mul (omega arith) (product-bounded es (others low) (others high) u.1)
