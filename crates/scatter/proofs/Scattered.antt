-- Stored words scattered over empty cells are the picture's words. Assumes nothing.
use Prim.Native.Nat.{ℕ, zero, suc, ◌+◌, ◌≤◌}
use mathlib.Core.Path.{◌≡◌, refl, sym, ap, ◌∙◌}
use mathlib.Core.List.{List, [], ◌∷◌, ◌++◌, append_assoc}
use native.Mathlib.Omega.{arith}
use lib.Arith.{lt_of_le-ne}
use lib.ListN.{length, set, replicate, length-append, length-set}
use lib.Dec.{eqb}
use borrow.Author.Tests.{eqb-true, eqb-false}
use Rattle.format.specs.Tools.{first, others}
use Rattle.format.specs.Stored.{placed_from, placed}
use Rattle.laws.proofs.Tools.{cases}
use Rattle.laws.proofs.Stored.{Rising}
use Rattle.scatter.specs.Scatter.{scattered}

-- an element set just after a beginning
pub set_seam : (pre : List ℕ) (p x y : ℕ) (rest : List ℕ) → length pre ≡ p → set (pre ++ (x ∷ rest)) p y ≡ pre ++ (y ∷ rest)
set_seam [] zero x y rest e = refl
set_seam [] (suc p) x y rest e = absurd (omega arith)
set_seam (z ∷ pre) zero x y rest e = absurd (omega arith)
set_seam (z ∷ pre) (suc p) x y rest e = ap (λ (l : List ℕ). z ∷ l) (set_seam pre p x y rest (omega arith))

pub length_snoc : (pre : List ℕ) (x p : ℕ) → length pre ≡ p → length (pre ++ (x ∷ [])) ≡ suc p
length_snoc pre x p e = rw (length-append pre (x ∷ [])) (omega arith)

-- one cell after a beginning of p cells
one_on : (pre : List ℕ) (x : ℕ) (rest : List ℕ) → pre ++ (x ∷ rest) ≡ (pre ++ (x ∷ [])) ++ rest
one_on pre x rest = sym (append_assoc pre (x ∷ []) rest)

pub scatter_from : (E p n : ℕ) (pre rest ls vs : List ℕ) → length pre ≡ p → Rising p (p + n) ls
    → scattered (pre ++ (replicate n E ++ rest)) ls vs ≡ pre ++ (placed_from E p n ls vs ++ rest)
unfolding placed_from scattered
scatter_from E p zero pre rest [] vs e r = refl
scatter_from E p zero pre rest (l ∷ ls) vs e r = absurd (omega arith)
scatter_from E p (suc n) pre rest [] vs e r =
    one_on pre E (replicate n E ++ rest)
    ∙ scatter_from E (suc p) n (pre ++ (E ∷ [])) rest [] vs (length_snoc pre E p e) tt
    ∙ sym (one_on pre E (placed_from E (suc p) n [] vs ++ rest))
scatter_from E p (suc n) pre rest (l ∷ ls) vs e r =
    let m : p + suc n ≡ suc p + n = omega arith in
    cases (eqb l p)
    (λ t.
    let q : l ≡ p = eqb-true l p t in
    rw (t, q, set_seam pre p E (first vs) (replicate n E ++ rest) e)
    (ap (λ (d : List ℕ). scattered d ls (others vs)) (one_on pre (first vs) (replicate n E ++ rest))
    ∙ scatter_from E (suc p) n (pre ++ (first vs ∷ [])) rest ls (others vs) (length_snoc pre (first vs) p e) (rw (m, q) at r.2)
    ∙ sym (one_on pre (first vs) (placed_from E (suc p) n ls (others vs) ++ rest))))
    (λ t.
    let a : suc p ≤ l = lt_of_le-ne r.0 (λ z. eqb-false l p t (sym z)) in
    let s : Rising (suc p) (suc p + n) (l ∷ ls) = (a, (omega arith), (rw m at r.2)) in
    rw t
    (ap (λ (d : List ℕ). scattered d (l ∷ ls) vs) (one_on pre E (replicate n E ++ rest))
    ∙ scatter_from E (suc p) n (pre ++ (E ∷ [])) rest (l ∷ ls) vs (length_snoc pre E p e) s
    ∙ sym (one_on pre E (placed_from E (suc p) n (l ∷ ls) vs ++ rest))))

pub scatter_placed : (E n : ℕ) (rest ls vs : List ℕ) → Rising 0 n ls → scattered (replicate n E ++ rest) ls vs ≡ placed E n ls vs ++ rest
unfolding placed
scatter_placed E n rest ls vs r = scatter_from E 0 n [] rest ls vs refl (rw (native.Mathlib.Nat.zero-add n) r)

pub length-scattered : (d ls vs : List ℕ) → length (scattered d ls vs) ≡ length d
unfolding scattered
length-scattered d [] vs = refl
length-scattered d (l ∷ ls) vs = length-scattered (set d l (first vs)) ls (others vs) ∙ length-set d l (first vs)
