-- The check rank by rank: k more ranks belong to the present base. Assumes nothing.
use Rattle.std.proofs.Common.{◌≡◌, ℕ, zero, suc, ◌+◌, ◌-◌, ◌≤◌, Bool, true, eqb, leb, List, [], ◌∷◌, length, sym, refl, ap, ap₂, arith, eqb-true, leb-true}
use native.Mathlib.Nat.{zero-sub, sub-zero, suc-sub-suc, add-sub_cancel_left}
use Rattle.format.specs.Tools.{both, first, others, up_to}
use Rattle.laws.proofs.Tools.{both_true, both_make}
use Rattle.laws.proofs.Bounds.{up_to-suc, up_to-zero}
use Rattle.laws.proofs.Streams.{bases_from, offsets_from}
use Rattle.base_groups.proofs.Climb.{climbs}

-- the positions that bases and offsets say
unfoldable pub based_from : ℕ → ℕ → ℕ → List ℕ → List ℕ → List ℕ
based_from l k base bs [] = []
based_from l zero base bs (o ∷ os) = first bs ∷ based_from l (l - 1) (first bs) (others bs) os
based_from l (suc k) base bs (o ∷ os) = (base + o) ∷ based_from l k base bs os

-- at a base's own rank the offset is 0; each position is above the one before, the first is at least `least`, and the last is below `bound`
unfoldable pub ranks_right : ℕ → ℕ → ℕ → ℕ → ℕ → List ℕ → List ℕ → Bool
ranks_right l k base least bound bs [] = leb least bound
ranks_right l zero base least bound bs (o ∷ os) =
    both (eqb o 0) (both (leb least (first bs)) (ranks_right l (l - 1) (first bs) (suc (first bs)) bound (others bs) os))
ranks_right l (suc k) base least bound bs (o ∷ os) =
    both (leb least (base + o)) (ranks_right l k base (suc (base + o)) bound bs os)

-- ---- the number of bases

pub no_base : (l k : ℕ) (bs : List ℕ) → 1 ≤ l → length bs ≡ up_to (0 - k) l → bs ≡ []
no_base l k [] h e = refl
no_base l k (x ∷ bs) h e = absurd (omega (arith, up_to-zero l h, rw (zero-sub k) at e))

pub next-bases : (l n base : ℕ) (bs : List ℕ) → 1 ≤ l → length (base ∷ bs) ≡ up_to (suc n - 0) l → length bs ≡ up_to (n - (l - 1)) l
next-bases l n base bs h e = let z : suc (length bs) ≡ up_to (suc n) l = rw (sub-zero (suc n)) at e in omega (arith, up_to-suc n l h)

pub some-base : (l n : ℕ) → 1 ≤ l → 0 ≡ up_to (suc n - 0) l → ⊥
some-base l n h e = let z : 0 ≡ up_to (suc n) l = rw (sub-zero (suc n)) at e in omega (arith, up_to-suc n l h)

-- ---- what is checked has these bases and offsets, and rises

pub record Sound (l k base least bound : ℕ) (bs os ls : List ℕ) : Type 0 where
  pub rise : climbs least bound ls ≡ true
  pub bases : bases_from l k ls ≡ bs
  pub offsets : offsets_from l k base ls ≡ os

pub sound : (l k base least bound : ℕ) (bs os : List ℕ) → 1 ≤ l → length bs ≡ up_to (length os - k) l → ranks_right l k base least bound bs os ≡ true
    → Sound l k base least bound bs os (based_from l k base bs os)
unfolding based_from ranks_right climbs bases_from offsets_from
sound l k base least bound bs [] h e t = record { rise = t; bases = sym (no_base l k bs h e); offsets = refl }
sound l zero base least bound [] (o ∷ os) h e t = absurd (some-base l (length os) h e)
sound l zero base least bound (p ∷ bs) (o ∷ os) h e t =
    let t1 = both_true (eqb o 0) _ t in
    let t2 = both_true (leb least p) _ t1.1 in
    let s = sound l (l - 1) p (suc p) bound bs os h (next-bases l (length os) p bs h e) t2.1 in
    record {
      rise = both_make (leb least p) _ t2.0 s.rise;
      bases = ap (λ (x : List ℕ). p ∷ x) s.bases;
      offsets = ap₂ (λ (x : ℕ) (y : List ℕ). x ∷ y) (sym (eqb-true o 0 t1.0)) s.offsets;
    }
sound l (suc k) base least bound bs (o ∷ os) h e t =
    let t1 = both_true (leb least (base + o)) _ t in
    let s = sound l k base (suc (base + o)) bound bs os h (rw (suc-sub-suc (length os) k) at e) t1.1 in
    record {
      rise = both_make (leb least (base + o)) _ t1.0 s.rise;
      bases = s.bases;
      offsets = ap₂ (λ (x : ℕ) (y : List ℕ). x ∷ y) (add-sub_cancel_left base o) s.offsets;
    }

-- ---- the bases and offsets of what rises are accepted

pub complete : (l k base least bound : ℕ) (ls : List ℕ) → base ≤ least → climbs least bound ls ≡ true
    → ranks_right l k base least bound (bases_from l k ls) (offsets_from l k base ls) ≡ true
unfolding ranks_right climbs bases_from offsets_from
complete l k base least bound [] h t = t
complete l zero base least bound (p ∷ ls) h t =
    let t1 = both_true (leb least p) _ t in
    both_make (leb least p) _ t1.0 (complete l (l - 1) p (suc p) bound ls (omega arith) t1.1)
complete l (suc k) base least bound (p ∷ ls) h t =
    let t1 = both_true (leb least p) _ t in
    let g = leb-true least p t1.0 in
    let e : base + (p - base) ≡ p = omega arith in
    rw e (both_make (leb least p) _ t1.0 (complete l k base (suc p) bound ls (omega arith) t1.1))
