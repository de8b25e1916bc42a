-- The pairs of the first part as runs, by their place in the file; two small tools. Assumes nothing.
use Rattle.std.proofs.Common.{◌≡◌, ℕ, zero, suc, ◌+◌, ◌*◌, true, false, List, [], ◌∷◌, length, drop, refl, ap, arith, drop-drop}
use Rattle.format.specs.Bytes.{field, numbers_of}
use Rattle.format.specs.Runs.{Run, flat_runs, runs_in}

pub unlike : false ≡ true → ⊥
unlike e = let z : ◌≡◌ {A = ℕ} 0 1 = cc in omega arith

-- the pair at a place
abbrev pub pair_at : ℕ → List ℕ → Run
pair_at at b = record { last = field 4 at b; empty = field 4 (at + 4) b }

-- n pairs, the first at a place
unfoldable pub pairs : ℕ → ℕ → List ℕ → List Run
pairs n at b = runs_in (numbers_of 4 (2 * n) (drop at b))

pub pairs_none : (at : ℕ) (b : List ℕ) → pairs 0 at b ≡ []
unfolding pairs numbers_of runs_in
pairs_none at b = refl

numbers-two : (n at : ℕ) (b : List ℕ) → numbers_of 4 (2 * suc n) (drop at b) ≡ field 4 at b ∷ field 4 (at + 4) b ∷ numbers_of 4 (2 * n) (drop (at + 8) b)
unfolding numbers_of field
numbers-two n at b =
    let e : 2 * suc n ≡ suc (suc (2 * n)) = omega arith in
    let s : at + 4 + 4 ≡ at + 8 = omega arith in
    rw (e, numbers_of, drop-drop 4 at b, drop-drop 4 (at + 4) b, s)

pub pairs_cons : (n at : ℕ) (b : List ℕ) → pairs (suc n) at b ≡ pair_at at b ∷ pairs n (at + 8) b
unfolding pairs runs_in
pairs_cons n at b = ap runs_in (numbers-two n at b)

pub length_pairs : (n at : ℕ) (b : List ℕ) → length (pairs n at b) ≡ n
length_pairs zero at b = rw (pairs_none at b)
length_pairs (suc n) at b = rw (pairs_cons n at b) (ap suc (length_pairs n (at + 8) b))

-- the numbers two by two again
pub flat_pairs : (n at : ℕ) (b : List ℕ) → flat_runs (pairs n at b) ≡ numbers_of 4 (2 * n) (drop at b)
unfolding flat_runs
flat_pairs zero at b = rw (pairs_none at b) (unfold numbers_of in refl)
flat_pairs (suc n) at b =
    rw (pairs_cons n at b, numbers-two n at b) (ap (λ (l : List ℕ). field 4 at b ∷ field 4 (at + 4) b ∷ l) (flat_pairs n (at + 8) b))
