-- Kind 3 as it is put out position by position: the bases and offsets by a count of the ranks that the present base still serves.
-- (The other kinds' definitions have this form already.) Assumes nothing.
use Prim.Native.Nat.{ℕ, zero, suc, ◌+◌, ◌-◌, ◌*◌, ◌/◌, ◌≤◌, ◌<◌}
use mathlib.Core.Path.{◌≡◌, refl, sym, ap, ◌∙◌}
use mathlib.Core.List.{List, [], ◌∷◌}
use native.Mathlib.Nat.{zero-div, suc-mul, zero-mul, zero-add, suc-add, sub-zero, suc-sub-suc, zero-sub, div-eq_of_lt, div-eq-sub-div}
use native.Mathlib.Numerals.{add-one}
use native.Mathlib.Omega.{arith}
use lib.ListN.{length, get_or}
use lib.Seq.{ext_get_or}
use lib.Dec.{ltb}
use borrow.Author.Tests.{ltb-true, ltb-false, lt-ltb, le-ltb}
use Rattle.format.specs.Tools.{pick, up_to}
use Rattle.format.specs.BaseOffset.{bases, offsets}
use Rattle.laws.proofs.Tools.{cases, length-listed, get_or_listed}
use Rattle.laws.proofs.Bounds.{up_to-suc, up_to-zero}
use Rattle.laws.proofs.Positions.{length-bases, length-offsets, get_or_bases, get_or_offsets}

-- k more positions belong to the present base
unfoldable pub bases_from : ℕ → ℕ → List ℕ → List ℕ
bases_from l k [] = []
bases_from l zero (p ∷ ls) = p ∷ bases_from l (l - 1) ls
bases_from l (suc k) (p ∷ ls) = bases_from l k ls

unfoldable pub offsets_from : ℕ → ℕ → ℕ → List ℕ → List ℕ
offsets_from l k base [] = []
offsets_from l zero base (p ∷ ls) = 0 ∷ offsets_from l (l - 1) p ls
offsets_from l (suc k) base (p ∷ ls) = (p - base) ∷ offsets_from l k base ls

length_bases_from : (l k : ℕ) (ls : List ℕ) → 1 ≤ l → length (bases_from l k ls) ≡ up_to (length ls - k) l
unfolding bases_from
length_bases_from l k [] h = rw (zero-sub k) (sym (up_to-zero l h))
length_bases_from l zero (p ∷ ls) h = rw sub-zero (ap suc (length_bases_from l (l - 1) ls h) ∙ sym (up_to-suc (length ls) l h))
length_bases_from l (suc k) (p ∷ ls) h = rw suc-sub-suc (length_bases_from l k ls h)

base-at : (l k : ℕ) (ls : List ℕ) (j : ℕ) → 1 ≤ l → get_or (bases_from l k ls) j 0 ≡ get_or ls (k + j * l) 0
unfolding bases_from
base-at l k [] j h = refl
base-at l zero (p ∷ ls) zero h = let e : 0 + 0 * l ≡ 0 = omega (arith, zero-mul l) in rw e
base-at l zero (p ∷ ls) (suc j) h =
    let e : 0 + suc j * l ≡ suc (l - 1 + j * l) = omega (arith, suc-mul j l) in
    rw e (base-at l (l - 1) ls j h)
base-at l (suc k) (p ∷ ls) j h = rw (suc-add k (j * l)) (base-at l k ls j h)

pub bases_stream : (l : ℕ) (ls : List ℕ) → 1 ≤ l → bases l ls ≡ bases_from l 0 ls
unfolding bases
bases_stream l ls h =
    let n : length (bases l ls) ≡ length (bases_from l 0 ls) = length-bases l ls ∙ sym (rw sub-zero at (length_bases_from l 0 ls h)) in
    ext_get_or 0 (bases l ls) (bases_from l 0 ls) n
    (λ i k.
    get_or_listed (up_to (length ls) l) (λ j. get_or ls (j * l) 0) i (rw length-listed at k)
    ∙ ap (λ (m : ℕ). get_or ls m 0) (sym (zero-add (i * l)))
    ∙ sym (base-at l 0 ls i h))

length_offsets_from : (l k base : ℕ) (ls : List ℕ) → length (offsets_from l k base ls) ≡ length ls
unfolding offsets_from
length_offsets_from l k base [] = refl
length_offsets_from l zero base (p ∷ ls) = ap suc (length_offsets_from l (l - 1) p ls)
length_offsets_from l (suc k) base (p ∷ ls) = ap suc (length_offsets_from l k base ls)

-- the base at index i, k more positions belonging to the present one
base_for : ℕ → ℕ → ℕ → List ℕ → ℕ → ℕ
base_for l k base ls i = pick (ltb i k) base (get_or ls (k + (i - k) / l * l) 0)

base_now : (l base p : ℕ) (ls : List ℕ) → base_for l 0 base (p ∷ ls) 0 ≡ p
unfolding base_for
base_now l base p ls = let e : 0 + 0 / l * l ≡ 0 = rw (zero-div l, zero-mul l) in rw e

base_kept : (l k base p : ℕ) (ls : List ℕ) → base_for l (suc k) base (p ∷ ls) 0 ≡ base
unfolding base_for
base_kept l k base p ls = rw (lt-ltb 0 (suc k) (omega arith))

base_shift : (l k base p i : ℕ) (ls : List ℕ) → base_for l (suc k) base (p ∷ ls) (suc i) ≡ base_for l k base ls i
unfolding base_for
base_shift l k base p i ls =
    cases (ltb i k)
    (λ e. let t = ltb-true i k e in rw (e, lt-ltb (suc i) (suc k) (omega arith)))
    (λ e. let t = ltb-false i k e in rw (e, le-ltb (suc i) (suc k) (omega arith), suc-sub-suc i k, suc-add k ((i - k) / l * l)))

base-next : (l base p i : ℕ) (ls : List ℕ) → 1 ≤ l → base_for l 0 base (p ∷ ls) (suc i) ≡ base_for l (l - 1) p ls i
unfolding base_for
base-next l base p i ls h =
    cases (ltb i (l - 1))
    (λ e.
    let t = ltb-true i (l - 1) e in
    let u : suc i < l = omega arith in
    let z : 0 + (suc i - 0) / l * l ≡ 0 = rw (sub-zero, div-eq_of_lt u, zero-mul l) in
    rw (e, le-ltb (suc i) 0 (omega arith), z))
    (λ e.
    let t = ltb-false i (l - 1) e in
    let u : l ≤ suc i = omega arith in
    let w : suc i - l ≡ i - (l - 1) = omega arith in
    let q : suc i / l ≡ suc ((i - (l - 1)) / l) = div-eq-sub-div h u ∙ rw (w, add-one) in
    let z : 0 + (suc i - 0) / l * l ≡ suc (l - 1 + (i - (l - 1)) / l * l) = rw (sub-zero, q, suc-mul) (omega arith) in
    rw (e, le-ltb (suc i) 0 (omega arith), z))

offset_at_lem : (l k base : ℕ) (ls : List ℕ) (i : ℕ) → 1 ≤ l → i < length ls → get_or (offsets_from l k base ls) i 0 ≡ get_or ls i 0 - base_for l k base ls i
unfolding offsets_from
offset_at_lem l k base [] i h n = absurd (omega arith)
offset_at_lem l zero base (p ∷ ls) zero h n = rw (base_now l base p ls) (omega arith)
offset_at_lem l zero base (p ∷ ls) (suc i) h n = rw (base-next l base p i ls h) (offset_at_lem l (l - 1) p ls i h (omega arith))
offset_at_lem l (suc k) base (p ∷ ls) zero h n = rw (base_kept l k base p ls)
offset_at_lem l (suc k) base (p ∷ ls) (suc i) h n = rw (base_shift l k base p i ls) (offset_at_lem l k base ls i h (omega arith))

pub offsets_stream : (l : ℕ) (ls : List ℕ) → 1 ≤ l → offsets l ls ≡ offsets_from l 0 0 ls
unfolding base_for
offsets_stream l ls h =
    ext_get_or 0 (offsets l ls) (offsets_from l 0 0 ls) (length-offsets l ls ∙ sym (length_offsets_from l 0 0 ls))
    (λ i k.
    let n : i < length ls = rw length-offsets at k in
    let z : 0 + (i - 0) / l * l ≡ i / l * l = rw (sub-zero) (omega arith) in
    let e : base_for l 0 0 ls i ≡ get_or ls (i / l * l) 0 = rw (le-ltb i 0 (omega arith), z) in
    get_or_offsets l ls i n ∙ ap (λ (x : ℕ). get_or ls i 0 - x) (get_or_bases l ls i h n ∙ sym e) ∙ sym (offset_at_lem l 0 0 ls i h n))
