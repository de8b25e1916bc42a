-- Positions that are far from the one before: a loop that counts them, and one that lists the ends of runs. Assumes nothing.
use Rattle.std.proofs.Common.{◌≡◌, ℕ, zero, suc, ◌+◌, ◌-◌, ◌<◌, ◌≤◌, leb, List, [], ◌∷◌, ◌++◌, length, get_or, take, drop, set, refl, append-nil, zero-add, arith, length-drop, drop-cons, take-suc-set}
use lib.Seq.{take-set-le, append_snoc}
use Rattle.format.specs.Tools.{pick}
use Rattle.laws.proofs.Tools.{cases}
use Rattle.rises.specs.Falls.{fallen}
use Rattle.rises.specs.Far.{far_after, far, ends_after, ends_of}

-- ---- how many

pub far-short : (most : ℕ) (ls : List ℕ) → length ls ≤ 1 → far most ls ≡ 0
unfolding far far_after
far-short most [] h = refl
far-short most (p ∷ []) h = refl
far-short most (p ∷ q ∷ ls) h = absurd (omega arith)

pub far_turn : (most : ℕ) (ps : List ℕ) (i count r : ℕ) → i + 1 < length ps → r ≡ fallen (leb (get_or ps (i + 1) 0 - get_or ps i 0) most)
    → count + r + far most (drop (i + 1) ps) ≡ count + far most (drop i ps)
unfolding far far_after
far_turn most ps i count r h e =
    let s : i + 1 ≡ suc i = omega arith in
    rw (e, s, drop-cons ps i 0 (omega arith), drop-cons ps (suc i) 0 (omega arith)) (omega arith)

-- ---- which

-- the ends among the positions from the index i on
unfoldable pub ends_from : ℕ → List ℕ → List ℕ
ends_from i [] = []
ends_from i (p ∷ ls) = ends_after i p ls

ends-short : (i : ℕ) (ls : List ℕ) → length ls ≤ 1 → ends_from i ls ≡ []
unfolding ends_from ends_after
ends-short i [] h = refl
ends-short i (p ∷ []) h = refl
ends-short i (p ∷ q ∷ ls) h = absurd (omega arith)

-- those listed so far, then those from the index before i on
unfoldable pub ends_listed : List ℕ → List ℕ → ℕ → ℕ → List ℕ
ends_listed ps out n i = take n out ++ ends_from (i - 1) (drop (i - 1) ps)

pub ends_begin : (ps out : List ℕ) → ends_listed ps out 0 1 ≡ ends_of ps
unfolding ends_listed ends_from ends_of
ends_begin [] out = refl
ends_begin (p ∷ ls) out = refl

ends_next : (ps : List ℕ) (j : ℕ) → suc j < length ps
    → ends_from j (drop j ps) ≡ pick (leb (get_or ps (suc j) 0 - get_or ps j 0) 1) (ends_from (suc j) (drop (suc j) ps)) (j ∷ ends_from (suc j) (drop (suc j) ps))
unfolding ends_from ends_after
ends_next ps j h =
    let s : j + 1 ≡ suc j = omega arith in
    rw (drop-cons ps j 0 (omega arith), drop-cons ps (suc j) 0 h, s)

pub ends_turn : (ps out : List ℕ) (n i r : ℕ) → 1 ≤ i → i < length ps → n < length out → r ≡ fallen (leb (get_or ps i 0 - get_or ps (i - 1) 0) 1)
    → ends_listed ps (set out n (i - 1)) (n + r) (i + 1) ≡ ends_listed ps out n i
unfolding ends_listed fallen
ends_turn ps out n zero r k h o e = absurd (omega arith)
ends_turn ps out n (suc j) r k h o e =
    let s : suc j + 1 - 1 ≡ suc j = omega arith in
    let m : suc j - 1 ≡ j = omega arith in
    let rest : List ℕ = ends_from (suc j) (drop (suc j) ps) in
    cases (leb (get_or ps (suc j) 0 - get_or ps j 0) 1)
    (λ t.
    let z : n + r ≡ n = omega (arith, (rw (m, t) at e)) in
    rw (s, m, z, take-set-le n out n j (omega arith), ends_next ps j h, t))
    (λ t.
    let z : n + r ≡ suc n = omega (arith, (rw (m, t) at e)) in
    rw (s, m, z, take-suc-set out n j o, ends_next ps j h, t) (append_snoc (take n out) j rest))

pub ends-end : (ps out : List ℕ) (n i : ℕ) → 1 ≤ i → length ps ≤ i → ends_listed ps out n i ≡ take n out
unfolding ends_listed
ends-end ps out n i k h =
    let m : length (drop (i - 1) ps) ≤ 1 = omega (arith, length-drop (i - 1) ps) in
    rw (ends-short (i - 1) (drop (i - 1) ps) m) (append-nil (take n out))

-- ---- as many

ends-count : (i p : ℕ) (ls : List ℕ) → length (ends_after i p ls) ≡ far_after 1 p ls
unfolding ends_after far_after fallen
ends-count i p [] = refl
ends-count i p (q ∷ ls) =
    cases (leb (q - p) 1)
    (λ t. rw (t, zero-add (far_after 1 q ls)) (ends-count (i + 1) q ls))
    (λ t. rw (t, ends-count (i + 1) q ls) (omega arith))

pub length-ends : (ps : List ℕ) → length (ends_of ps) ≡ far 1 ps
unfolding ends_of far
length-ends [] = refl
length-ends (p ∷ ls) = ends-count 0 p ls
