-- For each kind: the positions come back from its parts. Assumes nothing.
use Prim.Native.Nat.{ℕ, zero, suc, ◌+◌, ◌-◌, ◌*◌, ◌/◌, ◌^◌, ◌≤◌, ◌<◌}
use mathlib.Core.Path.{◌≡◌, refl, sym, ap, ◌∙◌}
use mathlib.Core.List.{List, [], ◌∷◌, ◌++◌}
use native.Mathlib.Nat.{le_refl, add-sub_of_le, div-mul-le_self, add-sub_cancel_left}
use native.Mathlib.Omega.{arith}
use lib.ListN.{length, get_or}
use lib.Seq.{ext_get_or, append_snoc}
use lib.Dec.{eqb, leb}
use lib.Arith.{lt_of_le-ne}
use borrow.Author.Tests.{eqb-true, eqb-false}
use Rattle.format.specs.Tools.{range, up_to}
use Rattle.format.specs.Runs.{Run, Span, run_at, runs_from, runs, spans_from, spans, positions_from, flat_runs, runs_in}
use Rattle.format.specs.PagedRuns.{flat_spans, spans_in, plus, none, sums_from, level, pairs_from, pairs_of}
use Rattle.format.specs.BaseOffset.{bases, offsets, based_positions}
use Rattle.format.specs.Jumps.{difference, differences_from, differences, jumps_of, jumps, jumped_from, jumped_positions}
use Rattle.laws.proofs.Stored.{Rising}
use Rattle.laws.proofs.Tools.{cases, length-listed, get_or_listed, range_snoc}
use Rattle.laws.proofs.Bounds.{length-every_nth, get_or_every_nth}

-- ---- kind 3

-- a rising list does not fall
pub rising-at : (a B : ℕ) (ls : List ℕ) (j : ℕ) → Rising a B ls → j < length ls → a ≤ get_or ls j 0
rising-at a B [] j r h = absurd (omega arith)
rising-at a B (l ∷ ls) zero r h = r.0
rising-at a B (l ∷ ls) (suc j) r h = let i = rising-at (suc l) B ls j r.2 (omega arith) in omega arith

pub rising_le : (a B : ℕ) (ls : List ℕ) (i j : ℕ) → Rising a B ls → i ≤ j → j < length ls → get_or ls i 0 ≤ get_or ls j 0
rising_le a B [] i j r h k = absurd (omega arith)
rising_le a B (l ∷ ls) zero zero r h k = le_refl l
rising_le a B (l ∷ ls) zero (suc j) r h k = let i = rising-at (suc l) B ls j r.2 (omega arith) in omega arith
rising_le a B (l ∷ ls) (suc i) zero r h k = absurd (omega arith)
rising_le a B (l ∷ ls) (suc i) (suc j) r h k = rising_le (suc l) B ls i j r.2 (omega arith) (omega arith)

pub length-offsets : (l : ℕ) (ls : List ℕ) → length (offsets l ls) ≡ length ls
unfolding offsets
length-offsets l ls = length-listed (length ls) _

pub length-bases : (l : ℕ) (ls : List ℕ) → length (bases l ls) ≡ up_to (length ls) l
unfolding bases
length-bases l ls = length-every_nth l ls

pub get_or_bases : (l : ℕ) (ls : List ℕ) (r : ℕ) → 0 < l → r < length ls → get_or (bases l ls) (r / l) 0 ≡ get_or ls (r / l * l) 0
unfolding bases
get_or_bases l ls r p h = get_or_every_nth l (r / l) ls p (omega (arith, div-mul-le_self r l))

pub get_or_offsets : (l : ℕ) (ls : List ℕ) (r : ℕ) → r < length ls → get_or (offsets l ls) r 0 ≡ get_or ls r 0 - get_or (bases l ls) (r / l) 0
unfolding offsets
get_or_offsets l ls r h = get_or_listed (length ls) _ r h

pub based-back : (l a B : ℕ) (ls : List ℕ) → 0 < l → Rising a B ls → based_positions l (bases l ls) (offsets l ls) ≡ ls
unfolding based_positions
based-back l a B ls p r =
    let n : length (based_positions l (bases l ls) (offsets l ls)) ≡ length ls = length-listed (length (offsets l ls)) _ ∙ length-offsets l ls in
    ext_get_or 0 (based_positions l (bases l ls) (offsets l ls)) ls n
    (λ i h.
    let k : i < length ls = rw n at h in
    let e1 : get_or (based_positions l (bases l ls) (offsets l ls)) i 0 ≡ get_or (bases l ls) (i / l) 0 + get_or (offsets l ls) i 0
    = get_or_listed (length (offsets l ls)) _ i (rw (length-offsets l ls) k) in
    let e2 = get_or_offsets l ls i k in
    let e3 = get_or_bases l ls i p k in
    let o = rising_le a B ls (i / l * l) i r (div-mul-le_self i l) k in
    omega arith)

-- ---- kind 4

jumped_back : (w before B : ℕ) (ls : List ℕ) → Rising (suc before) B ls
    → jumped_from before (jumps_of (differences_from w before ls) ls) (differences_from w before ls) ≡ ls
unfolding jumped_from jumps_of differences_from
jumped_back w before B [] r = refl
jumped_back w before B (l ∷ ls) r =
    cases (leb (l - before) (256 ^ w - 1))
    (λ e.
    let d : difference w before l ≡ suc (l - before - 1) = unfold difference in rw e (omega arith) in
    let q : before + suc (l - before - 1) ≡ l = omega arith in
    rw (d, q, jumped_back w l B ls r.2))
    (λ e.
    let d : difference w before l ≡ 0 = unfold difference in rw e in
    rw (d, jumped_back w l B ls r.2))

pub jumps-back : (w a B : ℕ) (ls : List ℕ) → Rising a B ls → jumped_positions (jumps w ls) (differences w ls) ≡ ls
unfolding jumped_positions jumps differences jumps_of jumped_from
jumps-back w a B [] r = refl
jumps-back w a B (l ∷ ls) r = rw (jumped_back w l B ls r.2)

-- ---- kinds 1 and 5: the runs

-- Arithmetic of an open run that ends at p, of rank r, so far, whose stored cells begin at s; the runs before it end below e, with v empty cells.
run_gap : (e v p r s : ℕ) → e ≤ s → p + e ≡ r + v + s → p - r - v ≡ s - e
run_gap e v p r s h q = omega arith

run_start : (e v p r s : ℕ) → e ≤ s → p + e ≡ r + v + s → e + (p - r - v) ≡ s
run_start e v p r s h q = rw (run_gap e v p r s h q) (add-sub_of_le h)

run-size : (e v p r s : ℕ) → e ≤ s → s ≤ p → p + e ≡ r + v + s → suc p - e - (p - r - v) ≡ suc p - s
run-size e v p r s h k q = rw (run_gap e v p r s h q) (omega arith)

next-run : (e v p r s l : ℕ) → e ≤ s → p + e ≡ r + v + s → l + suc p ≡ suc r + (p - r) + l
next-run e v p r s l h q = omega arith

suc_sub_self : (l : ℕ) → suc l - l ≡ 1
suc_sub_self l = omega arith

runs_from_back : (e v p r s B : ℕ) (ls : List ℕ) → e ≤ s → s ≤ p → p + e ≡ r + v + s → Rising (suc p) B ls
    → positions_from e (spans_from e v (runs_from p r ls)) ≡ range s (suc p - s) ++ ls
unfolding positions_from spans_from runs_from run_at
runs_from_back e v p r s B [] h k q o = rw (run_start e v p r s h q, run-size e v p r s h k q)
runs_from_back e v p r s B (l ∷ ls) h k q o =
    cases (eqb l (suc p))
    (λ t.
    let m : l ≡ suc p = eqb-true l (suc p) t in
    let ih : positions_from e (spans_from e v (runs_from l (suc r) ls)) ≡ range s (suc l - s) ++ ls
    = runs_from_back e v l (suc r) s B ls h (omega arith) (omega arith) o.2 in
    let e1 : suc l - s ≡ suc (suc p - s) = omega arith in
    let e2 : s + (suc p - s) ≡ l = omega arith in
    rw (t, ih, e1, range_snoc s (suc p - s), e2, append_snoc))
    (λ t.
    let ne : suc p < l = lt_of_le-ne o.0 (λ z. eqb-false l (suc p) t (sym z)) in
    let ih : positions_from (suc p) (spans_from (suc p) (p - r) (runs_from l (suc r) ls)) ≡ range l (suc l - l) ++ ls
    = runs_from_back (suc p) (p - r) l (suc r) l B ls o.0 (le_refl l) (next-run e v p r s l h q) o.2 in
    let e3 : e + (suc p - e) ≡ suc p = add-sub_of_le (omega arith) in
    rw (t, run_start e v p r s h q, run-size e v p r s h k q, e3, ih, suc_sub_self) (unfold range in refl))

pub runs-back : (a B : ℕ) (ls : List ℕ) → Rising a B ls → positions_from 0 (spans (runs ls)) ≡ ls
unfolding spans runs
runs-back a B [] r = unfold positions_from spans_from in refl
runs-back a B (l ∷ ls) r =
    runs_from_back 0 0 l 0 l B ls (omega arith) (omega arith) (omega arith) r.2 ∙ rw (suc_sub_self l) (unfold range in refl)

-- ---- kind 5: pages, over any list of pairs

pairs_from_back : (b k : ℕ) (a : Span) (xs : List Span) → pairs_from b k a (sums_from b k a xs) ≡ xs
unfolding pairs_from sums_from
pairs_from_back b k a [] = refl
pairs_from_back b zero a (x ∷ xs) = ap (λ (l : List Span). x ∷ l) (pairs_from_back b (b - 1) x xs)
pairs_from_back b (suc k) a (x ∷ xs) = rw (add-sub_cancel_left a.cells x.cells, add-sub_cancel_left a.empty x.empty, pairs_from_back b k (plus a x) xs)

pub pairs_back : (b : ℕ) (xs : List Span) → pairs_of b (level b xs) ≡ xs
unfolding pairs_of level
pairs_back b xs = pairs_from_back b 0 none xs

-- ---- pairs as numbers

pub runs_in_flat : (xs : List Run) → runs_in (flat_runs xs) ≡ xs
unfolding runs_in flat_runs
runs_in_flat [] = refl
runs_in_flat (x ∷ xs) = rw (runs_in_flat xs)

pub spans_in_flat : (xs : List Span) → spans_in (flat_spans xs) ≡ xs
unfolding spans_in flat_spans
spans_in_flat [] = refl
spans_in_flat (x ∷ xs) = rw (spans_in_flat xs)

pub length-flat_runs : (xs : List Run) → length (flat_runs xs) ≡ 2 * length xs
unfolding flat_runs
length-flat_runs [] = refl
length-flat_runs (x ∷ xs) = let h = length-flat_runs xs in omega arith

pub length-flat_spans : (xs : List Span) → length (flat_spans xs) ≡ 2 * length xs
unfolding flat_spans
length-flat_spans [] = refl
length-flat_spans (x ∷ xs) = let h = length-flat_spans xs in omega arith
