-- How many numbers the parts hold and how large they are. Assumes nothing.
use Prim.Native.Nat.{ℕ, zero, suc, ◌+◌, ◌-◌, ◌*◌, ◌/◌, ◌^◌, ◌≤◌, ◌<◌}
use mathlib.Core.Path.{◌≡◌, refl, sym, ap, ◌∙◌}
use mathlib.Core.Bool.{true}
use mathlib.Core.List.{List, [], ◌∷◌}
use native.Mathlib.Numerals.{add-one}
use native.Mathlib.Nat.{lt_of_not-le, div-mul-le_self, mul-le-mul_left, le_of_suc-le-suc, suc-mul, mul-le-mul, mul-one, le_refl, one-le-pow, zero-lt-suc, div-eq_of_lt, add-div_right, div-lt_iff_lt-mul, le-div_iff_mul-le, suc-sub-suc, zero-sub, sub-zero, sub-add_cancel}
use native.Mathlib.Decide.{dec_le}
use native.Mathlib.Omega.{arith}
use lib.ListN.{length, get_or, length-append}
use lib.Dec.{eqb, leb}
use borrow.Author.Tests.{eqb-true, leb-true, leb-false}
use Rattle.format.specs.Tools.{Below, listed, up_to, every_nth, every}
use Rattle.format.specs.Runs.{Run, Span, run_at, runs_from, runs, spans_from, spans, flat_runs}
use Rattle.format.specs.PagedRuns.{flat_spans, plus, none, sums_from, level, lasts_from, lasts, levels_above, upper_levels, entries_above, upper_entries}
use Rattle.format.specs.BaseOffset.{bases, offsets, offsets_fit}
use Rattle.format.specs.Jumps.{difference, differences_from, differences, jumps_of}
use Rattle.laws.proofs.Stored.{Rising}
use Rattle.laws.proofs.Tools.{cases, both_true, length-listed, get_or_listed}

-- ---- bounds of lists

pub below-rising : (a B : ℕ) (ls : List ℕ) → Rising a B ls → Below B ls
below-rising a B [] r = tt
below-rising a B (l ∷ ls) r = (r.1, below-rising (suc l) B ls r.2)

pub below_widen : (B C : ℕ) (xs : List ℕ) → B ≤ C → Below B xs → Below C xs
below_widen B C [] h r = tt
below_widen B C (x ∷ xs) h r = (omega arith, below_widen B C xs h r.1)

-- from the elements of a list
pub below_elements : (m : ℕ) (b : List ℕ) → ((i : ℕ) → get_or b i 0 < m) → Below m b
below_elements m [] h = tt
below_elements m (x ∷ b) h = (h 0, below_elements m b (λ i. h (suc i)))

pub below_get_or : (B : ℕ) (xs : List ℕ) (i : ℕ) → 0 < B → Below B xs → get_or xs i 0 < B
below_get_or B [] i h r = h
below_get_or B (x ∷ xs) zero h r = r.0
below_get_or B (x ∷ xs) (suc i) h r = below_get_or B xs i h r.1

below-listed : (B n : ℕ) (f : ℕ → ℕ) → ((i : ℕ) → f i < B) → Below B (listed n f)
unfolding listed
below-listed B zero f h = tt
below-listed B (suc n) f h = (h 0, below-listed B n (λ k. f (suc k)) (λ i. h (suc i)))

pow_least : (w : ℕ) → 0 < 256 ^ w
pow_least w = one-le-pow w 256 (zero-lt-suc 255)

at_most : (w x : ℕ) → x ≤ 256 ^ w - 1 → x < 256 ^ w
at_most w x h = omega (arith, pow_least w)

below-every : (w : ℕ) (xs : List ℕ) → every (λ o. leb o (256 ^ w - 1)) xs ≡ true → Below (256 ^ w) xs
below-every w [] h = tt
below-every w (x ∷ xs) h =
    let t = both_true (leb x (256 ^ w - 1)) (every (λ o. leb o (256 ^ w - 1)) xs) h in
    (at_most w x (leb-true x (256 ^ w - 1) t.0), below-every w xs t.1)

-- ---- the elements 0, n, 2n and so on

pub up_to_le : (n l : ℕ) → 1 ≤ l → up_to n l ≤ n
up_to_le n l h = le_of_suc-le-suc ((div-lt_iff_lt-mul h).1 (rw suc-mul (omega (arith, mul-le-mul (le_refl n) h, mul-one n))))

-- an index below the number of groups is that of a group's first element, and the other way round
pub index_inside : (l n j : ℕ) → 1 ≤ l → j < up_to n l → j * l < n
index_inside l n j h k = let e = suc-mul j l in let z : suc j * l ≤ n + (l - 1) = (le-div_iff_mul-le h).0 k in omega arith

pub inside_index : (l n j : ℕ) → 1 ≤ l → j * l < n → j < up_to n l
inside_index l n j h k = (le-div_iff_mul-le h).1 (rw suc-mul (omega arith))

pub length-every_nth : (n : ℕ) (xs : List ℕ) → length (every_nth n xs) ≡ up_to (length xs) n
length-every_nth n xs = length-listed (up_to (length xs) n) _

pub get_or_every_nth : (n k : ℕ) (xs : List ℕ) → 1 ≤ n → k * n < length xs → get_or (every_nth n xs) k 0 ≡ get_or xs (k * n) 0
get_or_every_nth n k xs h i = get_or_listed (up_to (length xs) n) _ k (inside_index n (length xs) k h i)

pub below-every_nth : (n B : ℕ) (xs : List ℕ) → 0 < B → Below B xs → Below B (every_nth n xs)
below-every_nth n B xs h r = below-listed B (up_to (length xs) n) (λ k. get_or xs (k * n) 0) (λ k. below_get_or B xs (k * n) h r)

-- ---- kind 3

pub below-bases : (l B : ℕ) (ls : List ℕ) → 0 < B → Below B ls → Below B (bases l ls)
unfolding bases
below-bases l B ls h r = below-every_nth l B ls h r

pub below-offsets : (w l : ℕ) (ls : List ℕ) → offsets_fit w l ls ≡ true → Below (256 ^ w) (offsets l ls)
unfolding offsets_fit
below-offsets w l ls h = below-every w (offsets l ls) h

-- ---- kind 4

pub length-differences_from : (w b : ℕ) (ls : List ℕ) → length (differences_from w b ls) ≡ length ls
unfolding differences_from
length-differences_from w b [] = refl
length-differences_from w b (l ∷ ls) = ap suc (length-differences_from w l ls)

pub length-differences : (w : ℕ) (ls : List ℕ) → length (differences w ls) ≡ length ls
unfolding differences
length-differences w [] = refl
length-differences w (l ∷ ls) = ap suc (length-differences_from w l ls)

below-differences_from : (w b : ℕ) (ls : List ℕ) → Below (256 ^ w) (differences_from w b ls)
unfolding differences_from difference
below-differences_from w b [] = tt
below-differences_from w b (l ∷ ls) =
    cases (leb (l - b) (256 ^ w - 1))
    (λ e. rw e (at_most w (l - b) (leb-true (l - b) (256 ^ w - 1) e), below-differences_from w l ls))
    (λ e. rw e (pow_least w, below-differences_from w l ls))

pub below-differences : (w : ℕ) (ls : List ℕ) → Below (256 ^ w) (differences w ls)
unfolding differences
below-differences w [] = tt
below-differences w (l ∷ ls) = (pow_least w, below-differences_from w l ls)

pub below-jumps_of : (B : ℕ) (ds ls : List ℕ) → Below B ls → Below B (jumps_of ds ls)
unfolding jumps_of
below-jumps_of B [] ls r = tt
below-jumps_of B (d ∷ ds) [] r = tt
below-jumps_of B (zero ∷ ds) (l ∷ ls) r = (r.0, below-jumps_of B ds ls r.1)
below-jumps_of B (suc d ∷ ds) (l ∷ ls) r = below-jumps_of B ds ls r.1

pub length-jumps_of : (ds ls : List ℕ) → length (jumps_of ds ls) ≤ length ls
unfolding jumps_of
length-jumps_of [] ls = omega arith
length-jumps_of (d ∷ ds) [] = omega arith
length-jumps_of (zero ∷ ds) (l ∷ ls) = let h = length-jumps_of ds ls in omega arith
length-jumps_of (suc d ∷ ds) (l ∷ ls) = let h = length-jumps_of ds ls in omega arith

-- ---- kind 1

below-runs_from : (p r B : ℕ) (ls : List ℕ) → p < B → Rising (suc p) B ls → Below B (flat_runs (runs_from p r ls))
unfolding runs_from run_at flat_runs
below-runs_from p r B [] h o = (h, (omega arith, tt))
below-runs_from p r B (l ∷ ls) h o =
    let i = below-runs_from l (suc r) B ls o.1 o.2 in
    cases (eqb l (suc p)) (λ e. rw e i) (λ e. rw e (h, (omega arith, i)))

pub below-runs : (a B : ℕ) (ls : List ℕ) → Rising a B ls → Below B (flat_runs (runs ls))
unfolding runs
below-runs a B [] o = unfold flat_runs in tt
below-runs a B (l ∷ ls) o = below-runs_from l 0 B ls o.1 o.2

length-runs_from : (p r : ℕ) (ls : List ℕ) → length (runs_from p r ls) ≤ suc (length ls)
unfolding runs_from
length-runs_from p r [] = omega arith
length-runs_from p r (l ∷ ls) =
    let i = length-runs_from l (suc r) ls in
    cases (eqb l (suc p)) (λ e. rw e (omega arith)) (λ e. rw e (omega arith))

pub length_runs : (ls : List ℕ) → length (runs ls) ≤ length ls
unfolding runs
length_runs [] = omega arith
length_runs (l ∷ ls) = length-runs_from l 0 ls

-- ---- kind 5

pub length-spans_from : (e v : ℕ) (xs : List Run) → length (spans_from e v xs) ≡ length xs
unfolding spans_from
length-spans_from e v [] = refl
length-spans_from e v (x ∷ xs) = ap suc (length-spans_from (suc x.last) x.empty xs)

pub length-sums : (b k : ℕ) (a : Span) (xs : List Span) → length (sums_from b k a xs) ≡ length xs
unfolding sums_from
length-sums b k a [] = refl
length-sums b zero a (x ∷ xs) = ap suc (length-sums b (b - 1) x xs)
length-sums b (suc k) a (x ∷ xs) = ap suc (length-sums b k (plus a x) xs)

-- all cells, and all empty cells, of a list of pairs
total_cells : List Span → ℕ
total_cells [] = 0
total_cells (x ∷ xs) = x.cells + total_cells xs

total_empty : List Span → ℕ
total_empty [] = 0
total_empty (x ∷ xs) = x.empty + total_empty xs

below-sums : (b k B : ℕ) (a : Span) (xs : List Span) → a.cells + total_cells xs < B → a.empty + total_empty xs < B
    → Below B (flat_spans (sums_from b k a xs))
unfolding sums_from flat_spans total_cells total_empty
below-sums b k B a [] h g = tt
below-sums b zero B a (x ∷ xs) h g = (omega arith, (omega arith, below-sums b (b - 1) B x xs (omega arith) (omega arith)))
below-sums b (suc k) B a (x ∷ xs) h g = (omega arith, (omega arith, below-sums b k B (plus a x) xs (omega arith) (omega arith)))

-- the pairs of runs: no more cells than the picture has
total_runs : (e v p r B : ℕ) (ls : List ℕ) → e ≤ suc p → v + r ≤ p → p < B → Rising (suc p) B ls
    → (total_cells (spans_from e v (runs_from p r ls)) ≤ B - e) × (total_empty (spans_from e v (runs_from p r ls)) ≤ B - v)
unfolding spans_from runs_from run_at total_cells total_empty
total_runs e v p r B [] h k q o = (omega arith, omega arith)
total_runs e v p r B (l ∷ ls) h k q o =
    cases (eqb l (suc p))
    (λ t. let m : l ≡ suc p = eqb-true l (suc p) t in rw t (total_runs e v l (suc r) B ls (omega arith) (omega arith) o.1 o.2))
    (λ t.
    let i = total_runs (suc p) (p - r) l (suc r) B ls (omega arith) (omega arith) o.1 o.2 in
    let i0 = i.0 in
    let i1 = i.1 in
    rw t (add_up h q i0, add_up (omega arith) (omega arith) i1))
  where
    add_up : {e m B t : ℕ} → e ≤ m → m ≤ B → t ≤ B - m → m - e + t ≤ B - e
    add_up h q i = omega arith

pub up_to-suc : (m b : ℕ) → 1 ≤ b → up_to (suc m) b ≡ suc (up_to (m - (b - 1)) b)
up_to-suc m b h =
    let e1 : suc m + (b - 1) ≡ m + b = omega arith in
    rw (e1, add-div_right m h, add-one (m / b)) (ap suc (elim (dec_le (b - 1) m) [ yes k ↦ rw (sub-add_cancel k) | no k ↦ low (lt_of_not-le k) ]))
  where
    low : m < b - 1 → m / b ≡ (m - (b - 1) + (b - 1)) / b
    low k =
        let e2 : m - (b - 1) + (b - 1) ≡ b - 1 = omega arith in
        let l1 : m < b = omega arith in
        let l2 : b - 1 < b = omega arith in
        rw (e2, div-eq_of_lt l1, div-eq_of_lt l2)

pub up_to-zero : (b : ℕ) → 1 ≤ b → up_to 0 b ≡ 0
up_to-zero b h = let l : 0 + (b - 1) < b = omega arith in div-eq_of_lt l

length-lasts_from : (b k : ℕ) (x : Span) (xs : List Span) → 1 ≤ b → length (lasts_from b k x xs) ≡ suc (up_to (length xs - k) b)
unfolding lasts_from
length-lasts_from b k x [] h = rw (zero-sub, up_to-zero b h)
length-lasts_from b zero x (y ∷ ys) h = ap suc (length-lasts_from b (b - 1) y ys h ∙ rw (sub-zero, up_to-suc (length ys) b h))
length-lasts_from b (suc k) x (y ∷ ys) h = length-lasts_from b k y ys h ∙ rw suc-sub-suc

pub length-lasts : (b : ℕ) (xs : List Span) → 1 ≤ b → length (lasts b xs) ≡ up_to (length xs) b
unfolding lasts
length-lasts b [] h = sym (up_to-zero b h)
length-lasts b (x ∷ xs) h = length-lasts_from b (b - 1) x xs h ∙ sym (up_to-suc (length xs) b h)

pub length-level : (b : ℕ) (xs : List Span) → length (level b xs) ≡ length xs
unfolding level
length-level b xs = length-sums b 0 none xs

length-levels_above : (n b : ℕ) (xs : List Span) → 1 ≤ b → length (levels_above n b xs) ≡ entries_above n b (length xs)
unfolding levels_above entries_above
length-levels_above zero b xs h = refl
length-levels_above (suc n) b xs h =
    let up : length (level b (lasts b xs)) ≡ up_to (length xs) b = length-level b (lasts b xs) ∙ length-lasts b xs h in
    let ih : length (levels_above n b (level b (lasts b xs))) ≡ entries_above n b (length (level b (lasts b xs))) = length-levels_above n b (level b (lasts b xs)) h in
    cases (leb (length xs) b) (λ e. rw e) (λ e. rw (e, length-append, ih, up))

pub length-upper_levels : (b : ℕ) (xs : List Span) → 1 ≤ b → length (upper_levels b xs) ≡ upper_entries b (length xs)
unfolding upper_levels upper_entries
length-upper_levels b xs h = length-levels_above (length xs) b xs h

-- ceil (v / b) is at most half of v, rounded up
pub up_to_half : (v b : ℕ) → 2 ≤ b → 2 * up_to v b ≤ v + 1
up_to_half v b h = go (up_to v b) (div-mul-le_self (v + (b - 1)) b)
  where
    go : (u : ℕ) → u * b ≤ v + (b - 1) → 2 * u ≤ v + 1
    go zero k = omega arith
    go (suc t) k =
        let k' : t * b + b ≤ v + (b - 1) = rw suc-mul at k in
        let m : t * 2 ≤ t * b = mul-le-mul_left t h in
        omega arith

entries-bound : (n b v : ℕ) → 2 ≤ b → entries_above n b v ≤ 2 * v - 2
unfolding entries_above
entries-bound zero b v h = omega arith
entries-bound (suc n) b v h =
    let u = up_to_half v b h in
    let i = entries-bound n b (up_to v b) h in
    cases (leb v b) (λ e. rw e (omega arith)) (λ e. let g = leb-false v b e in rw e (omega arith))

pub upper_entries_le : (b v : ℕ) → 2 ≤ b → upper_entries b v ≤ 2 * v
unfolding upper_entries
upper_entries_le b v h = let i = entries-bound v b v h in omega arith

pub below-level : (b a B M : ℕ) (ls : List ℕ) → B < M → Rising a B ls → Below M (flat_spans (level b (spans (runs ls))))
unfolding level spans runs
below-level b a B M [] h o = unfold sums_from spans_from flat_spans in tt
below-level b a B M (l ∷ ls) h o =
    let t = total_runs 0 0 l 0 B ls (omega arith) (omega arith) o.1 o.2 in
    let t0 = t.0 in
    let t1 = t.1 in
    below-sums b 0 M none (spans_from 0 0 (runs_from l 0 ls)) (omega arith) (omega arith)

pub length-spans : (ls : List ℕ) → length (spans (runs ls)) ≤ length ls
unfolding spans
length-spans ls = rw (length-spans_from 0 0 (runs ls)) (length_runs ls)
