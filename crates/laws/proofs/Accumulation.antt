-- The levels of kind 5 in the words of document 01: what an entry sums, what the level above is made of, and when there is one. Assumes nothing.
use Prim.Native.Nat.{ℕ, zero, suc, ◌+◌, ◌-◌, ◌*◌, ◌/◌, ◌%◌, ◌≤◌, ◌<◌, min}
use mathlib.Core.Path.{◌≡◌, refl, sym, ap, ◌∙◌}
use mathlib.Core.List.{List, [], ◌∷◌, ◌++◌}
use native.Mathlib.Nat.{suc-mul, zero-mul, mod-lt, zero-min, min-zero, div-add-mod', le_refl}
use native.Mathlib.Omega.{arith}
use lib.ListN.{length, take, drop, get_or, length-append, length-take, length-drop, replicate, length-replicate}
use lib.Seq.{drop-drop, get_or-drop, get_or-take, take-take}
use lib.Dec.{leb}
use borrow.Author.Tests.{leb-false, le-leb, lt-leb}
use Rattle.format.specs.Tools.{up_to}
use Rattle.format.specs.Runs.{Span}
use Rattle.format.specs.PagedRuns.{plus, none, level, lasts_from, lasts, levels_above, upper_levels, entries_above, upper_entries}
use Rattle.laws.proofs.Tools.{cases}
use Rattle.laws.proofs.Bounds.{length-lasts, length-level, length-upper_levels, up_to_half, up_to-zero, up_to-suc, up_to_le}
use Rattle.laws.proofs.Levels.{running, sum_of, level-take, level-drop}

-- ---- an entry is the sum of the pairs from its page's start through itself

running_at : (a : Span) (i : ℕ) (xs : List Span) → i < length xs → get_or (running a xs) i none ≡ sum_of a (take (suc i) xs)
unfolding running sum_of
running_at a i [] h = absurd (omega arith)
running_at a zero (x ∷ xs) h = refl
running_at a (suc i) (x ∷ xs) h = running_at (plus a x) i xs (omega arith)

pages_drop : (b q : ℕ) (xs : List Span) → 1 ≤ b → drop (q * b) (level b xs) ≡ level b (drop (q * b) xs)
pages_drop b zero xs h = rw (zero-mul b)
pages_drop b (suc q) xs h =
    rw (suc-mul q b, ← drop-drop b (q * b) (level b xs), ← drop-drop b (q * b) xs, pages_drop b q xs h) (level-drop b (drop (q * b) xs) h)

in_page : (b r : ℕ) (xs : List Span) → r < b → r < length xs → get_or (level b xs) r none ≡ sum_of none (take (suc r) xs)
in_page b r xs h k =
    let n : r < length (take b xs) = rw (length-take b xs) (omega arith) in
    let e : get_or (take b (level b xs)) r none ≡ get_or (level b xs) r none = get_or-take b (level b xs) r none h in
    sym e
    ∙ ap (λ (l : List Span). get_or l r none) (level-take b xs (omega arith))
    ∙ running_at none r (take b xs) n
    ∙ ap (sum_of none) (take-take (suc r) b xs h)

pub entry_is_sum : (b i : ℕ) (xs : List Span) → 1 ≤ b → i < length xs
    → get_or (level b xs) i none ≡ sum_of none (take (suc (i % b)) (drop (i / b * b) xs))
entry_is_sum b i xs h k =
    let e : i / b * b + i % b ≡ i = div-add-mod' i b in
    let n : i % b < length (drop (i / b * b) xs) = rw (length-drop (i / b * b) xs) (omega arith) in
    ap (λ (m : ℕ). get_or (level b xs) m none) (sym e)
    ∙ sym (get_or-drop (i / b * b) (level b xs) (i % b) none)
    ∙ ap (λ (l : List Span). get_or l (i % b) none) (pages_drop b (i / b) xs h)
    ∙ in_page b (i % b) (drop (i / b * b) xs) (mod-lt i h) n

-- ---- the pairs of the level above are the last entries of the pages

lasts_head : (b k : ℕ) (x : Span) (xs : List Span) → lasts_from b k x xs ≡ get_or (x ∷ xs) (min k (length xs)) none ∷ lasts b (drop k xs)
unfolding lasts_from lasts
lasts_head b zero x [] = refl
lasts_head b (suc k) x [] = rw (min-zero (suc k))
lasts_head b zero x (y ∷ ys) = rw (zero-min (suc (length ys)))
lasts_head b (suc k) x (y ∷ ys) =
    let e : min (suc k) (suc (length ys)) ≡ suc (min k (length ys)) = omega arith in
    rw e (lasts_head b k y ys)

page-end : (m c n : ℕ) → 1 ≤ m → c < n → min (m + suc c) (suc n) - 1 ≡ suc (c + (min m (n - c) - 1))
page-end m c n h k = omega arith

-- page j ends before entry (j + 1) * b, or with the level
pub last_is_last : (b j : ℕ) (ys : List Span) → 1 ≤ b → j < up_to (length ys) b → get_or (lasts b ys) j none ≡ get_or ys (min (suc j * b) (length ys) - 1) none
unfolding lasts
last_is_last zero j ys h k = absurd (omega arith)
last_is_last (suc c) zero [] h k = absurd (omega (arith, up_to-zero (suc c) h))
last_is_last (suc c) (suc j) [] h k = absurd (omega (arith, up_to-zero (suc c) h))
last_is_last (suc c) zero (x ∷ xs) h k =
    let d : suc c - 1 ≡ c = omega arith in
    let e : min (1 * suc c) (suc (length xs)) - 1 ≡ min c (length xs) = omega arith in
    rw (e, d, lasts_head (suc c) c x xs)
last_is_last (suc c) (suc j) (x ∷ xs) h k =
    let d : suc c - 1 ≡ c = omega arith in
    let u : up_to (suc (length xs)) (suc c) ≡ suc (up_to (length xs - c) (suc c)) = up_to-suc (length xs) (suc c) h ∙ rw d in
    let l = up_to_le (length xs - c) (suc c) h in
    let n : length (drop c xs) ≡ length xs - c = length-drop c xs in
    let p : 1 ≤ suc j * suc c = rw suc-mul (omega arith) in
    let g : c < length xs = omega arith in
    let f : j < up_to (length (drop c xs)) (suc c) = rw n (omega arith) in
    let ih : get_or (lasts (suc c) (drop c xs)) j none ≡ get_or (drop c xs) (min (suc j * suc c) (length (drop c xs)) - 1) none
    = last_is_last (suc c) j (drop c xs) h f in
    rw (d, lasts_head (suc c) c x xs, ih, n, suc-mul (suc j) (suc c), page-end (suc j * suc c) c (length xs) p g)
    (get_or-drop c xs (min (suc j * suc c) (length xs - c) - 1) none)

-- ---- while a level has more than b entries there is one more

-- fewer entries stand above
fewer : (b v : ℕ) → 2 ≤ b → b < v → up_to v b < v
fewer b v h k = omega (arith, up_to_half v b h)

-- the level above has one entry for each page
pub length_above : (b : ℕ) (ys : List Span) → 1 ≤ b → length (level b (lasts b ys)) ≡ up_to (length ys) b
length_above b ys h = length-level b (lasts b ys) ∙ length-lasts b ys h

-- any two bounds of the number of levels that are large enough
enough : (n m b : ℕ) (ys : List Span) → 2 ≤ b → length ys ≤ n → length ys ≤ m → levels_above n b ys ≡ levels_above m b ys
unfolding levels_above
enough zero zero b ys h k g = refl
enough zero (suc m) b ys h k g = let l : length ys ≤ b = omega arith in rw (le-leb (length ys) b l)
enough (suc n) zero b ys h k g = let l : length ys ≤ b = omega arith in rw (le-leb (length ys) b l)
enough (suc n) (suc m) b ys h k g =
    cases (leb (length ys) b)
    (λ e. rw e)
    (λ e.
    let f = fewer b (length ys) h (leb-false (length ys) b e) in
    let l = length_above b ys (omega arith) in
    rw (e, enough n m b (level b (lasts b ys)) h (omega arith) (omega arith)))

pub no_more_level : (b : ℕ) (ys : List Span) → length ys ≤ b → upper_levels b ys ≡ []
unfolding upper_levels levels_above
no_more_level b [] h = refl
no_more_level b (y ∷ ys) h = rw (le-leb (suc (length ys)) b h)

-- the bound in `upperLevels` is large enough at each level
pub one_more_level : (b : ℕ) (ys : List Span) → 2 ≤ b → b < length ys → upper_levels b ys ≡ upper_levels b (level b (lasts b ys)) ++ level b (lasts b ys)
unfolding upper_levels levels_above
one_more_level b [] h k = absurd (omega arith)
one_more_level b (y ∷ ys) h k =
    let f = fewer b (suc (length ys)) h k in
    let l = length_above b (y ∷ ys) (omega arith) in
    rw (lt-leb (suc (length ys)) b k, enough (length ys) (length (level b (lasts b (y ∷ ys)))) b (level b (lasts b (y ∷ ys))) h (omega arith) (le_refl _))

-- the same of their entries
pub no_more_entries : (b v : ℕ) → v ≤ b → upper_entries b v ≡ 0
unfolding upper_entries entries_above
no_more_entries b zero h = refl
no_more_entries b (suc v) h = rw (le-leb (suc v) b h)

pub one_more_entries : (b v : ℕ) → 2 ≤ b → b < v → upper_entries b v ≡ upper_entries b (up_to v b) + up_to v b
one_more_entries b v h k =
    let ys = replicate v none in
    let n : length ys ≡ v = length-replicate v none in
    let f : 1 ≤ b = omega arith in
    let up : length (level b (lasts b ys)) ≡ up_to v b = length_above b ys f ∙ rw n in
    ap (upper_entries b) (sym n)
    ∙ sym (length-upper_levels b ys f)
    ∙ ap length (one_more_level b ys h (omega arith))
    ∙ length-append (upper_levels b (level b (lasts b ys))) (level b (lasts b ys))
    ∙ rw (length-upper_levels b (level b (lasts b ys)) f, up)
