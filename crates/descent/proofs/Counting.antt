-- The entries of a page that count at most a number: one turn of the count, and the descent by counts where the entries rise. Assumes nothing.
use Rattle.std.proofs.Common.{◌≡◌, ℕ, zero, suc, ◌+◌, ◌-◌, ◌*◌, ◌/◌, ◌%◌, ◌^◌, ◌<◌, ◌≤◌, Bool, true, false, ltb, leb, List, [], ◌∷◌, ◌++◌, length, get_or, take, drop, sym, refl, ap, ◌∙◌, le_refl, add-zero, add_assoc, suc-mul, zero-add, zero-mul, arith, drop-cons, drop-drop, ltb-false, ltb-true, le-ltb, lt-ltb, le-leb}
use borrow.Author.Tests.{lt-leb}
use mir.Val.{bool_byte}
use Rattle.format.specs.Tools.{pick}
use Rattle.format.specs.Runs.{Span}
use Rattle.format.specs.PagedRuns.{plus, less, none, level, lasts, all_cells, stored_cells, Place, lost, at, walk_from, step_down, through, levels}
use Rattle.laws.proofs.Tools.{cases}
use Rattle.laws.proofs.Search.{Proper}
use Rattle.laws.proofs.Levels.{running, level-take, level-drop, Ok, proper_take, proper_drop, proper_lasts}
use Rattle.laws.proofs.Descent.{cells_add, stored_add}
use Rattle.levels.specs.Levels.{entries}
use Rattle.levels.proofs.Reading.{length-entries}
use Rattle.levels.proofs.Bounded.{cells_of, level-cells}
use Rattle.descent.specs.Descent.{sub32, halves, counted, passed, place_after, page_down, levels_down}

-- ---- the count, entry by entry

-- `count` of the first i of n entries from `number` on are passed
pub record Counting (m : Span → ℕ) (p : ℕ) (file : List ℕ) (start number n i count : ℕ) : Type 0 where
  pub inside : start + 8 * (number + n) ≤ length file
  pub few : count ≤ i
  pub part : i ≤ n
  pub small : n ≤ 64
  pub whole : count + passed m p (take (n - i) (drop (number + i) (entries start file))) ≡ passed m p (take n (drop number (entries start file)))

page_cons : (m : Span → ℕ) (p : ℕ) (es : List Span) (next left : ℕ) → 0 < left → next < length es
    → passed m p (take left (drop next es)) ≡ pick (leb (m (get_or es next none)) p) 1 0 + passed m p (take (left - 1) (drop (next + 1) es))
page_cons m p es next zero h l = absurd (omega arith)
page_cons m p es next (suc left) h l =
    let z : suc left - 1 ≡ left = omega arith in
    let s : next + 1 ≡ suc next = omega arith in
    rw (drop-cons es next none l, z, s) (unfold passed in refl)

-- a test as a number
pub flag : (t : Bool) → bool_byte t ≡ pick t 1 0
flag true = refl
flag false = refl

pub flag_le : (t : Bool) → bool_byte t ≤ 1
flag_le true = omega arith
flag_le false = omega arith

module _ (m : Span → ℕ) (p : ℕ) (file : List ℕ) (start number n : ℕ) where
  pub counting_first : n ≤ 64 → start + 8 * (number + n) ≤ length file → Counting m p file start number n 0 0
  counting_first h l =
      let z : n - 0 ≡ n = omega arith in
      let y : number + 0 ≡ number = omega arith in
      record { inside = l; few = omega arith; part = omega arith; small = h; whole = rw (z, y) (zero-add _) }

  module _ (i count : ℕ) (c : Counting m p file start number n i count) where
    pub counting_on : (x k : ℕ) → i < n → x ≡ m (get_or (entries start file) (number + i) none) → k ≡ pick (leb x p) 1 0 → k ≤ 1
        → Counting m p file start number n (i + 1) (count + k)
    counting_on x k h e f g =
        let inside = c.inside in
        let few = c.few in
        let l : number + i < length (entries start file) = rw (length-entries start file) (omega arith) in
        let s : n - i - 1 ≡ n - (i + 1) = omega arith in
        let t : number + i + 1 ≡ number + (i + 1) = omega arith in
        let w = rw (page_cons m p (entries start file) (number + i) (n - i) (omega arith) l, ← e, ← f, s, t) at c.whole in
        record { inside = inside; few = omega arith; part = omega arith; small = c.small; whole = add_assoc count k _ ∙ w }

    pub counting_end : n ≤ i → (count ≡ passed m p (take n (drop number (entries start file)))) × (count ≤ n)
    unfolding passed
    counting_end h =
        let z : n - i ≡ 0 = omega arith in
        let few = c.few in
        let part = c.part in
        let w = rw z at c.whole in
        (sym (add-zero count) ∙ w, omega arith)

-- ---- differences of 32 bits

sub32-less : (a b : ℕ) → b ≤ a → a < 2 ^ 32 → sub32 a b ≡ a - b
sub32-less a b h l = omega arith

-- ---- two numbers in one

pub high_half : (e l : ℕ) → e < 2 ^ 32 → l < 2 ^ 32 → halves e l / 2 ^ 32 ≡ e
high_half e l h k = omega arith

pub low_half : (e l : ℕ) → l < 2 ^ 32 → halves e l % 2 ^ 32 ≡ l
low_half e l k = omega arith

-- ---- what a search counts, as numbers of any size

abbrev pub exact : Bool → Span → ℕ
exact s x = pick s (stored_cells x) (all_cells x)

pub exact_add : (s : Bool) (a x : Span) → Ok a → Ok x → exact s (plus a x) ≡ exact s a + exact s x
exact_add true a x h k = stored_add a x h k
exact_add false a x h k = cells_add a x h k

pub exact_none : (s : Bool) → exact s none ≡ 0
exact_none true = refl
exact_none false = refl

exact_counted : (s : Bool) (y : Span) → Ok y → y.cells < 2 ^ 32 → counted s y ≡ exact s y
exact_counted true y h l = sub32-less y.cells y.empty h l
exact_counted false y h l = refl

-- the ranks of a run from the one at t on
pub ranks-left : (x : Span) (t : ℕ) → Ok x → x.cells < 2 ^ 32 → t < stored_cells x → sub32 (counted true x) t ≡ stored_cells x - t
ranks-left x t h l k = rw (exact_counted true x h l) (sub32-less (stored_cells x) t (omega arith) (omega arith))

-- ---- pages of which nothing is read wrongly: no entry has more empty cells than cells, nor 2^32 cells

abbrev Fine : List Span → Type 0
Fine [] = Unit
Fine (y ∷ ys) = (y.empty ≤ y.cells) × (y.cells < 2 ^ 32) × Fine ys

-- no entry counts less than the one before, the first no less than c
abbrev Rises : (Span → ℕ) → Span → List Span → Type 0
Rises m c [] = Unit
Rises m c (y ∷ ys) = (m c ≤ m y) × Rises m y ys

module _ (s : Bool) (p : ℕ) where
  passed_cons : (m : Span → ℕ) (y : Span) (ys : List Span) (k : ℕ) → pick (leb (m y) p) 1 0 ≡ k → passed m p (y ∷ ys) ≡ k + passed m p ys
  unfolding passed
  passed_cons m y ys k e = rw e

  none_passed : (m : Span → ℕ) (c : Span) (ys : List Span) → Rises m c ys → p < m c → passed m p ys ≡ 0
  none_passed m c [] r h = unfold passed in refl
  none_passed m c (y ∷ ys) r h =
      let r0 = r.0 in
      let i = none_passed m y ys r.1 (omega arith) in
      passed_cons m y ys 0 (rw (lt-leb (m y) p (omega arith))) ∙ zero-add _ ∙ i

  -- counts of 32 bits and exact ones pass the same entries
  passed_exact : (ys : List Span) → Fine ys → passed (counted s) p ys ≡ passed (exact s) p ys
  unfolding passed
  passed_exact [] f = refl
  passed_exact (y ∷ ys) f = rw (exact_counted s y f.0 f.1, passed_exact ys f.2)

  left_exact : (c : Span) (ys : List Span) (k : ℕ) → counted s c ≡ exact s c → Fine ys → counted s (get_or (c ∷ ys) k none) ≡ exact s (get_or (c ∷ ys) k none)
  left_exact c ys zero e f = e
  left_exact c [] (suc k) e f = exact_counted s none (le_refl 0) (omega arith)
  left_exact c (y ∷ ys) (suc k) e f = left_exact y ys k (exact_counted s y f.0 f.1) f.2

  -- the place after k entries, with the entry c to the left of them
  abbrev after_from : ℕ → Span → Span → List Span → ℕ → Place
  after_from i a c ys k =
      let d = get_or (c ∷ ys) k none in
      pick (ltb k (length ys)) (at (i + k) (sub32 p (exact s d)) (plus a d) (less (get_or ys k none) d)) (lost (plus a d))

  after-suc : (i : ℕ) (a c y : Span) (ys : List Span) (k : ℕ) → after_from i a c (y ∷ ys) (suc k) ≡ after_from (suc i) a y ys k
  after-suc i a c y ys k =
      let e : i + suc k ≡ suc i + k = omega arith in
      cases (ltb k (length ys))
      (λ t. let h = ltb-true k (length ys) t in rw (t, lt-ltb (suc k) (suc (length ys)) (omega arith), e))
      (λ t. let h = ltb-false k (length ys) t in rw (t, le-ltb (suc k) (suc (length ys)) (omega arith)))

  after_none : (i : ℕ) (a c y : Span) (ys : List Span) → exact s c ≤ p → p < 2 ^ 32
      → at i (p - exact s c) (plus a c) (less y c) ≡ after_from i a c (y ∷ ys) 0
  after_none i a c y ys h l =
      let e : i + 0 ≡ i = omega arith in
      rw (lt-ltb 0 (suc (length ys)) (omega arith), e, sub32-less p (exact s c) h l)

  -- the walk to the first entry that exceeds p is past those that do not
  walk_after : (i : ℕ) (a c : Span) (ys : List Span) → Rises (exact s) c ys → exact s c ≤ p → p < 2 ^ 32
      → walk_from (exact s) i p a c ys ≡ after_from i a c ys (passed (exact s) p ys)
  unfolding walk_from
  walk_after i a c [] r h l = unfold passed in refl
  walk_after i a c (y ∷ ys) r h l =
      cases (ltb p (exact s y))
      (λ t.
      let g = ltb-true p (exact s y) t in
      rw (t, none_passed (exact s) y (y ∷ ys) (le_refl _, r.1) g) (after_none i a c y ys h l))
      (λ t.
      let g = ltb-false p (exact s y) t in
      let k : passed (exact s) p (y ∷ ys) ≡ suc (passed (exact s) p ys) = passed_cons (exact s) y ys 1 (rw (le-leb (exact s y) p g)) ∙ one_add _ in
      rw (t, k) (walk_after (suc i) a y ys r.1 g l ∙ sym (after-suc i a c y ys (passed (exact s) p ys))))
    where
      one_add : (n : ℕ) → 1 + n ≡ suc n
      one_add n = omega arith

  page-walked : (i : ℕ) (a : Span) (ys : List Span) → Fine ys → Rises (exact s) none ys → p < 2 ^ 32
      → place_after (counted s) i p a ys (passed (counted s) p ys) ≡ walk_from (exact s) i p a none ys
  unfolding place_after
  page-walked i a ys f r l =
      let z = exact_none s in
      rw (passed_exact ys f, left_exact none ys (passed (exact s) p ys) (exact_counted s none (le_refl 0) (omega arith)) f)
      (sym (walk_after i a none ys r (omega arith) l))

-- ---- the descent through levels of proper pairs

module _ (s : Bool) where
  running_fine : (c : Span) (xs : List Span) → Ok c → Proper xs → c.cells + cells_of xs < 2 ^ 32 → Fine (running c xs)
  unfolding running cells_of
  running_fine c [] k o l = tt
  running_fine c (x ∷ xs) k o l =
      let o0 = o.0 in
      (omega arith, omega arith, running_fine (plus c x) xs (omega arith) o.1 (omega arith))

  running_rises : (c : Span) (xs : List Span) → Ok c → Proper xs → Rises (exact s) c (running c xs)
  unfolding running
  running_rises c [] k o = tt
  running_rises c (x ∷ xs) k o =
      let e = exact_add s c x k o.0 in
      let o0 = o.0 in
      (omega arith, running_rises (plus c x) xs (omega arith) o.1)

  -- a place whose number is of 32 bits
  abbrev Small : Place → Type 0
  Small (lost a) = Unit
  Small (at i p a x) = p < 2 ^ 32

  walk-small : (i p : ℕ) (a c : Span) (ys : List Span) → p < 2 ^ 32 → Small (walk_from (exact s) i p a c ys)
  unfolding walk_from
  walk-small i p a c [] l = tt
  walk-small i p a c (y ∷ ys) l = cases (ltb p (exact s y)) (λ t. rw t (omega arith)) (λ t. rw t (walk-small (suc i) p a y ys l))

  module _ (b : ℕ) (low : 1 ≤ b) where
    step_small : (ys : List Span) (q : Place) → Small q → Small (step_down (exact s) b ys q)
    step_small ys (lost a) l = tt
    step_small ys (at j p a x) l = walk-small (j * b) p a none (take b (drop (j * b) ys)) l

    -- a page of a level
    page_running : (j : ℕ) (xs : List Span) → take b (drop (j * b) (level b xs)) ≡ running none (take b (drop (j * b) xs))
    page_running j xs = ap (take b) (pages j xs) ∙ level-take b (drop (j * b) xs) low
      where
        pages : (j : ℕ) (xs : List Span) → drop (j * b) (level b xs) ≡ level b (drop (j * b) xs)
        pages zero xs = rw (zero-mul b)
        pages (suc j) xs =
            rw (suc-mul j b, ← drop-drop b (j * b) (level b xs), ← drop-drop b (j * b) xs, pages j xs) (level-drop b (drop (j * b) xs) low)

    -- fewer pairs have no more cells
    cells-take : (n : ℕ) (xs : List Span) → cells_of (take n xs) ≤ cells_of xs
    unfolding cells_of
    cells-take zero xs = omega arith
    cells-take (suc n) [] = omega arith
    cells-take (suc n) (x ∷ xs) = let i = cells-take n xs in omega arith

    cells-drop : (n : ℕ) (xs : List Span) → cells_of (drop n xs) ≤ cells_of xs
    unfolding cells_of
    cells-drop zero xs = le_refl _
    cells-drop (suc n) [] = le_refl _
    cells-drop (suc n) (x ∷ xs) = let i = cells-drop n xs in omega arith

    page-same : (xs : List Span) (q : Place) → Proper xs → cells_of xs < 2 ^ 32 → Small q → page_down (counted s) b (level b xs) q ≡ step_down (exact s) b (level b xs) q
    page-same xs (lost a) o f l = refl
    page-same xs (at j p a x) o f l =
        let page = take b (drop (j * b) xs) in
        let proper = proper_take b (drop (j * b) xs) (proper_drop (j * b) xs o) in
        let t = cells-take b (drop (j * b) xs) in
        let d = cells-drop (j * b) xs in
        rw (page_running j xs)
        (page-walked s p (j * b) a (running none page) (running_fine none page (le_refl 0) proper (omega arith)) (running_rises none page (le_refl 0) proper) l)

    -- levels in which both steps down are the same
    abbrev Alike : List (List Span) → Type 0
    Alike [] = Unit
    Alike (ys ∷ us) = ((q : Place) → Small q → page_down (counted s) b ys q ≡ step_down (exact s) b ys q) × Alike us

    alike-last : (us : List (List Span)) (ys : List Span) → Alike us → ((q : Place) → Small q → page_down (counted s) b ys q ≡ step_down (exact s) b ys q)
        → Alike (us ++ (ys ∷ []))
    alike-last [] ys h g = (g, tt)
    alike-last (u ∷ us) ys h g = (h.0, alike-last us ys h.1 g)

    levels-alike : (n : ℕ) (xs : List Span) → Proper xs → cells_of xs < 2 ^ 32 → Alike (levels n b xs)
    unfolding levels
    levels-alike zero xs o f = (λ q. page-same xs q o f, tt)
    levels-alike (suc n) xs o f =
        let up = lasts b (level b xs) in
        let c = level-cells b xs in
        cases (leb (length xs) b)
        (λ e. rw e (λ q. page-same xs q o f, tt))
        (λ e.
        rw e
        (alike-last (levels n b up) (level b xs) (levels-alike n up (proper_lasts b (length xs) xs low (le_refl _) o) (omega arith)) (λ q. page-same xs q o f)))

    through_same : (us : List (List Span)) (q : Place) → Alike us → Small q → levels_down (counted s) b us q ≡ through (exact s) b us q
    unfolding levels_down through
    through_same [] q h l = refl
    through_same (ys ∷ us) q h l = rw (h.0 q l) (through_same us (step_down (exact s) b ys q) h.1 (step_small ys q l))

    pub counts_descend : (n : ℕ) (xs : List Span) (q : Place) → Proper xs → cells_of xs < 2 ^ 32 → Small q
        → levels_down (counted s) b (levels n b xs) q ≡ through (exact s) b (levels n b xs) q
    counts_descend n xs q o f l = through_same (levels n b xs) q (levels-alike n xs o f) l
