-- One step along a page, and of the descent to the page below. Assumes nothing.
use Rattle.std.proofs.Common.{◌≡◌, ℕ, Option, Some, None, zero, suc, ◌+◌, ◌-◌, ◌*◌, ◌^◌, ◌<◌, ◌≤◌, min, Bool, ltb, leb, List, [], ◌∷◌, length, get_or, take, drop, sym, refl, ap, ◌∙◌, ap₂, mul-le-mul, lt_of_not-le, arith, length-drop, length-take, length-take-le, get_or-drop, take_all, get_or-take, take-take, drop-drop, le-ltb, lt-ltb, le-leb}
use native.Mathlib.Nat.{sub-zero, zero-sub}
use native.Mathlib.Decide.{dec_le}
use lib.Seq.{take-nil}
use Rattle.format.specs.Tools.{pick}
use Rattle.format.specs.Runs.{Span}
use Rattle.format.specs.PagedRuns.{none, less, Place, lost, at}
use Rattle.laws.proofs.Tools.{cases}
use Rattle.levels.specs.Levels.{entries, cut}
use Rattle.descent.specs.declared.search.Asked.{Asked}
use Rattle.descent.specs.Descent.{sub32, counted, of_empty, answered, passed, left_of, place_after, page_down, levels_down, descended, page_at, walked, PageFits, LevelsFit, InOne}
use Rattle.levels.proofs.Reading.{length-entries}

-- ---- places that differ in sums of cells only

abbrev Like : Place → Place → Type 0
Like (lost a) (lost c) = Unit
Like (lost c) (at i p a x) = ⊥
Like (at i p a x) (lost c) = ⊥
Like (at i p a x) (at j q c y) = (i ≡ j) × (p ≡ q) × (a.empty ≡ c.empty) × (x ≡ y)

after_like : (m : Span → ℕ) (i p : ℕ) (a d : Span) (ys : List Span) (k : ℕ) → a.empty ≡ d.empty → Like (place_after m i p a ys k) (place_after m i p d ys k)
unfolding place_after
after_like m i p a d ys k h =
    cases (ltb k (length ys)) (λ e. rw e (refl, refl, ap (λ (z : ℕ). z + (left_of ys k).empty) h, refl)) (λ e. rw e tt)

step_like : (m : Span → ℕ) (b : ℕ) (ys : List Span) (q r : Place) → Like q r → Like (page_down m b ys q) (page_down m b ys r)
step_like m b ys (lost a) (lost c) h = tt
step_like m b ys (lost c) (at i p a x) h = absurd h
step_like m b ys (at i p a x) (lost c) h = absurd h
step_like m b ys (at i p a x) (at j q c y) h = rw (h.0, h.1) (after_like m (j * b) q a c (take b (drop (j * b) ys)) _ h.2)

answered_like : (s : Asked) (q r : Place) → Like q r → answered s q ≡ answered s r
answered_like s (lost a) (lost c) h = refl
answered_like s (lost c) (at i p a x) h = absurd h
answered_like s (at i p a x) (lost c) h = absurd h
answered_like s (at i p a x) (at j q c y) h = rw (h.1, h.2, h.3)

levels_like : (m : Span → ℕ) (b : ℕ) (s : Asked) (ls : List (List Span)) (q r : Place) → Like q r
    → answered s (levels_down m b ls q) ≡ answered s (levels_down m b ls r)
unfolding levels_down
levels_like m b s [] q r h = answered_like s q r h
levels_like m b s (ys ∷ ls) q r h = levels_like m b s ls (page_down m b ys q) (page_down m b ys r) (step_like m b ys q r h)

levels-lost : (m : Span → ℕ) (b : ℕ) (a : Span) (ls : List (List Span)) → levels_down m b ls (lost a) ≡ lost a
unfolding levels_down
levels-lost m b a [] = refl
levels-lost m b a (ys ∷ ls) = levels-lost m b a ls

-- ---- an answer in one number

pub none-in_one : {o : Option ℕ} → o ≡ None → InOne o (2 ^ 64)
none-in_one e = rw e refl

pub same-in_one : (o q : Option ℕ) (n : ℕ) → o ≡ q → InOne o n → InOne q n
same-in_one o q n e h = rw e at h

pub read-none : (o : Option ℕ) (n : ℕ) → InOne o n → 2 ^ 64 ≤ n → None ≡ o
read-none None n h l = refl
read-none (Some x) n h l = let l1 = h.1 in absurd (omega arith)

pub read-some : (o : Option ℕ) (n : ℕ) → InOne o n → n < 2 ^ 64 → Some n ≡ o
read-some None n h l = absurd (omega arith)
read-some (Some x) n h l = ap Some h.0

-- ---- along a page

-- the entry to the left of the one after k: kept, or zeros
pub left-kept : (es : List Span) (number k : ℕ) (x : Span) → x ≡ get_or es (number + (k - 1)) none
    → record { cells = pick (leb 1 k) x.cells 0; empty = pick (leb 1 k) x.empty 0 } ≡ left_of (drop number es) k
left-kept es number zero x e = refl
left-kept es number (suc k) x e =
    let z : suc k - 1 ≡ k = omega arith in
    rw (le-leb 1 (suc k) (omega arith)) (e ∙ rw z (sym (get_or-drop number es k none)))

module _ (es : List Span) (sizes : List ℕ) (step : ℕ) (asked : Asked) (stored : Bool) (level from first left before p : ℕ) where
  -- past all entries
  pub walk_none : left ≤ passed (counted stored) p (page_at es from first left) → answered asked (walked es sizes step stored level from first left before p) ≡ None
  unfolding walked descended place_after
  walk_none h =
      let l = length-take left (drop (from + first) es) in
      rw (le-ltb (passed (counted stored) p (page_at es from first left)) (length (page_at es from first left)) (omega arith))
      (rw (levels-lost (counted stored) step _ (cut sizes level (drop (from + get_or sizes level 0) es))))

  -- past k of them: c is the entry to the left of y
  pub walk_here : (k : ℕ) (c y : Span) → k ≡ passed (counted stored) p (page_at es from first left) → k < left → from + first + left ≤ length es
      → c ≡ left_of (drop (from + first) es) k → y ≡ get_or es (from + first + k) none
      → answered asked (descended es sizes step stored level (from + get_or sizes level 0)
      (at (first + k) (sub32 p (counted stored c)) (of_empty (before + c.empty)) (less y c)))
      ≡ answered asked (walked es sizes step stored level from first left before p)
  unfolding walked descended place_after
  walk_here k c y e h l f g =
      let n : length (page_at es from first left) ≡ left = length-take-le left (drop (from + first) es) (rw (length-drop (from + first) es) (omega arith)) in
      let d : left_of (page_at es from first left) k ≡ c = get_or-take (suc left) (none ∷ drop (from + first) es) k none (omega arith) ∙ sym f in
      let z : get_or (page_at es from first left) k none ≡ y = get_or-take left (drop (from + first) es) k none h ∙ get_or-drop (from + first) es k none ∙ sym g in
      rw (← e, n, lt-ltb k left h, d, z)
      (levels_like (counted stored) step asked (cut sizes level (drop (from + get_or sizes level 0) es)) _ _ (refl, refl, refl, refl))

-- ---- to the page below

drop-take : (f s : ℕ) (l : List Span) → drop f (take s l) ≡ take (s - f) (drop f l)
drop-take zero s l = rw (sub-zero s)
drop-take (suc f) zero l = rw (zero-sub (suc f))
drop-take (suc f) (suc s) [] = sym (take-nil (suc s - suc f))
drop-take (suc f) (suc s) (x ∷ l) = let e : suc s - suc f ≡ s - f = omega arith in rw e (drop-take f s l)

take-least : (b n : ℕ) (l : List Span) → take b (take n l) ≡ take (min b n) l
take-least b n l =
    elim (dec_le b n) [
      | yes h ↦ (let e : min b n ≡ b = omega arith in rw e (take-take b n l h))
      | no h ↦ (let k = lt_of_not-le h in
          let e : min b n ≡ n = omega arith in
          let s : length (take n l) ≤ b = rw (length-take n l) (omega arith) in
          rw e (take_all b (take n l) s))
    ]

module _ (es : List Span) (sizes : List ℕ) (step : ℕ) (asked : Asked) (stored : Bool) (from entry rest before : ℕ) (x : Span) where
  -- the lowest level, and above it, where the descent does not look at the entry's own pair
  descent_leaf : (level : ℕ) → level ≡ 0
      → descended es sizes step stored level from (at entry rest (of_empty before) x) ≡ at entry rest (of_empty before) x
  unfolding descended levels_down
  descent_leaf zero e = refl
  descent_leaf (suc n) e = absurd (omega arith)

  descent-any : (level : ℕ) → 1 ≤ level
      → descended es sizes step stored level from (at entry rest (of_empty before) none) ≡ descended es sizes step stored level from (at entry rest (of_empty before) x)
  unfolding descended levels_down
  descent-any zero n = absurd (omega arith)
  descent-any (suc k) n = refl

  -- the page below: of the level's entries those from the page's from on
  page-below : (size : ℕ) → take step (drop (entry * step) (take size (drop from es))) ≡ take (min step (size - entry * step)) (drop (from + entry * step) es)
  page-below size =
      ap (take step) (drop-take (entry * step) size (drop from es) ∙ rw (drop-drop (entry * step) from es))
      ∙ take-least step (size - entry * step) (drop (from + entry * step) es)

  pub descent-page : (level : ℕ) → 1 ≤ level
      → answered asked (descended es sizes step stored level from (at entry rest (of_empty before) x))
      ≡ answered asked (walked es sizes step stored (level - 1) from (entry * step) (min step (get_or sizes (level - 1) 0 - entry * step)) before rest)
  unfolding descended walked levels_down
  descent-page zero n = absurd (omega arith)
  descent-page (suc k) n =
      let d : suc k - 1 ≡ k = omega arith in
      rw d
      (ap₂ (λ (l : List Span) (r : List Span). answered asked
      (levels_down (counted stored) step (cut sizes k r) (place_after (counted stored) (entry * step) rest (of_empty before) l (passed (counted stored) rest l))))
      (page-below (get_or sizes k 0)) (drop-drop (get_or sizes k 0) from es))

-- ---- at the entry that is found, in the lowest level and above it

module _ (es : List Span) (sizes : List ℕ) (step : ℕ) (asked : Asked) (stored : Bool) (level from first left before p k : ℕ) (c y : Span)
    (e : k ≡ passed (counted stored) p (page_at es from first left)) (h : k < left) (l : from + first + left ≤ length es)
    (f : c ≡ left_of (drop (from + first) es) k) (g : y ≡ get_or es (from + first + k) none) where
  pub found_leaf : level ≡ 0
      → answered asked (at (first + k) (sub32 p (counted stored c)) (of_empty (before + c.empty)) (less y c))
      ≡ answered asked (walked es sizes step stored level from first left before p)
  found_leaf z =
      ap (answered asked) (sym (descent_leaf es sizes step asked stored (from + get_or sizes level 0) (first + k) _ _ _ level z))
      ∙ walk_here es sizes step asked stored level from first left before p k c y e h l f g

  pub found_below : 1 ≤ level
      → answered asked (descended es sizes step stored level (from + get_or sizes level 0)
      (at (first + k) (sub32 p (counted stored c)) (of_empty (before + c.empty)) none))
      ≡ answered asked (walked es sizes step stored level from first left before p)
  found_below z =
      ap (answered asked) (descent-any es sizes step asked stored (from + get_or sizes level 0) (first + k) _ _ (less y c) level z)
      ∙ walk_here es sizes step asked stored level from first left before p k c y e h l f g

-- ---- what a step asks

entry_small : (entry step : ℕ) → entry < 2 ^ 32 → step ≤ 64 → entry * step ≤ 2 ^ 38
entry_small entry step h k = let l : entry ≤ 2 ^ 32 = omega arith in mul-le-mul l k

pub first_fits : (entry step : ℕ) → entry < 2 ^ 32 → step ≤ 64 → entry * step < 2 ^ 64
first_fits entry step h k = omega (arith, entry_small entry step h k)

module _ (file : List ℕ) (start : ℕ) (sizes : List ℕ) (step level from first left before : ℕ) (f : PageFits file start sizes step level from first left before) where
  pub page-inside : start + 8 * (from + first + left) ≤ length file
  page-inside = omega (arith, f.inside, f.page)

  pub page-entries : from + first + left ≤ length (entries start file)
  page-entries = rw (length-entries start file) (omega (arith, page-inside))

  pub page_down_lem : (k e : ℕ) → k < left → 1 ≤ level → get_or sizes level 0 < 2 ^ 32 → e < 2 ^ 32
      → LevelsFit file start sizes step level (from + get_or sizes level 0) (first + k) (before + e)
  page_down_lem k e t o h g =
      record { inside = omega arith; long = f.long; number = omega arith; some = o; levels = omega arith; sum = omega arith; steps = omega arith }

pub page-fits : (file : List ℕ) (start : ℕ) (sizes : List ℕ) (step level from entry before : ℕ) → LevelsFit file start sizes step level from entry before
    → entry * step < get_or sizes (level - 1) 0
    → PageFits file start sizes step (level - 1) from (entry * step) (min step (get_or sizes (level - 1) 0 - entry * step)) before
page-fits file start sizes step zero from entry before f h = absurd (omega arith)
page-fits file start sizes step (suc k) from entry before f h =
    let d : suc k - 1 ≡ k = omega arith in
    rw d (small (rw d at h))
  where
    small : entry * step < get_or sizes k 0 → PageFits file start sizes step k from (entry * step) (min step (get_or sizes k 0 - entry * step)) before
    small h =
        record { inside = omega arith; long = f.long; page = omega arith; few = omega arith; levels = omega arith; sum = omega arith; steps = omega arith }
