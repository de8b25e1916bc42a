-- The descent through levels finds what a walk along the pairs finds, for any list of pairs. Assumes nothing.
use Prim.Native.Nat.{ℕ, zero, suc, ◌+◌, ◌-◌, ◌*◌, ◌≤◌, ◌<◌}
use mathlib.Core.Path.{◌≡◌, refl, sym, ap, ap₂, ◌∙◌}
use mathlib.Core.List.{List, [], ◌∷◌, ◌++◌, append-nil, append_assoc}
use native.Mathlib.Nat.{le_refl, add-zero, sub-zero, suc-mul, zero-mul, lt_of_not-le}
use native.Mathlib.Decide.{dec_le}
use native.Mathlib.Omega.{arith}
use lib.ListN.{length, take, drop, take-append-drop, drop_of_length-le}
use lib.Seq.{drop-drop, take_all, length-take-le}
use lib.Dec.{leb, ltb}
use borrow.Author.Tests.{leb-true, leb-false, ltb-true, ltb-false, lt-ltb, le-ltb}
use Rattle.format.specs.Tools.{up_to}
use Rattle.format.specs.Runs.{Span}
use Rattle.format.specs.PagedRuns.{plus, none, sums_from, level, lasts, levels_above, upper_levels, all_cells, stored_cells, Place, lost, at, walk_from, step_down, through, levels, descent}
use Rattle.laws.proofs.Search.{seek_from, Proper}
use Rattle.laws.proofs.Tools.{cases}
use Rattle.laws.proofs.Bounds.{length-lasts, length-level, up_to_half}
use Rattle.laws.proofs.Levels.{plus_none, plus_assoc, less-plus, running, sum_of, level-take, level-drop, level-last, Ok, sum_cons, ok_sum, proper_take, proper_drop, shorter, proper_lasts}

-- ---- for any count of a pair that adds up

module _ (m : Span → ℕ) (add : (a x : Span) → Ok a → Ok x → m (plus a x) ≡ m a + m x) (nought : m none ≡ 0) where
  -- a walk along a page of sums seeks its pairs
  walk-page : (i p : ℕ) (a c : Span) (xs : List Span) → Ok c → Proper xs → m c ≤ p
      → walk_from m i p a c (running c xs) ≡ seek_from m i (p - m c) (plus a c) xs
  unfolding walk_from seek_from running
  walk-page i p a c [] k o h = refl
  walk-page i p a c (x ∷ xs) k o h =
      let s = add c x k o.0 in
      cases (ltb (p - m c) (m x))
      (λ e.
      let t = ltb-true (p - m c) (m x) e in
      let u : p < m (plus c x) = omega arith in
      rw (e, lt-ltb p (m (plus c x)) u, less-plus c x))
      (λ e.
      let t = ltb-false (p - m c) (m x) e in
      let u : m (plus c x) ≤ p = omega arith in
      let n : p - m c - m x ≡ p - m (plus c x) = omega arith in
      rw (e, le-ltb p (m (plus c x)) u, n, plus_assoc a c x) (walk-page (suc i) p a (plus c x) xs (ok_plus c x k o.0) o.1 u))
    where
      ok_plus : (c x : Span) → Ok c → Ok x → Ok (plus c x)
      ok_plus c x h k = omega arith

  walk_first : (i p : ℕ) (a : Span) (xs : List Span) → Proper xs → walk_from m i p a none (running none xs) ≡ seek_from m i p a xs
  walk_first i p a xs o =
      walk-page i p a none xs (le_refl 0) o (rw nought (omega arith))
      ∙ ap₂ (λ (q : ℕ) (c : Span). seek_from m i q c xs) (ap (λ (z : ℕ). p - z) nought ∙ sub-zero p) (plus_none a)

  -- seeking in two parts
  sum-count : (x : Span) (zs : List Span) → Ok x → Proper zs → m (sum_of none (x ∷ zs)) ≡ m x + m (sum_of none zs)
  sum-count x zs k o = ap m (sum_cons x zs) ∙ add x (sum_of none zs) k (ok_sum none zs (le_refl 0) o)

  seek_in : (i p : ℕ) (a : Span) (zs ys : List Span) → Proper zs → p < m (sum_of none zs) → seek_from m i p a (zs ++ ys) ≡ seek_from m i p a zs
  unfolding seek_from
  seek_in i p a [] ys o h = absurd (unfold sum_of in (omega arith))
  seek_in i p a (x ∷ zs) ys o h =
      let s = sum-count x zs o.0 o.1 in
      cases (ltb p (m x))
      (λ e. rw e)
      (λ e. let t = ltb-false p (m x) e in rw e (seek_in (suc i) (p - m x) (plus a x) zs ys o.1 (omega arith)))

  seek_past : (i p : ℕ) (a : Span) (zs ys : List Span) → Proper zs → m (sum_of none zs) ≤ p
      → seek_from m i p a (zs ++ ys) ≡ seek_from m (i + length zs) (p - m (sum_of none zs)) (plus a (sum_of none zs)) ys
  unfolding seek_from
  seek_past i p a [] ys o h = unfold sum_of in (rw (add-zero i, nought, sub-zero p, plus_none a))
  seek_past i p a (x ∷ zs) ys o h =
      let s = sum-count x zs o.0 o.1 in
      let n : p - m (sum_of none (x ∷ zs)) ≡ p - m x - m (sum_of none zs) = omega arith in
      let k : i + suc (length zs) ≡ suc i + length zs = omega arith in
      let u : m x ≤ p = omega arith in
      rw (le-ltb p (m x) u, n, k, sum_cons x zs, ← plus_assoc a x (sum_of none zs)) (seek_past (suc i) (p - m x) (plus a x) zs ys o.1 (omega arith))

  seek_hit : (j p : ℕ) (a t : Span) (ts : List Span) → p < m t → seek_from m j p a (t ∷ ts) ≡ at j p a t
  unfolding seek_from
  seek_hit j p a t ts h = rw (lt-ltb p (m t) h)

  seek_on : (j p : ℕ) (a t : Span) (ts : List Span) → m t ≤ p → seek_from m j p a (t ∷ ts) ≡ seek_from m (suc j) (p - m t) (plus a t) ts
  unfolding seek_from
  seek_on j p a t ts h = rw (le-ltb p (m t) h)

  seek_none : (j p : ℕ) (a : Span) (ts : List Span) → ts ≡ [] → seek_from m j p a ts ≡ lost a
  unfolding seek_from
  seek_none j p a [] e = refl
  seek_none j p a (t ∷ ts) e = absurd (omega (arith, ap length e))

  -- past a page of pairs, which is full or the last
  past-page : (i b p : ℕ) (a : Span) (xs : List Span) → Proper xs → m (sum_of none (take b xs)) ≤ p
      → seek_from m i p a xs ≡ seek_from m (i + b) (p - m (sum_of none (take b xs))) (plus a (sum_of none (take b xs))) (drop b xs)
  past-page i b p a xs o h =
      ap (seek_from m i p a) (sym (take-append-drop b xs))
      ∙ seek_past i p a (take b xs) (drop b xs) (proper_take b xs o) h
      ∙ elim (dec_le b (length xs)) [ yes q ↦ full q | no q ↦ short (lt_of_not-le q) ]
    where
      full : b ≤ length xs
          → seek_from m (i + length (take b xs)) (p - m (sum_of none (take b xs))) (plus a (sum_of none (take b xs))) (drop b xs)
          ≡ seek_from m (i + b) (p - m (sum_of none (take b xs))) (plus a (sum_of none (take b xs))) (drop b xs)
      full q = ap (λ (n : ℕ). seek_from m (i + n) (p - m (sum_of none (take b xs))) (plus a (sum_of none (take b xs))) (drop b xs)) (length-take-le b xs q)

      short : length xs < b
          → seek_from m (i + length (take b xs)) (p - m (sum_of none (take b xs))) (plus a (sum_of none (take b xs))) (drop b xs)
          ≡ seek_from m (i + b) (p - m (sum_of none (take b xs))) (plus a (sum_of none (take b xs))) (drop b xs)
      short q =
          let l : length xs ≤ b = omega arith in
          let z : drop b xs ≡ [] = drop_of_length-le xs l in
          seek_none _ _ _ (drop b xs) z ∙ sym (seek_none _ _ _ (drop b xs) z)

  in_page : (i b p : ℕ) (a : Span) (xs : List Span) → Proper xs → p < m (sum_of none (take b xs)) → seek_from m i p a (take b xs) ≡ seek_from m i p a xs
  in_page i b p a xs o h = sym (seek_in i p a (take b xs) (drop b xs) (proper_take b xs o) h) ∙ ap (seek_from m i p a) (take-append-drop b xs)

  -- a level below the sums of its pages
  below-page : (b n j p : ℕ) (a : Span) (all xs : List Span) → 1 ≤ b → length xs ≤ n → Proper xs → drop (j * b) (level b all) ≡ level b xs
      → step_down m b (level b all) (seek_from m j p a (lasts b (level b xs))) ≡ seek_from m (j * b) p a xs
  below-page b zero j p a all [] f h o d = unfold lasts level sums_from seek_from in refl
  below-page b zero j p a all (x ∷ xs) f h o d = absurd (omega arith)
  below-page b (suc n) j p a all [] f h o d = unfold lasts level sums_from seek_from in refl
  below-page b (suc n) j p a all (x ∷ xs) f h o d =
      cases (ltb p (m (sum_of none (take b (x ∷ xs)))))
      (λ e.
      let t = ltb-true p (m (sum_of none (take b (x ∷ xs)))) e in
      ap (step_down m b (level b all)) (ap (seek_from m j p a) (level-last b x xs f) ∙ seek_hit j p a (sum_of none (take b (x ∷ xs))) _ t)
      ∙ ap (λ (l : List Span). walk_from m (j * b) p a none l) (ap (take b) d ∙ level-take b (x ∷ xs) f)
      ∙ walk_first (j * b) p a (take b (x ∷ xs)) (proper_take b (x ∷ xs) o)
      ∙ in_page (j * b) b p a (x ∷ xs) o t)
      (λ e.
      let t = ltb-false p (m (sum_of none (take b (x ∷ xs)))) e in
      let g : drop (suc j * b) (level b all) ≡ level b (drop b (x ∷ xs))
      = ap (λ (z : ℕ). drop z (level b all)) (suc-mul j b) ∙ sym (drop-drop b (j * b) (level b all)) ∙ ap (drop b) d ∙ level-drop b (x ∷ xs) f in
      ap (step_down m b (level b all)) (ap (seek_from m j p a) (level-last b x xs f) ∙ seek_on j p a (sum_of none (take b (x ∷ xs))) _ t)
      ∙ below-page b n (suc j) (p - m (sum_of none (take b (x ∷ xs)))) (plus a (sum_of none (take b (x ∷ xs)))) all (drop b (x ∷ xs)) f (shorter b n x xs f h)
      (proper_drop b (x ∷ xs) o) g
      ∙ ap (λ (z : ℕ). seek_from m z (p - m (sum_of none (take b (x ∷ xs)))) (plus a (sum_of none (take b (x ∷ xs)))) (drop b (x ∷ xs))) (suc-mul j b)
      ∙ sym (past-page (j * b) b p a (x ∷ xs) o t))

  -- the whole descent
  through-last : (b : ℕ) (us : List (List Span)) (ys : List Span) (q : Place) → through m b (us ++ (ys ∷ [])) q ≡ step_down m b ys (through m b us q)
  unfolding through
  through-last b [] ys q = refl
  through-last b (u ∷ us) ys q = through-last b us ys (step_down m b u q)

  -- one page
  top : (b p : ℕ) (xs : List Span) → 1 ≤ b → Proper xs → length xs ≤ b → through m b (level b xs ∷ []) (at 0 p none none) ≡ seek_from m 0 p none xs
  unfolding through
  top b p xs h o k =
      let z : 0 * b ≡ 0 = zero-mul b in
      ap (λ (i : ℕ). walk_from m i p none none (take b (drop i (level b xs)))) z
      ∙ ap (walk_from m 0 p none none) (level-take b xs h ∙ ap (running none) (take_all b xs k))
      ∙ walk_first 0 p none xs o

  through-levels : (n b p : ℕ) (xs : List Span) → 2 ≤ b → Proper xs → length xs ≤ n
      → through m b (levels n b xs) (at 0 p none none) ≡ seek_from m 0 p none xs
  unfolding levels
  through-levels zero b p xs h o k = top b p xs (omega arith) o (omega arith)
  through-levels (suc n) b p xs h o k =
      cases (leb (length xs) b)
      (λ e. rw e (top b p xs (omega arith) o (leb-true (length xs) b e)))
      (λ e.
      let g = leb-false (length xs) b e in
      let u = up_to_half (length xs) b h in
      let l : length (lasts b (level b xs)) ≡ up_to (length xs) b = length-lasts b (level b xs) (omega arith) ∙ ap (λ (i : ℕ). up_to i b) (length-level b xs) in
      let ih = through-levels n b p (lasts b (level b xs)) h (proper_lasts b (length xs) xs (omega arith) (le_refl _) o) (omega arith) in
      let z : 0 * b ≡ 0 = zero-mul b in
      rw (e, through-last b (levels n b (lasts b (level b xs))) (level b xs) (at 0 p none none), ih)
      (below-page b (length xs) 0 p none xs xs (omega arith) (le_refl _) o (ap (λ (i : ℕ). drop i (level b xs)) z) ∙ ap (λ (i : ℕ). seek_from m i p none xs) z))

  pub descent_finds : (b p : ℕ) (xs : List Span) → 2 ≤ b → Proper xs → descent m b xs p ≡ seek_from m 0 p none xs
  unfolding descent
  descent_finds b p xs h o = through-levels (length xs) b p xs h o (le_refl (length xs))

-- the two counts add up
pub cells_add : (a x : Span) → a.empty ≤ a.cells → x.empty ≤ x.cells → all_cells (plus a x) ≡ all_cells a + all_cells x
cells_add a x h k = refl

pub stored_add : (a x : Span) → a.empty ≤ a.cells → x.empty ≤ x.cells → stored_cells (plus a x) ≡ stored_cells a + stored_cells x
stored_add a x h k = omega arith

-- the levels in the order of the file: the other levels, top first, and level 0
pub flat : List (List Span) → List Span
flat [] = []
flat (u ∷ us) = u ++ flat us

flat_last : (us : List (List Span)) (ys : List Span) → flat (us ++ (ys ∷ [])) ≡ flat us ++ ys
unfolding flat
flat_last [] ys = append-nil ys
flat_last (u ∷ us) ys = ap (λ (l : List Span). u ++ l) (flat_last us ys) ∙ sym (append_assoc u (flat us) ys)

flat_levels : (n b : ℕ) (xs : List Span) → flat (levels n b xs) ≡ levels_above n b (level b xs) ++ level b xs
unfolding levels levels_above flat
flat_levels zero b xs = append-nil (level b xs)
flat_levels (suc n) b xs =
    let l = length-level b xs in
    cases (leb (length xs) b)
    (λ e. rw (l, e) (append-nil (level b xs)))
    (λ e.
    rw (l, e, flat_last (levels n b (lasts b (level b xs))) (level b xs), flat_levels n b (lasts b (level b xs))))

pub levels_in_file : (b : ℕ) (xs : List Span) → flat (levels (length xs) b xs) ≡ upper_levels b (level b xs) ++ level b xs
unfolding upper_levels
levels_in_file b xs = flat_levels (length xs) b xs ∙ ap (λ (n : ℕ). levels_above n b (level b xs) ++ level b xs) (sym (length-level b xs))
