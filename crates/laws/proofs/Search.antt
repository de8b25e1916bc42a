-- The searches find the rank. Assumes nothing.
use Prim.Native.Nat.{ℕ, zero, suc, ◌+◌, ◌-◌, ◌≤◌, ◌<◌}
use mathlib.Core.Path.{◌≡◌, refl, sym, ap, ◌∙◌, subst}
use mathlib.Core.List.{List, [], ◌∷◌, ◌++◌}
use native.Mathlib.Nat.{le_refl, zero-add, add-zero, sub-zero}
use native.Mathlib.Omega.{arith}
use lib.ListN.{length, take, get_or}
use lib.Arith.{lt_of_le-ne}
use lib.Dec.{eqb, ltb}
use borrow.Author.Tests.{eqb-true, eqb-false, eq-eqb, ne_eqb, ltb-true, ltb-false, lt-ltb, le-ltb}
use Rattle.format.specs.Tools.{pick, range}
use Rattle.format.specs.Stored.{stored_from, stored, kept, rank_at}
use Rattle.format.specs.Runs.{Span, positions_from}
use Rattle.format.specs.PagedRuns.{plus, all_cells, stored_cells, position_at_place, Place, lost, at, rank_at_place}
use Rattle.format.specs.Answers.{Answer, empty, given, refused}
use Rattle.format.specs.Lookups.{rank_in}
use Rattle.laws.proofs.Stored.{Rising, rising-stored, length-stored}
use Rattle.laws.proofs.Tools.{cases}

-- ---- among positions

-- the rank of position p among rising positions, the first of which has rank r; where it is none of them, how many are below it
unfoldable pub rank_among : ℕ → ℕ → List ℕ → Answer
rank_among p r [] = empty r
rank_among p r (l ∷ ls) = let later = rank_among p (suc r) ls in pick (ltb l p) later (pick (eqb l p) (given r) (empty r))

-- along length pairs: the first whose count exceeds what is left of the number
unfoldable pub seek_from : (Span → ℕ) → ℕ → ℕ → Span → List Span → Place
seek_from m i p a [] = lost a
seek_from m i p a (x ∷ xs) =
    let later = seek_from m (suc i) (p - m x) (plus a x) xs in
    pick (ltb p (m x)) (at i p a x) later

pub not-among : (p r B : ℕ) (ls : List ℕ) → Rising (suc p) B ls → rank_among p r ls ≡ empty r
unfolding rank_among
not-among p r B [] o = refl
not-among p r B (l ∷ ls) o = rw (le-ltb l p (omega arith), ne_eqb l p (λ e. omega arith))

pub among_head : (p r : ℕ) (ls : List ℕ) → rank_among p r (p ∷ ls) ≡ given r
unfolding rank_among
among_head p r ls = rw (le-ltb p p (le_refl p), eq-eqb p p refl)

pub among_later : (p r l : ℕ) (ls : List ℕ) → l < p → rank_among p r (l ∷ ls) ≡ rank_among p (suc r) ls
unfolding rank_among
among_later p r l ls h = rw (lt-ltb l p h)

-- a stretch of n positions from a on: above p, around it and below it
among-range-above : (p r a n : ℕ) (ls : List ℕ) → p < a → rank_among p r ls ≡ empty r → rank_among p r (range a n ++ ls) ≡ empty r
unfolding range rank_among
among-range-above p r a zero ls h e = e
among-range-above p r a (suc n) ls h e = rw (le-ltb a p (omega arith), ne_eqb a p (λ z. omega arith))

among-range_in : (p r a n : ℕ) (ls : List ℕ) → a ≤ p → p < a + n → rank_among p r (range a n ++ ls) ≡ given (r + (p - a))
unfolding range
among-range_in p r a zero ls h k = absurd (omega arith)
among-range_in p r a (suc n) ls h k =
    cases (eqb a p)
    (λ e.
    let m : a ≡ p = eqb-true a p e in
    let z : r + (p - a) ≡ r = omega arith in
    subst (λ (x : ℕ). rank_among p r (x ∷ (range (suc a) n ++ ls)) ≡ given (r + (p - a))) (sym m) (among_head p r (range (suc a) n ++ ls) ∙ ap given (sym z)))
    (λ e.
    let lt : a < p = lt_of_le-ne h (eqb-false a p e) in
    among_later p r a (range (suc a) n ++ ls) lt ∙ among-range_in p (suc r) (suc a) n ls lt (omega arith) ∙ ap given (omega arith))

among-range-past : (p r a n : ℕ) (ls : List ℕ) → a + n ≤ p → rank_among p r (range a n ++ ls) ≡ rank_among p (r + n) ls
unfolding range
among-range-past p r a zero ls h = rw (add-zero r)
among-range-past p r a (suc n) ls h =
    among_later p r a (range (suc a) n ++ ls) (omega arith)
    ∙ among-range-past p (suc r) (suc a) n ls (omega arith)
    ∙ ap (λ (k : ℕ). rank_among p k ls) (omega arith)

among_from : (E q i r : ℕ) (ws : List ℕ) → i < length ws
    → rank_among (q + i) r (stored_from E q ws) ≡ pick (eqb (get_or ws i 0) E) (empty (r + length (kept E (take i ws)))) (given (r + length (kept E (take i ws))))
unfolding stored_from kept
among_from E q i r [] h = absurd (omega arith)
among_from E q zero r (x ∷ ws) h =
    cases (eqb x E)
    (λ e. rw (e, add-zero q, add-zero r) (not-among q r (suc q + length ws) (stored_from E (suc q) ws) (rising-stored E (suc q) (suc q + length ws) ws (le_refl _))))
    (λ e. rw (e, add-zero q, add-zero r) (among_head q r (stored_from E (suc q) ws)))
among_from E q (suc i) r (x ∷ ws) h =
    let n : q + suc i ≡ suc q + i = omega arith in
    cases (eqb x E)
    (λ e. rw (e, n) (among_from E (suc q) i r ws (omega arith)))
    (λ e.
    let m : r + suc (length (kept E (take i ws))) ≡ suc r + length (kept E (take i ws)) = omega arith in
    rw (e, among_later (q + suc i) r q (stored_from E (suc q) ws) (omega arith), n, m) (among_from E (suc q) i (suc r) ws (omega arith)))

-- the rank at a position of a picture is that among its stored positions
pub rank-among : (E p : ℕ) (ws : List ℕ) → p < length ws → rank_in E ws p ≡ rank_among p 0 (stored E ws)
unfolding rank_in rank_at stored
rank-among E p ws h =
    let n : ℕ = 0 + length (kept E (take p ws)) in
    let e : rank_among (0 + p) 0 (stored_from E 0 ws) ≡ pick (eqb (get_or ws p 0) E) (empty n) (given n) = among_from E 0 p 0 ws h in
    rw (lt-ltb p (length ws) h, length-stored E 0 (take p ws)) (sym (rw (zero-add p, zero-add (length (kept E (take p ws)))) at e))

-- ---- along length pairs, of any list: what kinds 1 and 5 share

-- positions from `at` on are not below it
positions-rise : (p r from : ℕ) (xs : List Span) → p < from → rank_among p r (positions_from from xs) ≡ empty r
unfolding positions_from
positions-rise p r from [] h = unfold rank_among in refl
positions-rise p r from (x ∷ xs) h =
    among-range-above p r (from + x.empty) (x.cells - x.empty) (positions_from (from + x.cells) xs) (omega arith)
    (positions-rise p r (from + x.cells) xs (omega arith))

-- no pair has more empty cells than cells
abbrev pub Proper : List Span → Type 0
Proper [] = Unit
Proper (x ∷ xs) = (x.empty ≤ x.cells) × Proper xs

-- `from` is where the pairs begin, a the sum of the pairs before them
pub along : (from p i : ℕ) (a : Span) (xs : List Span) → from ≤ p → a.empty ≤ a.cells → Proper xs
    → rank_among p (a.cells - a.empty) (positions_from from xs) ≡ rank_at_place (seek_from all_cells i (p - from) a xs)
unfolding positions_from seek_from
along from p i a [] h g o = unfold rank_among in refl
along from p i a (x ∷ xs) h g o =
    cases (ltb (p - from) x.cells)
    (λ e. let k = ltb-true (p - from) x.cells e in rw e (inside (p - from) k))
    (λ e.
    let k = ltb-false (p - from) x.cells e in
    let n : p - from - x.cells ≡ p - (from + x.cells) = omega arith in
    let m : a.cells - a.empty + (x.cells - x.empty) ≡ a.cells + x.cells - (a.empty + x.empty) = omega arith in
    rw (e, among-range-past p (a.cells - a.empty) (from + x.empty) (x.cells - x.empty) (positions_from (from + x.cells) xs) (omega arith), n, m)
    (along (from + x.cells) p (suc i) (plus a x) xs (omega arith) (omega arith) o.1))
  where
    inside : (q : ℕ) → p - from < x.cells
        → rank_among p (a.cells - a.empty) (range (from + x.empty) (x.cells - x.empty) ++ positions_from (from + x.cells) xs)
        ≡ rank_at_place (at i (p - from) a x)
    inside q k =
        cases (ltb (p - from) x.empty)
        (λ e.
        let t = ltb-true (p - from) x.empty e in
        rw e
        (among-range-above p (a.cells - a.empty) (from + x.empty) (x.cells - x.empty) (positions_from (from + x.cells) xs) (omega arith)
        (positions-rise p (a.cells - a.empty) (from + x.cells) xs (omega arith))))
        (λ e.
        let t = ltb-false (p - from) x.empty e in
        let n : p - from - x.empty ≡ p - (from + x.empty) = omega arith in
        rw (e, n) (among-range_in p (a.cells - a.empty) (from + x.empty) (x.cells - x.empty) (positions_from (from + x.cells) xs) (omega arith) (omega arith)))

-- ---- the position of a rank

unfoldable pub position_among : ℕ → List ℕ → Answer
position_among r ls = pick (ltb r (length ls)) (given (get_or ls r 0)) (refused 8)

among-suc : (r l : ℕ) (ls : List ℕ) → position_among (suc r) (l ∷ ls) ≡ position_among r ls
unfolding position_among
among-suc r l ls =
    cases (ltb r (length ls))
    (λ e. let t = ltb-true r (length ls) e in rw (e, lt-ltb (suc r) (suc (length ls)) (omega arith)))
    (λ e. let t = ltb-false r (length ls) e in rw (e, le-ltb (suc r) (suc (length ls)) (omega arith)))

position-range_in : (r a n : ℕ) (ls : List ℕ) → r < n → position_among r (range a n ++ ls) ≡ given (a + r)
unfolding range
position-range_in r a zero ls h = absurd (omega arith)
position-range_in zero a (suc n) ls h = unfold position_among in (rw (lt-ltb 0 (suc (length (range (suc a) n ++ ls))) (omega arith)) (ap given (sym (add-zero a))))
position-range_in (suc r) a (suc n) ls h = among-suc r a (range (suc a) n ++ ls) ∙ position-range_in r (suc a) n ls (omega arith) ∙ ap given (omega arith)

position-range-past : (r a n : ℕ) (ls : List ℕ) → n ≤ r → position_among r (range a n ++ ls) ≡ position_among (r - n) ls
unfolding range
position-range-past r a zero ls h = rw (sub-zero r)
position-range-past zero a (suc n) ls h = absurd (omega arith)
position-range-past (suc r) a (suc n) ls h =
    among-suc r a (range (suc a) n ++ ls) ∙ position-range-past r (suc a) n ls (omega arith) ∙ ap (λ (k : ℕ). position_among k ls) (omega arith)

pub along-position : (r i : ℕ) (a : Span) (xs : List Span) → position_among r (positions_from a.cells xs) ≡ position_at_place (seek_from stored_cells i r a xs)
unfolding positions_from seek_from
along-position r i a [] = unfold position_among in (rw (le-ltb r 0 (omega arith)))
along-position r i a (x ∷ xs) =
    cases (ltb r (x.cells - x.empty))
    (λ e. rw e (position-range_in r (a.cells + x.empty) (x.cells - x.empty) (positions_from (a.cells + x.cells) xs) (ltb-true r (x.cells - x.empty) e)))
    (λ e.
    rw e
    (position-range-past r (a.cells + x.empty) (x.cells - x.empty) (positions_from (a.cells + x.cells) xs) (ltb-false r (x.cells - x.empty) e)
    ∙ along-position (r - (x.cells - x.empty)) (suc i) (plus a x) xs))
