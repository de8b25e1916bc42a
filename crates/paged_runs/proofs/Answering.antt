-- What the place that a search finds says: where a position stands among the stored ones, and the position of a rank. Assumes nothing.
use Rattle.std.proofs.Common.{◌≡◌, ℕ, Option, Some, None, zero, suc, ◌+◌, ◌-◌, ◌*◌, ◌/◌, ◌%◌, ◌^◌, ◌<◌, ◌≤◌, true, false, eqb, ltb, leb, List, [], ◌∷◌, ◌++◌, length, sym, refl, add-zero, arith, length-append, ltb-false, ltb-true, le-ltb, lt-ltb, eq-eqb, ne_eqb, eqb-true, leb-false, leb-true}
use lib.Arith.{lt_of_le-ne}
use borrow.Author.Tests.{eqb-false}
use Rattle.format.specs.Tools.{both, range}
use Rattle.format.specs.Answers.{given}
use Rattle.format.specs.Runs.{Span, positions_from}
use Rattle.format.specs.PagedRuns.{plus, none, all_cells, stored_cells, Place, lost, at, position_at_place}
use Rattle.laws.proofs.Tools.{cases, both_true, length-range}
use Rattle.laws.proofs.Search.{seek_from, Proper}
use Rattle.parts.specs.declared.Found.{Found}
use Rattle.parts.specs.declared.RunPart.{RunPart}
use Rattle.parts.specs.Found.{count_below, among}
use Rattle.descent.specs.declared.search.Asked.TheVariants as ask
use Rattle.descent.specs.Descent.{answered}

-- ---- a position among others, r of which are counted already

pub record CountedFrom (p r : ℕ) (ls : List ℕ) (f : Found) : Type 0 where
  pub below : f.below ≡ r + count_below p ls
  pub here : f.here ≡ among p ls

-- all are above p
abbrev Clear : ℕ → List ℕ → Type 0
Clear p ls = (count_below p ls ≡ 0) × (among p ls ≡ false)

-- a stretch of n positions from a on: above p, around it and below it
clear_range : (p a n : ℕ) (ls : List ℕ) → p < a → Clear p ls → Clear p (range a n ++ ls)
unfolding range count_below among
clear_range p a zero ls h c = c
clear_range p a (suc n) ls h c =
    let i = clear_range p (suc a) n ls (omega arith) c in
    let i0 = i.0 in
    (rw (le-ltb a p (omega arith)) (omega arith), rw (ne_eqb a p (λ z. omega arith)) i.1)

inside : (p r a n : ℕ) (ls : List ℕ) → a ≤ p → p < a + n → Clear p ls → CountedFrom p r (range a n ++ ls) (record { below = r + (p - a); here = true })
unfolding range count_below among
inside p r a zero ls h k c = absurd (omega arith)
inside p r a (suc n) ls h k c =
    cases (eqb a p)
    (λ e.
    let m = eqb-true a p e in
    let d = clear_range p (suc a) n ls (omega arith) c in
    let d0 = d.0 in
    record { below = rw (le-ltb a p (omega arith)) (omega arith); here = rw e })
    (λ e.
    let lt : a < p = lt_of_le-ne h (eqb-false a p e) in
    let i = inside p (suc r) (suc a) n ls lt (omega arith) c in
    let i0 = i.below in
    record { below = rw (lt-ltb a p lt) (omega arith); here = rw e i.here })

past : (p r a n : ℕ) (ls : List ℕ) (f : Found) → a + n ≤ p → CountedFrom p (r + n) ls f → CountedFrom p r (range a n ++ ls) f
unfolding range count_below among
past p r a zero ls f h w = rw (add-zero r) at w
past p r a (suc n) ls f h w =
    let e : suc r + n ≡ r + suc n = omega arith in
    let i = past p (suc r) (suc a) n ls f (omega arith) (rw e w) in
    let i0 = i.below in
    record { below = rw (lt-ltb a p (omega arith)) (omega arith); here = rw (ne_eqb a p (λ z. omega arith)) i.here }

clear_from : (p from : ℕ) (xs : List Span) → p < from → Clear p (positions_from from xs)
unfolding positions_from
clear_from p from [] h = unfold count_below among in (refl, refl)
clear_from p from (x ∷ xs) h =
    clear_range p (from + x.empty) (x.cells - x.empty) (positions_from (from + x.cells) xs) (omega arith)
    (clear_from p (from + x.cells) xs (omega arith))

-- ---- the place of a position

-- by what a search answers: of the cells below p those that are not empty, or all n words where no run is reached
abbrev pub place_by : Option ℕ → ℕ → ℕ → Found
place_by None p n = record { below = n; here = false }
place_by (Some e) p n = record { below = p - e / 2; here = both (eqb (e % 2) 1) (ltb (p - e / 2) n) }

place-empty : (m p n : ℕ) → place_by (Some (2 * m)) p n ≡ record { below = p - m; here = false }
place-empty m p n =
    let h : 2 * m / 2 ≡ m = omega arith in
    rw (h, ne_eqb (2 * m % 2) 1 (λ z. omega arith))

place-stored : (m p n : ℕ) → p - m < n → place_by (Some (2 * m + 1)) p n ≡ record { below = p - m; here = true }
place-stored m p n k =
    let h : (2 * m + 1) / 2 ≡ m = omega arith in
    rw (h, eq-eqb ((2 * m + 1) % 2) 1 (omega arith), lt-ltb (p - m) n k)

-- Arithmetic of one run past c cells, e of them empty; q is what is left of p.
module _ (c e q p : ℕ) (g : e ≤ c) (h : c + q ≡ p) where
  gap_rank : p - (e + q) ≡ c - e
  gap_rank = omega arith

  stored-rank : (x : ℕ) → x ≤ q → p - (e + x) ≡ c - e + (p - (c + x))
  stored-rank x k = omega arith

  ranks-past : (x y : ℕ) → y ≤ x → c - e + (x - y) ≡ c + x - (e + y)
  ranks-past x y k = omega arith

-- along pairs, a before them, with n stored cells in all
pub place-along : (p n i q : ℕ) (a : Span) (xs : List Span) → p < 2 ^ 32 → Proper xs → a.empty ≤ a.cells → a.cells + q ≡ p
    → n ≡ a.cells - a.empty + length (positions_from a.cells xs)
    → CountedFrom p (a.cells - a.empty) (positions_from a.cells xs) (place_by (answered ask.Place (seek_from all_cells i q a xs)) p n)
unfolding positions_from seek_from
place-along p n i q a [] s o g h m = unfold count_below among in (record { below = m; here = refl })
place-along p n i q a (x ∷ xs) f o g h m =
    let o0 = o.0 in
    let later = positions_from (a.cells + x.cells) xs in
    let l = length-append (range (a.cells + x.empty) (x.cells - x.empty)) later in
    let s = length-range (a.cells + x.empty) (x.cells - x.empty) in
    let k : n ≡ a.cells - a.empty + (x.cells - x.empty + length later) = omega arith in
    cases (ltb q x.cells)
    (λ e. let t = ltb-true q x.cells e in rw e (here k t))
    (λ e.
    let t = ltb-false q x.cells e in
    let r = ranks-past a.cells a.empty q p g h x.cells x.empty o0 in
    rw e
    (past p (a.cells - a.empty) (a.cells + x.empty) (x.cells - x.empty) later _ (omega arith)
    (rw r (place-along p n (suc i) (q - x.cells) (plus a x) xs f o.1 (omega arith) (omega arith) (omega arith)))))
  where
    here : n ≡ a.cells - a.empty + (x.cells - x.empty + length (positions_from (a.cells + x.cells) xs)) → q < x.cells
        → CountedFrom p (a.cells - a.empty) (range (a.cells + x.empty) (x.cells - x.empty) ++ positions_from (a.cells + x.cells) xs)
        (place_by (answered ask.Place (at i q a x)) p n)
    here k t =
        let c = clear_from p (a.cells + x.cells) xs (omega arith) in
        cases (leb x.empty q)
        (λ u.
        let w = leb-true x.empty q u in
        let d = inside p (a.cells - a.empty) (a.cells + x.empty) (x.cells - x.empty) (positions_from (a.cells + x.cells) xs)
        (omega arith) (omega arith) c in
        let d0 = d.below in
        let z = stored-rank a.cells a.empty q p g h x.empty w in
        rw (u, place-stored (a.empty + x.empty) p n (omega arith)) (record { below = omega arith; here = d.here }))
        (λ u.
        let w = leb-false x.empty q u in
        let d = clear_range p (a.cells + x.empty) (x.cells - x.empty) (positions_from (a.cells + x.cells) xs) (omega arith) c in
        let d0 = d.0 in
        let z = gap_rank a.cells a.empty q p g h in
        rw (u, place-empty (a.empty + q) p n) (record { below = omega arith; here = sym d.1 }))

-- any stored cell has a rank below n
pub place-free : (e : Option ℕ) (p n : ℕ) → (place_by e p n).here ≡ true → (place_by e p n).below < n
place-free None p n h = let z : ◌≡◌ {A = ℕ} 0 1 = cc in absurd (omega arith)
place-free (Some e) p n h = ltb-true (p - e / 2) n (both_true (eqb (e % 2) 1) (ltb (p - e / 2) n) h).1

-- ---- the position of a rank

-- the stored cells before a place and the number that is left make up the rank
abbrev pub StoredAt : ℕ → Place → Type 0
StoredAt r (lost a) = Unit
StoredAt r (at i q a x) = (a.cells - a.empty + q ≡ r) × (a.empty ≤ a.cells)

stored_from_lem : (i r q : ℕ) (a : Span) (xs : List Span) → Proper xs → a.empty ≤ a.cells → a.cells - a.empty + q ≡ r
    → StoredAt r (seek_from stored_cells i q a xs)
unfolding seek_from
stored_from_lem i r q a [] o g h = tt
stored_from_lem i r q a (x ∷ xs) o g h =
    let o0 = o.0 in
    cases (ltb q (x.cells - x.empty))
    (λ e. rw e (h, g))
    (λ e.
    let t = ltb-false q (x.cells - x.empty) e in
    rw e (stored_from_lem (suc i) r (q - (x.cells - x.empty)) (plus a x) xs o.1 (omega arith) (omega arith)))

pub stored_at : (r : ℕ) (xs : List Span) → Proper xs → StoredAt r (seek_from stored_cells 0 r none xs)
stored_at r xs o = stored_from_lem 0 r r none xs o (omega arith) (omega arith)

-- by what a search answers: the rank and the empty cells up to it, or 0 where no run is reached
abbrev pub position_by : Option ℕ → ℕ → ℕ
position_by None r = 0
position_by (Some e) r = r + e / 2

-- the same of the ranks of its run from there on
abbrev pub part_by : Option ℕ → ℕ → RunPart
part_by None r = record { at = r + 4294967295; cells = 4294967295 }
part_by (Some e) r = record { at = r + e / 2 ^ 32; cells = e % 2 ^ 32 }

pub position_at : (r k : ℕ) (q : Place) → StoredAt r q → position_at_place q ≡ given k → k < 2 ^ 32 → position_by (answered ask.Rank q) r ≡ k
position_at r k (lost a) h e l = let z : ◌≡◌ {A = ℕ} 0 1 = cc in absurd (omega arith)
position_at r k (at i q a x) h e l =
    let h0 = h.0 in
    let h1 = h.1 in
    let d : a.cells + x.empty + q ≡ k = cc in
    let m : (2 * (a.empty + x.empty) + 1) / 2 ≡ a.empty + x.empty = omega arith in
    rw m (omega arith)
