-- Where a number stands among rising positions: by two neighbours, and what that says of its rank. Every search of a kind ends here. Assumes nothing.
use Rattle.std.proofs.Common.{◌≡◌, ℕ, zero, suc, ◌+◌, ◌-◌, ◌<◌, ◌≤◌, true, false, eqb, ltb, List, [], ◌∷◌, length, get_or, sym, refl, ◌∙◌, add-zero, zero-add, arith, ltb-false, ltb-true, le-ltb, lt-ltb, eq-eqb, ne_eqb, eqb-true}
use borrow.Author.Tests.{eqb-false}
use Rattle.format.specs.Tools.{pick, range}
use Rattle.format.specs.Answers.{empty, given}
use Rattle.laws.proofs.Tools.{cases}
use Rattle.laws.proofs.Stored.{Rising}
use Rattle.laws.proofs.Positions.{rising-at}
use Rattle.laws.proofs.Search.{rank_among}
use Rattle.parts.specs.declared.Found.{Found}
use Rattle.parts.specs.Found.{count_below, among, FoundAmong}

-- ---- positions by their indices

pub get_or_range : (a n i : ℕ) → i < n → get_or (range a n) i 0 ≡ a + i
unfolding range
get_or_range a zero i h = absurd (omega arith)
get_or_range a (suc n) zero h = sym (add-zero a)
get_or_range a (suc n) (suc i) h = get_or_range (suc a) n i (omega arith) ∙ omega arith

pub rising-below : (a B : ℕ) (ls : List ℕ) (i : ℕ) → Rising a B ls → i < length ls → get_or ls i 0 < B
rising-below a B [] i r h = absurd (omega arith)
rising-below a B (l ∷ ls) zero r h = r.1
rising-below a B (l ∷ ls) (suc i) r h = rising-below (suc l) B ls i r.2 (omega arith)

pub rising_lt : (a B : ℕ) (ls : List ℕ) (i j : ℕ) → Rising a B ls → i < j → j < length ls → get_or ls i 0 < get_or ls j 0
rising_lt a B [] i j r h k = absurd (omega arith)
rising_lt a B (l ∷ ls) i zero r h k = absurd (omega arith)
rising_lt a B (l ∷ ls) zero (suc j) r h k = rising-at (suc l) B ls j r.2 (omega arith)
rising_lt a B (l ∷ ls) (suc i) (suc j) r h k = rising_lt (suc l) B ls i j r.2 (omega arith) (omega arith)

-- ---- how many are below p, and whether p is one

-- none, where all are above
pub count_none : (a p B : ℕ) (ls : List ℕ) → p ≤ a → Rising a B ls → count_below p ls ≡ 0
unfolding count_below
count_none a p B [] h r = refl
count_none a p B (l ∷ ls) h r = let o = r.0 in rw (le-ltb l p (omega arith), zero-add) (count_none (suc l) p B ls (omega arith) r.2)

among_none : (a p B : ℕ) (ls : List ℕ) → p < a → Rising a B ls → among p ls ≡ false
unfolding among
among_none a p B [] h r = refl
among_none a p B (l ∷ ls) h r = let o = r.0 in rw (ne_eqb l p (λ e. omega arith)) (among_none (suc l) p B ls (omega arith) r.2)

-- the first r are below p, and the others are not
module _ (p B : ℕ) where
  pub count_at : (a : ℕ) (ls : List ℕ) (r : ℕ) → Rising a B ls → r ≤ length ls → ((i : ℕ) → i < r → get_or ls i 0 < p)
      → (r < length ls → p ≤ get_or ls r 0) → count_below p ls ≡ r
  unfolding count_below
  count_at a [] zero o h below above = refl
  count_at a [] (suc r) o h below above = absurd (omega arith)
  count_at a (l ∷ ls) zero o h below above =
      let k : p ≤ l = above (omega arith) in
      rw (le-ltb l p k, zero-add) (count_none (suc l) p B ls (omega arith) o.2)
  count_at a (l ∷ ls) (suc r) o h below above =
      rw (lt-ltb l p (below 0 (omega arith)))
      (let c = count_at (suc l) ls r o.2 (omega arith) (λ i k. below (suc i) (omega arith)) (λ k. above (omega arith)) in omega arith)

  among-here : (a : ℕ) (ls : List ℕ) (r : ℕ) → Rising a B ls → r < length ls → get_or ls r 0 ≡ p → among p ls ≡ true
  unfolding among
  among-here a [] r o h e = absurd (omega arith)
  among-here a (l ∷ ls) zero o h e = rw (eq-eqb l p e)
  among-here a (l ∷ ls) (suc r) o h e =
      let n = rising-at (suc l) B ls r o.2 (omega arith) in
      rw (ne_eqb l p (λ q. omega arith)) (among-here (suc l) ls r o.2 (omega arith) e)

  among_gap : (a : ℕ) (ls : List ℕ) (r : ℕ) → Rising a B ls → r ≤ length ls → ((i : ℕ) → i < r → get_or ls i 0 < p)
      → (r < length ls → p < get_or ls r 0) → among p ls ≡ false
  unfolding among
  among_gap a [] r o h below above = refl
  among_gap a (l ∷ ls) zero o h below above =
      let k : p < l = above (omega arith) in
      rw (ne_eqb l p (λ q. omega arith)) (among_none (suc l) p B ls (omega arith) o.2)
  among_gap a (l ∷ ls) (suc r) o h below above =
      let k : l < p = below 0 (omega arith) in
      rw (ne_eqb l p (λ q. omega arith))
      (among_gap (suc l) ls r o.2 (omega arith) (λ i k. below (suc i) (omega arith)) (λ k. above (omega arith)))

-- ---- what a search found

module _ (B p : ℕ) (ls : List ℕ) (o : Rising 0 B ls) (r : ℕ) where
  -- the stored cell of rank r
  pub found_here : r < length ls → get_or ls r 0 ≡ p → (f : Found) → f.below ≡ r → f.here ≡ true → FoundAmong p ls f
  found_here h e f b t =
      record {
        below = rw b (sym_count h e);
        here = rw (t, among-here p B 0 ls r o h e);
      }
    where
      sym_count : r < length ls → get_or ls r 0 ≡ p → r ≡ count_below p ls
      sym_count h e =
          let c = count_at p B 0 ls r o (omega arith) (λ i k. let n = rising_lt 0 B ls i r o k h in omega arith) (λ k. omega arith) in
          omega arith

  -- an empty cell between two ranks, before the first or after the last
  pub found_gap : r ≤ length ls → (1 ≤ r → get_or ls (r - 1) 0 < p) → (r < length ls → p < get_or ls r 0)
      → (f : Found) → f.below ≡ r → f.here ≡ false → FoundAmong p ls f
  found_gap h low high f b t =
      let below : (i : ℕ) → i < r → get_or ls i 0 < p = before low in
      let c = count_at p B 0 ls r o h below (λ k. let g = high k in omega arith) in
      record {
        below = omega arith;
        here = rw (t, among_gap p B 0 ls r o h below high);
      }
    where
      before : (1 ≤ r → get_or ls (r - 1) 0 < p) → (i : ℕ) → i < r → get_or ls i 0 < p
      before low i k =
          let l = low (omega arith) in
          cases (eqb i (r - 1))
          (λ e. rw (eqb-true i (r - 1) e) l)
          (λ e. let ne = eqb-false i (r - 1) e in let n = rising_lt 0 B ls i (r - 1) o (lt_ne ne k) (omega arith) in omega arith)
        where
          lt_ne : {i r : ℕ} → (i ≡ r - 1 → ⊥) → i < r → i < r - 1
          lt_ne ne k = omega arith

-- ---- the rank by it

pub rank-found : (p B a r : ℕ) (ls : List ℕ) → Rising a B ls → rank_among p r ls ≡ pick (among p ls) (given (r + count_below p ls)) (empty (r + count_below p ls))
unfolding rank_among among count_below
rank-found p B a r [] o = rw (add-zero r)
rank-found p B a r (l ∷ ls) o =
    cases (ltb l p)
    (λ t.
    let k = ltb-true l p t in
    let n : suc r + count_below p ls ≡ r + (1 + count_below p ls) = omega arith in
    rw (t, ne_eqb l p (λ e. omega arith), ← n) (rank-found p B (suc l) (suc r) ls o.2))
    (λ t.
    let k = ltb-false l p t in
    let z : count_below p ls ≡ 0 = count_none (suc l) p B ls (omega arith) o.2 in
    let n : r + (0 + count_below p ls) ≡ r = omega arith in
    cases (eqb l p)
    (λ e. rw (t, e, n))
    (λ e. rw (t, e, n, among_none (suc l) p B ls (above (eqb-false l p e) k) o.2)))
  where
    above : {l p : ℕ} → (l ≡ p → ⊥) → p ≤ l → p < suc l
    above ne k = omega arith
