-- What a search has reached, over the jumps and differences of stored positions. Assumes nothing.
use Rattle.std.proofs.Common.{◌≡◌, ℕ, ◌+◌, ◌-◌, ◌*◌, ◌<◌, ◌≤◌, true, false, eqb, leb, List, Some, length, get_or, sym, refl, ap, zero-add, arith, eqb-true, leb-false, leb-true}
use lib.Arith.{lt_of_le-ne}
use borrow.Author.Tests.{eqb-false}
use Rattle.format.specs.declared.View.{View}
use Rattle.laws.proofs.Tools.{cases}
use Rattle.wire.proofs.Laws.{other_width}
use Rattle.parts.specs.declared.Found.{Found}
use Rattle.parts.specs.Found.{FoundAmong}
use Rattle.parts.proofs.Places.{rising_lt, found_here, found_gap}
use Rattle.differences.specs.declared.walk.Reached.{Reached}
use Rattle.differences.specs.declared.walk.Place.{Place}
use Rattle.differences.specs.Walk.{walked, origin, Stopped}
use Rattle.jump_walk.specs.Width.{OfWidth}
use Rattle.jump_walk.specs.Held.{Held, FoundFrom}
use Rattle.jump_walk.specs.Passed.{Passed}
use Rattle.jump_walk.proofs.Ahead.{Reaches, reach_start, reach_walk}

-- a width that is not 1 is 2
pub of_width : (v : View) → (v.width ≡ 1 → ⊥) → OfWidth v 2
of_width v n = record { width = λ h k. other_width v.width h k n }

-- over the positions ls: s is what a search has reached at rank r, and the rank before is below p
pub record Below (b : List ℕ) (v : View) (w p r : ℕ) (s : Reached) (ls : List ℕ) : Type 0 where
  pub held : Held b v ls
  pub reaches : Reaches b w v.start v.second ls r s
  pub low : 1 ≤ r → get_or ls (r - 1) 0 < p

module _ (b : List ℕ) (v : View) (w : ℕ) where
  -- so has a search from rank q on, if it had at q
  abbrev pub Seeks : ℕ → ℕ → Reached → ℕ → Reached → Type 0
  Seeks p q t r s = (ls : List ℕ) → Below b v w p q t ls → Below b v w p r s ls

  module _ (ls : List ℕ) (h : Held b v ls) where
    pub width : OfWidth v w → v.width ≡ w
    width e = e.width h.laid.narrow h.laid.wide

    module _ (e : v.width ≡ w) where
      -- a file too short holds no positions
      pub too_short : length b < v.second + w * v.words → ⊥
      too_short k =
          let i = h.laid.inside in
          let m : v.width * v.words ≡ w * v.words = ap (λ (x : ℕ). x * v.words) e in
          omega arith

      -- what a walk of n ranks reaches
      walk_reaches : (n : ℕ) (t : Reached) → n < v.words → t ≡ walked w v.start v.second b 0 n (origin v.start b)
          → Reaches b w v.start v.second ls n t
      walk_reaches n t k q =
          let m = h.size in
          rw (q, ← e)
          (rw (zero-add n) at (reach_walk b v.width v.start v.second ls 0 (origin v.start b) (reach_start b v ls h (omega arith)) n (omega arith)))

      -- its position is that of rank n
      pub walk-position : (n : ℕ) (t : Reached) → n < v.words → t ≡ walked w v.start v.second b 0 n (origin v.start b)
          → t.position ≡ get_or ls n 0
      walk-position n t k q = (walk_reaches n t k q).position

  -- what is found, where a search from a place on leads to rank r
  pub found_from : (from : Place) (p : ℕ) → from.rank < v.words → (r : ℕ) (s : Reached) → Seeks p from.rank from.reached r s → (f : Found)
      → ((ls : List ℕ) → Below b v w p r s ls → FoundAmong p ls f) → (f.here ≡ true → f.below < v.words) → FoundFrom b v w from p f
  found_from from p k r s g f found free =
      record {
        right = λ ls h e q l. found ls (g ls (record { held = h; reaches = walk_reaches ls h e from.rank from.reached k q; low = l }));
        free = free;
      }

  -- ---- on from a place, over ranks below p

  module _ (from : Place) (p : ℕ) (t : Place) where
    seeks_walked : from.rank ≤ t.rank → t.rank < v.words
        → t.reached ≡ walked w v.start v.second b from.rank (t.rank - from.rank) from.reached
        → ((ls : List ℕ) → Below b v w p from.rank from.reached ls → Reaches b w v.start v.second ls t.rank t.reached → from.rank < t.rank
        → get_or ls (t.rank - 1) 0 < p)
        → Seeks p from.rank from.reached t.rank t.reached
    seeks_walked h k q l ls y =
        let m = y.held.size in
        let e : from.rank + (t.rank - from.rank) ≡ t.rank = omega arith in
        let g : Reaches b w v.start v.second ls t.rank t.reached
        = rw (e, ← q) at (reach_walk b w v.start v.second ls from.rank from.reached y.reaches (t.rank - from.rank) (omega arith)) in
        record {
          held = y.held;
          reaches = g;
          low = λ i.
              cases (leb t.rank from.rank)
              (λ x. let z = leb-true t.rank from.rank x in let o : from.rank ≡ t.rank = omega arith in (rw o at y.low) i)
              (λ x. l ls y g (leb-false t.rank from.rank x));
        }

    -- by groups
    pub seeks_group : (n : ℕ) → Stopped w v.start v.second b from n (Some p) t → t.rank < v.words
        → Seeks p from.rank from.reached t.rank t.reached
    seeks_group n z k =
        seeks_walked z.least k z.there λ ls y g h.
        let m = y.held.size in
        let a = g.position in
        let d = z.below p refl h in
        let o = rising_lt 0 v.cells ls (t.rank - 1) t.rank y.held.rising (omega arith) (omega arith) in
        omega arith

    -- rank by rank
    pub seeks_passed : Passed b v w from p t → Seeks p from.rank from.reached t.rank t.reached
    seeks_passed z =
        let k = z.most in
        seeks_walked z.least k z.there λ ls y g h.
        let m = y.held.size in
        let n = t.rank - 1 - from.rank in
        let e : from.rank + n ≡ t.rank - 1 = omega arith in
        let a = rw e at (reach_walk b w v.start v.second ls from.rank from.reached y.reaches n (omega arith)).position in
        let d = z.below n (omega arith) in
        omega arith

  -- ---- where it stops

  module _ (p r : ℕ) (s : Reached) where
    module _ (ls : List ℕ) (y : Below b v w p r s ls) where
      -- the position of rank r is not below p
      pub stops : r < v.words → p ≤ s.position → FoundAmong p ls (record { below = r; here = eqb s.position p })
      stops h k =
          let m = y.held.size in
          let a = y.reaches.position in
          cases (eqb s.position p)
          (λ e. let q = eqb-true s.position p e in found_here v.cells p ls y.held.rising r (omega arith) (omega arith) _ refl e)
          (λ e.
          let q = eqb-false s.position p e in
          let o : p < s.position = lt_of_le-ne k (λ x. q (sym x)) in
          found_gap v.cells p ls y.held.rising r (omega arith) y.low (λ i. omega arith) _ refl e)

      -- no rank is left
      pub ends : s.position < p → r + 1 ≡ v.words → FoundAmong p ls (record { below = v.words; here = false })
      ends k h =
          let m = y.held.size in
          let a = y.reaches.position in
          let e : v.words - 1 ≡ r = omega arith in
          found_gap v.cells p ls y.held.rising v.words (omega arith) (λ i. rw e (omega arith)) (λ i. absurd (omega arith)) _ refl refl
