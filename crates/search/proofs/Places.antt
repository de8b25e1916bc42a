-- The answers of the searches on an accepted file. Assumes nothing.
use Prim.Native.Nat.{ℕ, ◌≤◌, ◌<◌}
use mathlib.Core.Path.{◌≡◌, sym, ap, ◌∙◌}
use mathlib.Core.Bool.{true}
use mathlib.Core.List.{List}
use native.Mathlib.Nat.{zero-add}
use native.Mathlib.Omega.{arith}
use lib.ListN.{length, get_or}
use lib.Dec.{ltb}
use borrow.Author.Tests.{lt-ltb, le-ltb, ltb-true, ltb-false}
use Rattle.format.specs.declared.View.{View}
use Rattle.format.specs.Tools.{pick}
use Rattle.format.specs.Answers.{refused, empty, given}
use Rattle.format.specs.Stored.{stored}
use Rattle.format.specs.Accepted.{empty_of, positions_of, words_of}
use Rattle.format.specs.Lookups.{rank_in, position_in}
use Rattle.format.specs.Opened.{Free, beyond, none, number}
use Rattle.laws.proofs.Tools.{cases}
use Rattle.laws.proofs.Search.{rank-among}
use Rattle.parts.specs.declared.Found.{Found}
use Rattle.parts.specs.Holds.{ViewOf, kind_of}
use Rattle.parts.specs.Found.{count_below, among, FoundIn, PositionIn}
use Rattle.parts.proofs.Places.{rising-below, rank-found}
use Rattle.parts.proofs.Seen.{seen}
use Rattle.search.specs.Searched.{rank_from, position_from, RankSearched, PositionSearched}

module _ (b : List ℕ) (v : View) where
  -- a position past the cells
  pub rank-past : (p : ℕ) → v.cells ≤ p → RankSearched b v p (refused 8)
  unfolding rank_in
  rank-past p h =
      record { right = λ o. let z = (seen b v o).words_size in sym (rw (le-ltb p (length (words_of b)) (omega arith))); free = beyond }

  -- a place that was found
  free-place : (f : Found) → (f.here ≡ true → f.below < v.words) → Free v.words (rank_from f)
  free-place f h = cases f.here (λ t. rw t (number f.below (h t))) (λ t. rw t (none f.below))

  pub rank-place : (p : ℕ) (f : Found) → p < v.cells → FoundIn (kind_of v) b v p f → RankSearched b v p (rank_from f)
  rank-place p f h s =
      record {
        right = λ o.
            let n = seen b v o in
            let z = n.words_size in
            let g = s.right (positions_of b) n.holds in
            rw (g.here, g.below)
            (sym
            (rank-among (empty_of b) p (words_of b) (omega arith)
            ∙ rw (← n.stored) (rank-found p v.cells 0 0 (positions_of b) n.holds.rising)
            ∙ ap (λ (k : ℕ). pick (among p (positions_of b)) (given k) (empty k)) (zero-add (count_below p (positions_of b)))));
        free = free-place f s.free;
      }

  -- a rank past the words
  stored-size : ViewOf b v → length (stored (empty_of b) (words_of b)) ≡ v.words
  stored-size o = let n = seen b v o in ap length (sym n.stored) ∙ n.holds.size

  pub position_past : (r : ℕ) → v.words ≤ r → PositionSearched b v r (refused 8)
  unfolding position_in
  position_past r h =
      record { right = λ o. let z = stored-size o in sym (rw (le-ltb r (length (stored (empty_of b) (words_of b))) (omega arith))); free = beyond }

  module _ (r q : ℕ) (h : r < v.words) (s : PositionIn (kind_of v) b v r q) where
    -- the position of a rank of an accepted file
    pub position_is : ViewOf b v → (q ≡ get_or (positions_of b) r 0) × (q < v.cells)
    position_is o =
        let n = (seen b v o).holds in
        let e = s.right (positions_of b) n h in
        let z = n.size in
        let k = rising-below 0 v.cells (positions_of b) r n.rising (omega arith) in
        (e, omega arith)

    position-forged : v.cells ≤ q → PositionSearched b v r (refused 8)
    position-forged k = record { right = λ o. let p = (position_is o).1 in absurd (omega arith); free = beyond }

    position_here : q < v.cells → PositionSearched b v r (given q)
    unfolding position_in
    position_here k =
        record {
          right = λ o.
              let z = stored-size o in
              let e = (position_is o).0 in
              sym (rw (lt-ltb r (length (stored (empty_of b) (words_of b))) (omega arith), ← (seen b v o).stored) (ap given (sym e)));
          free = number q k;
        }

    pub position-found : PositionSearched b v r (position_from q v.cells)
    position-found =
        cases (ltb q v.cells)
        (λ t. rw t (position_here (ltb-true q v.cells t)))
        (λ t. rw t (position-forged (ltb-false q v.cells t)))
