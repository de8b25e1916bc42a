-- What a right or a refused check says of the lookups and of expand. Assumes nothing.
use Prim.Native.Nat.{ℕ, zero, suc, ◌≤◌, ◌<◌}
use mathlib.Core.Path.{◌≡◌, refl, sym, ap, ◌∙◌}
use mathlib.Core.List.{List, ◌++◌}
use native.Mathlib.Omega.{arith}
use lib.ListN.{length, drop}
use borrow.Author.Tests.{lt-ltb, le-ltb}
use Rattle.format.specs.declared.View.{View}
use Rattle.format.specs.Signals.{SMALL}
use Rattle.format.specs.Answers.{Answer, refused, answered}
use Rattle.format.specs.Accepted.{empty_of, words_of, check_number, Checked}
use Rattle.format.specs.Calls.{expand_number, Expanded}
use Rattle.format.specs.Lookups.{cell_in, rank_in, position_in, cell_answer, rank_answer, position_answer, CellFound, RankFound, PositionFound}
use Rattle.parts.specs.Holds.{ViewOf}
use Rattle.parts.proofs.Seen.{seen}
use Rattle.search.specs.Searched.{CellSearched, RankSearched, PositionSearched}

-- ---- lookups

pub refuses : (m n : ℕ) (a : Answer) → n ≡ m → (m ≡ 0 → ⊥) → refused n ≡ answered m a
refuses zero n a e h = absurd (h refl)
refuses (suc m) n a e h = rw e

module _ (b : List ℕ) (p : ℕ) where
  module _ (n : ℕ) (e : n ≡ check_number b) (h : check_number b ≡ 0 → ⊥) where
    pub cell-refused : CellFound b p (refused n)
    cell-refused = record { said = unfold cell_answer in (refuses (check_number b) n (cell_in (words_of b) p) e h) }

    pub rank-refused : RankFound b p (refused n)
    rank-refused = record { said = unfold rank_answer in (refuses (check_number b) n (rank_in (empty_of b) (words_of b) p) e h) }

    pub position-refused : PositionFound b p (refused n)
    position-refused = record { said = unfold position_answer in (refuses (check_number b) n (position_in (empty_of b) (words_of b) p) e h) }

  module _ (v : View) (o : ViewOf b v) (a : Answer) where
    gives : a ≡ answered (check_number b) a
    gives = rw o.accepted

    pub cell-found : CellSearched b v p a → CellFound b p a
    cell-found s = record { said = unfold cell_answer in (rw (← s.right o) gives) }

    pub rank-found : RankSearched b v p a → RankFound b p a
    rank-found s = record { said = unfold rank_answer in (rw (← s.right o) gives) }

    pub position-found : PositionSearched b v p a → PositionFound b p a
    position-found s = record { said = unfold position_answer in (rw (← s.right o) gives) }

-- ---- expand

pub expand-refused : (b before : List ℕ) (n : ℕ) → Checked b n → (n ≡ 0 → ⊥) → Expanded b before n before
unfolding expand_number
expand-refused b before zero c h = absurd (h refl)
expand-refused b before (suc n) c h = record { number = let e = c.number in rw (← e); left = refl }

module _ (b : List ℕ) (v : View) (o : ViewOf b v) (before : List ℕ) where
  cells_seen : v.cells ≡ length (words_of b)
  cells_seen = sym (seen b v o).words_size

  pub expand-small : length before < v.cells → Expanded b before SMALL before
  unfolding expand_number
  expand-small h =
      let k : length before < length (words_of b) = omega (arith, cells_seen) in
      record { number = rw (o.accepted, lt-ltb (length before) (length (words_of b)) k); left = refl }

  pub expand_fills : (after : List ℕ) → v.cells ≤ length before → after ≡ words_of b ++ drop v.cells before → Expanded b before 0 after
  unfolding expand_number
  expand_fills after h e =
      let k : length (words_of b) ≤ length before = omega (arith, cells_seen) in
      record {
        number = rw (o.accepted, le-ltb (length before) (length (words_of b)) k);
        left = e ∙ ap (λ (n : ℕ). words_of b ++ drop n before) cells_seen;
      }
