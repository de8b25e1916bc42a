-- What a search over the header's own counts answers, on accepted and on other bytes. Assumes nothing.
use Prim.Native.Nat.{ℕ}
use mathlib.Core.Path.{◌≡◌, refl}
use mathlib.Core.List.{List}
use Rattle.format.specs.declared.View.{View}
use Rattle.format.specs.Signals.{BEYOND}
use Rattle.format.specs.Answers.{Answer, refused}
use Rattle.format.specs.File.{WholeHeader}
use Rattle.format.specs.Opened.{view_of}
use Rattle.laws.proofs.Acceptance.{accepted, header-right}
use Rattle.search.specs.Searched.{CellSearched, RankSearched, PositionSearched}
use Rattle.reading.proofs.Answers.{cell-found, rank-found, position-found}
use Rattle.exports.specs.Unchecked.{Unchecked, cell_unchecked, rank_unchecked, position_unchecked}

-- bytes without a whole header
pub short-refused : (b : List ℕ) (direct : Answer) (InRange : Answer → Type 0) → (WholeHeader b → ⊥) → InRange (refused BEYOND)
    → Unchecked b direct InRange (refused BEYOND)
short-refused b direct InRange s r =
    record { right = λ h. absurd (s (header-right b (accepted b h).header).long); short = λ l. refl; free = r }

module _ (b : List ℕ) (v : View) (e : v ≡ view_of b) (l : WholeHeader b) (p : ℕ) (a : Answer) where
  pub cell_unchecked_lem : CellSearched b v p a → cell_unchecked b p a
  cell_unchecked_lem c =
      record {
        right = λ h. (cell-found b p v (record { accepted = h; view = e }) a c).said;
        short = λ s. absurd (s l);
        free = c.free;
      }

  pub rank_unchecked_lem : RankSearched b v p a → rank_unchecked b p a
  unfolding view_of
  rank_unchecked_lem c =
      record {
        right = λ h. (rank-found b p v (record { accepted = h; view = e }) a c).said;
        short = λ s. absurd (s l);
        free = rw e at c.free;
      }

  pub position_unchecked_lem : PositionSearched b v p a → position_unchecked b p a
  position_unchecked_lem c =
      record {
        right = λ h. (position-found b p v (record { accepted = h; view = e }) a c).said;
        short = λ s. absurd (s l);
        free = rw e at c.free;
      }
