-- Many positions at a time: what they add to each part, without the end. Assumes nothing.
use Rattle.std.specs.Prelude.{ℕ, ◌+◌, ◌≤◌, List, [], ◌∷◌, ◌++◌, length}
use Rattle.laws.proofs.Stored.{Rising}
use Rattle.stores.specs.Put.{put}
use Rattle.parts.specs.declared.Encoder.{Encoder}
use Rattle.parts.specs.Encoder.{Coder, taken_by}
use Rattle.parts.specs.Ready.{passed, Sound}

-- what the positions add to each part
unfoldable pub added_first_by : Coder → Encoder → List ℕ → List ℕ
added_first_by k e [] = []
added_first_by k e (p ∷ ls) = k.first e p ++ added_first_by k (taken_by k e p) ls

unfoldable pub added_second_by : Coder → Encoder → List ℕ → List ℕ
added_second_by k e [] = []
added_second_by k e (p ∷ ls) = k.second e p ++ added_second_by k (taken_by k e p) ls

-- d with the bytes that they add
unfoldable pub put_all_by : Coder → List ℕ → Encoder → List ℕ → List ℕ
put_all_by k d e ls = put (put d e.first (added_first_by k e ls)) e.second (added_second_by k e ls)

-- the positions can be taken next, one after the other
pub record Along (e : Encoder) (ls : List ℕ) : Type 0 where
  pub sound : Sound e
  pub rising : Rising (passed e) 16777216 ls

-- the bytes that they add have room in n elements, those of the first part before those of the second
pub record RoomAll (k : Coder) (e : Encoder) (ls : List ℕ) (n : ℕ) : Type 0 where
  pub first : e.first + length (added_first_by k e ls) ≤ e.second
  pub second : e.second + length (added_second_by k e ls) ≤ n

-- ---- a stretch of consecutive positions

-- the encoder m cells further in its run
unfoldable pub grown : Encoder → ℕ → Encoder
grown e m =
    record {
      rank = e.rank + m;
      last = e.last + m;
      left = e.left;
      base = e.base;
      cells = e.cells;
      empty = e.empty;
      first = e.first;
      second = e.second;
      fits = e.fits;
    }
