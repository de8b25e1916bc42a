-- A search as it goes from a place on, rank by rank, over any bytes. Assumes nothing.
use Rattle.std.specs.Prelude.{◌≡◌, ℕ, ◌+◌, ◌-◌, ◌<◌, ◌≤◌, List}
use Rattle.format.specs.declared.View.{View}
use Rattle.differences.specs.declared.walk.Place.{Place}
use Rattle.differences.specs.Walk.{walked, Within}

-- from a place on to t, a rank below the words, over ranks whose positions are below p
pub record Passed (b : List ℕ) (v : View) (w : ℕ) (from : Place) (p : ℕ) (t : Place) : Type 0 where
  pub least : from.rank ≤ t.rank
  pub most : t.rank < v.words
  pub there : t.reached ≡ walked w v.start v.second b from.rank (t.rank - from.rank) from.reached
  pub within : Within (t.rank + 1) t.reached
  pub below : (k : ℕ) → from.rank + k < t.rank → (walked w v.start v.second b from.rank k from.reached).position < p

-- over n ranks at most: over fewer only to a position from p on, or to the last rank
pub record Near (b : List ℕ) (v : View) (w : ℕ) (from : Place) (p n : ℕ) (t : Place) : Type 0 where
  pub passed : Passed b v w from p t
  pub few : t.rank ≤ from.rank + n
  pub ends : t.reached.position < p → t.rank + 1 < v.words → t.rank ≡ from.rank + n
