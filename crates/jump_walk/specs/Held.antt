-- The jumps and differences of stored positions, at the places that a view names, and what a search from a place on finds. Assumes nothing.
use Rattle.std.specs.Prelude.{◌≡◌, ℕ, ◌-◌, ◌<◌, ◌≤◌, true, List, length, slice_index}
use Rattle.format.specs.declared.View.{View}
use Rattle.format.specs.Jumps.{differences, jumps}
use Rattle.laws.proofs.Stored.{Rising}
use Rattle.parts.specs.declared.Found.{Found}
use Rattle.parts.specs.Found.{FoundAmong}
use Rattle.parts.proofs.Entries.{Entries}
use Rattle.differences.specs.declared.walk.Place.{Place}
use Rattle.differences.specs.Walk.{Laid, walked, origin}

-- the jumps and differences of the positions ls
pub record Held (b : List ℕ) (v : View) (ls : List ℕ) : Type 0 where
  pub laid : Laid b v
  pub rising : Rising 0 v.cells ls
  pub size : length ls ≡ v.words
  pub count : length (jumps v.width ls) ≡ v.firsts
  pub jumps : Entries b 4 v.start 0 (jumps v.width ls)
  pub differences : Entries b v.width v.second 0 (differences v.width ls)

-- some positions are held
abbrev pub SomeHeld : List ℕ → View → Type 0
SomeHeld b v = (ls : List ℕ) × Held b v ls

-- where the place is reached from rank 0 on, and the rank before it is below p: the place of p among the positions; over any bytes a stored cell has a
-- rank below the words
pub record FoundFrom (b : List ℕ) (v : View) (w : ℕ) (from : Place) (p : ℕ) (f : Found) : Type 0 where
  pub right : (ls : List ℕ) → Held b v ls → v.width ≡ w → from.reached ≡ walked w v.start v.second b 0 from.rank (origin v.start b)
      → (1 ≤ from.rank → slice_index ls (from.rank - 1) < p) → FoundAmong p ls f
  pub free : f.here ≡ true → f.below < v.words
