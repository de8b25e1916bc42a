-- What the searches of a kind answer, for any bytes and any view. Assumes nothing.
use Rattle.std.specs.Prelude.{◌≡◌, ℕ, ◌+◌, ◌<◌, ◌≤◌, Bool, true, false, List, [], ◌∷◌, length, ◌==◌, nat_lt, slice_index}
use Rattle.format.specs.declared.View.{View}
use Rattle.format.specs.Tools.{pick}
use Rattle.format.specs.Codec.{Codec}
use Rattle.parts.specs.declared.Found.{Found}
use Rattle.parts.specs.declared.RunPart.{RunPart}
use Rattle.parts.specs.Holds.{Holds}

-- how many elements are below p
unfoldable pub count_below : ℕ → List ℕ → ℕ
count_below p [] = 0
count_below p (l ∷ ls) = pick (nat_lt l p) 1 0 + count_below p ls

-- p is one of the elements
unfoldable pub among : ℕ → List ℕ → Bool
among p [] = false
among p (l ∷ ls) = pick (l == p) true (among p ls)

-- the place of p among the stored positions ls
pub record FoundAmong (p : ℕ) (ls : List ℕ) (f : Found) : Type 0 where
  pub below : f.below ≡ count_below p ls
  pub here : f.here ≡ among p ls

-- over parts that hold stored positions the place among them, and over any other bytes and view a stored cell has a rank below the words
pub record FoundIn (k : Codec) (b : List ℕ) (v : View) (p : ℕ) (f : Found) : Type 0 where
  pub right : (ls : List ℕ) → Holds k b v ls → FoundAmong p ls f
  pub free : f.here ≡ true → f.below < v.words

-- over parts that hold stored positions the position of the rank r; over any other bytes and view any number
pub record PositionIn (k : Codec) (b : List ℕ) (v : View) (r q : ℕ) : Type 0 where
  pub right : (ls : List ℕ) → Holds k b v ls → r < v.words → q ≡ slice_index ls r

-- the rank r stands at f.at, and the ranks after it, f.cells in all, at the cells that follow
pub record PartOf (ls : List ℕ) (r : ℕ) (f : RunPart) : Type 0 where
  pub some : 1 ≤ f.cells
  pub inside : r + f.cells ≤ length ls
  pub along : (i : ℕ) → i < f.cells → slice_index ls (r + i) ≡ f.at + i

-- over parts that hold stored positions such a part of a run; over any other bytes and view any numbers
pub record RunIn (k : Codec) (b : List ℕ) (v : View) (r : ℕ) (f : RunPart) : Type 0 where
  pub right : (ls : List ℕ) → Holds k b v ls → r < v.words → PartOf ls r f
