-- What putting out a row and a box needs and does. Assumes nothing.
use Rattle.std.specs.Prelude.{ℕ, suc, ◌+◌, ◌*◌, ◌≤◌, ◌≡◌, true, List, map, length, get_or}
use Rattle.format.specs.declared.View.{View}
use Rattle.format.specs.Tools.{range}
use Rattle.format.specs.Picture.{product}
use Rattle.format.specs.Accepted.{words_of}
use Rattle.format.specs.Box.{box_from}
use Rattle.stores.specs.Put.{put}
use Rattle.parts.specs.Holds.{ViewOf}
use Rattle.box_rows.specs.declared.Filled.{Filled}
use Rattle.box_region.specs.Bounds.{bounded}
use Rattle.row_seek.specs.Ready.{Ready}

-- the words at positions
unfoldable pub words_on : List ℕ → List ℕ → List ℕ
words_on b ps = map (λ p. get_or (words_of b) p 0) ps

-- a row of n cells from a position on, after what s says; the destination has room words
pub record RowGoes (b : List ℕ) (v : View) (s : Filled) (from n room : ℕ) : Type 0 where
  pub view : ViewOf b v
  pub ready : Ready b v s.cursor from
  pub inside : from + n ≤ v.cells
  pub fits : s.words + n ≤ room

pub record RowFilled (b : List ℕ) (v : View) (s : Filled) (from n : ℕ) (before : List ℕ) (r : Filled) (after : List ℕ) : Type 0 where
  pub put : after ≡ put before s.words (words_on b (range from n))
  pub words : r.words ≡ s.words + n
  pub ready : Ready b v r.cursor (from + n)

-- a box in the extents es, where p is the position of the coordinates before
pub record BoxGoes (b : List ℕ) (v : View) (es low high : List ℕ) (p : ℕ) (s : Filled) (room : ℕ) : Type 0 where
  pub view : ViewOf b v
  pub bounds : bounded es low high ≡ true
  pub ready : Ready b v s.cursor (p * product es)
  pub inside : suc p * product es ≤ v.cells
  pub fits : s.words + length (box_from p es low high) ≤ room

pub record BoxFilled (b : List ℕ) (v : View) (es low high : List ℕ) (p : ℕ) (s : Filled) (before : List ℕ) (r : Filled) (after : List ℕ) : Type 0 where
  pub put : after ≡ put before s.words (words_on b (box_from p es low high))
  pub words : r.words ≡ s.words + length (box_from p es low high)
  pub ready : Ready b v r.cursor (suc p * product es)
