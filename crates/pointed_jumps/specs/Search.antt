-- Places along the ranks that the searches start from, over any bytes. Assumes nothing.
use Rattle.std.specs.Prelude.{ℕ, ◌+◌, ◌*◌, ◌≤◌, ◌<◌, ◌≡◌, List, length}
use Rattle.format.specs.declared.View.{View}
use Rattle.format.specs.PointedJumps.{pointed_kind}
use Rattle.wire.specs.Wire.{whole}
use Rattle.parts.specs.Holds.{Holds}
use Rattle.differences.specs.declared.walk.Place.{Place}
use Rattle.differences.specs.Walk.{walked, origin, Within}

-- there are ranks, jumps and pointers, and the differences lie in the file
pub record Searchable (b : List ℕ) (v : View) (w : ℕ) : Type 0 where
  pub words : 0 < v.words
  pub jumps : 0 < v.firsts
  pub step : 1 ≤ v.step
  pub inside : v.second + w * v.words ≤ length b

-- a rank, at most `most`, from which a walk can go on: r with jump j, or rank 0 where r is past `most`
pub record AtJump (b : List ℕ) (v : View) (r j most : ℕ) (t : Place) : Type 0 where
  pub rank : t.rank ≤ most
  pub within : Within (t.rank + 1) t.reached
  pub there : r ≤ most → j ≤ r → t ≡ record { rank = r; reached = record { position = whole 4 (v.start + 4 * j) b; taken = j + 1 } }
  pub first : most < r → t ≡ record { rank = 0; reached = origin v.start b }

-- a rank, at most `most`, from which a walk can go on; over right parts it is reached from rank 0 on
pub record Placed (b : List ℕ) (v : View) (w most : ℕ) (t : Place) : Type 0 where
  pub rank : t.rank ≤ most
  pub within : Within (t.rank + 1) t.reached
  pub right : (ls : List ℕ) → Holds (pointed_kind v.width v.step) b v ls → v.width ≡ w
      → t.reached ≡ walked w v.start v.second b 0 t.rank (origin v.start b)

-- over right parts it is that of jump j
pub record OfJump (b : List ℕ) (v : View) (w j : ℕ) (t : Place) : Type 0 where
  pub position : (ls : List ℕ) → Holds (pointed_kind v.width v.step) b v ls → v.width ≡ w → t.reached.position ≡ whole 4 (v.start + 4 * j) b
  pub first : (ls : List ℕ) → Holds (pointed_kind v.width v.step) b v ls → v.width ≡ w → j ≡ 0 → t.rank ≡ 0
