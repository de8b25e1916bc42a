-- What a kind's step is to be: it goes to the next rank, and over parts that hold stored positions it walks along them. Assumes nothing.
use Rattle.std.specs.Prelude.{◌≡◌, ℕ, zero, suc, ◌+◌, ◌<◌, ◌≤◌, List, length, nat_lt}
use Rattle.format.specs.declared.View.{View}
use Rattle.format.specs.Tools.{pick, both}
use Rattle.format.specs.Codec.{Codec}
use Rattle.parts.specs.declared.Cursor.{Cursor}
use Rattle.wire.specs.Wire.{add32}
use Rattle.parts.specs.Cursor.{before, along_run, walked_as, stepped_as}
use Rattle.parts.specs.Holds.{Holds}

-- a step of the kind k, which is given by width and step
pub record Walks (k : ℕ → ℕ → Codec) (next : List ℕ → View → Cursor → Cursor) : Type 0 where
  pub rank : (b : List ℕ) (v : View) (c : Cursor) → (next b v c).rank ≡ add32 c.rank 1
  pub walk : (b : List ℕ) (v : View) (ls : List ℕ) → Holds (k v.width v.step) b v ls → walked_as (next b v) (next b v before) (length ls) ≡ ls

-- within a run the step f goes to its next cell
abbrev pub GoesAlong : (Cursor → Cursor) → Type 0
GoesAlong f = (c : Cursor) → c.at < c.last → f c ≡ along_run c

-- the same of a kind's step
abbrev pub StepsAlong : (List ℕ → View → Cursor → Cursor) → Type 0
StepsAlong next = (b : List ℕ) (v : View) → GoesAlong (next b v)

-- by the step f to the first position from p on, or to rank n; k bounds the steps
unfoldable pub sought : (Cursor → Cursor) → ℕ → ℕ → ℕ → Cursor → Cursor
sought f n p zero c = c
sought f n p (suc k) c =
    let later = sought f n p k (f c) in
    pick (both (nat_lt c.rank n) (nat_lt c.at p)) later c

-- up to rank n the positions along the steps f from c never fall
pub record Climbs (f : Cursor → Cursor) (n : ℕ) (c : Cursor) : Type 0 where
  pub rise : (k m : ℕ) → c.rank + (k + m) < n → (stepped_as f c k).at ≤ (stepped_as f c (k + m)).at
