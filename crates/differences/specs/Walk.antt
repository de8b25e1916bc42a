-- A search as it goes from rank to rank, over any bytes. Assumes nothing.
use Rattle.std.specs.Prelude.{ℕ, zero, suc, ◌+◌, ◌-◌, ◌*◌, ◌^◌, ◌≤◌, ◌<◌, ◌≡◌, Bool, true, not, List, Option, MatchOption, length, eqb}
use Rattle.std.specs.Option.{ForSome}
use Rattle.format.specs.declared.View.{View}
use Rattle.format.specs.Tools.{pick, both}
use Rattle.format.specs.Bytes.{field}
use Rattle.wire.specs.Wire.{whole}
use Rattle.parts.specs.Encoder.{if_zero}
use Rattle.differences.specs.declared.walk.Reached.{Reached}
use Rattle.differences.specs.declared.walk.Place.{Place}

-- jumps of 4 bytes in the first part, and in front of the second part a difference of 1 or 2 bytes for each stored word
pub record Laid (b : List ℕ) (v : View) : Type 0 where
  pub narrow : 1 ≤ v.width
  pub wide : v.width ≤ 2
  pub firsts : v.firsts ≤ v.words
  pub cells : v.cells ≤ 16777216
  pub words : v.words ≤ v.cells
  pub place : v.second ≡ v.start + 4 * v.firsts
  pub inside : v.second + v.width * v.words ≤ length b

-- by the difference d, l being the next jump
unfoldable pub step_by : ℕ → ℕ → Reached → Reached
step_by d l s = pick (eqb d 0) (record { position = l; taken = s.taken + 1 }) (record { position = s.position + d; taken = s.taken })

-- at rank 0, by the first jump
abbrev pub origin : ℕ → List ℕ → Reached
origin start b = record { position = whole 4 start b; taken = 1 }

-- to rank r: the jumps begin at `start`, the differences, of w bytes each, at `second`
unfoldable pub stepped : ℕ → ℕ → ℕ → List ℕ → ℕ → Reached → Reached
stepped w start second b r s = step_by (field w (second + w * r) b) (whole 4 (start + 4 * s.taken) b) s

-- from rank r to the n-th rank after it
unfoldable pub walked : ℕ → ℕ → ℕ → List ℕ → ℕ → ℕ → Reached → Reached
walked w start second b r zero s = s
walked w start second b r (suc n) s = stepped w start second b (r + suc n) (walked w start second b r n s)

-- no jump is among the n differences after rank r
unfoldable pub plain : ℕ → ℕ → List ℕ → ℕ → ℕ → Bool
plain w second b r zero = true
plain w second b r (suc n) = both (not (eqb (field w (second + w * (r + suc n)) b) 0)) (plain w second b r n)

-- so many of them are 0
unfoldable pub zeros : ℕ → ℕ → List ℕ → ℕ → ℕ → ℕ
zeros w second b r zero = 0
zeros w second b r (suc n) = zeros w second b r n + if_zero (field w (second + w * (r + suc n)) b) 1 0

-- their sum
unfoldable pub total : ℕ → ℕ → List ℕ → ℕ → ℕ → ℕ
total w second b r zero = 0
total w second b r (suc n) = total w second b r n + field w (second + w * (r + suc n)) b

-- the sum of those behind the last 0; of all where none is 0
unfoldable pub behind : ℕ → ℕ → List ℕ → ℕ → ℕ → ℕ
behind w second b r zero = 0
behind w second b r (suc n) = let d = field w (second + w * (r + suc n)) b in pick (eqb d 0) 0 (behind w second b r n + d)

-- all n ranks at once: on from the last jump among them, or from s where none is
unfoldable pub at_once : ℕ → ℕ → ℕ → List ℕ → ℕ → ℕ → Reached → Reached
at_once w start second b r n s =
    let z = zeros w second b r n in
    record {
      position = pick (eqb z 0) s.position (whole 4 (start + 4 * (s.taken + z - 1)) b) + behind w second b r n;
      taken = s.taken + z;
    }

-- after n ranks: no sum passes 64 bits
pub record Within (n : ℕ) (s : Reached) : Type 0 where
  pub position : s.position < 2 ^ 32 + 65536 * n
  pub taken : s.taken ≤ n

-- the difference of rank r lies in the file
pub record Room (w second : ℕ) (b : List ℕ) (r : ℕ) : Type 0 where
  pub narrow : 1 ≤ w
  pub wide : w ≤ 2
  pub inside : second + w * r + w ≤ length b
  pub rank : r < 2 ^ 32

-- a walk from a place on, at most to rank n: past the place only below the target, and to rank n where no position is as far as the target, or none is given
pub record Stopped (w start second : ℕ) (b : List ℕ) (from : Place) (n : ℕ) (target : Option ℕ) (t : Place) : Type 0 where
  pub least : from.rank ≤ t.rank
  pub most : t.rank ≤ n
  pub there : t.reached ≡ walked w start second b from.rank (t.rank - from.rank) from.reached
  pub within : Within (t.rank + 1) t.reached
  pub below : ForSome target (λ p. from.rank < t.rank → t.reached.position < p)
  pub all : MatchOption target (t.rank ≡ n) (λ p. 2 ^ 50 ≤ p → t.rank ≡ n)

-- t is the rank of the m-th jump after rank r, where there is one up to rank `last`; rank r itself where m is 0
pub record JumpAfter (w second : ℕ) (b : List ℕ) (r m last t : ℕ) : Type 0 where
  pub least : r ≤ t
  pub most : t ≤ last
  pub found : (u : ℕ) → r ≤ u → u ≤ last → zeros w second b r (u - r) ≡ m → (r < u → field w (second + w * u) b ≡ 0) → t ≡ u
