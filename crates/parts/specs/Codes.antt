-- What a kind's coder is to be: the stored positions, taken one after the other, give the parts of the kind. Assumes nothing.
use Rattle.std.specs.Prelude.{◌≡◌, ℕ, ◌+◌, ◌≤◌, false, not, List, length}
use Rattle.format.specs.Picture.{most_cells}
use Rattle.format.specs.Codec.{Codec, Parts}
use Rattle.laws.proofs.Stored.{Rising}
use Rattle.stores.specs.Put.{put}
use Rattle.parts.specs.declared.Sizes.{Sizes}
use Rattle.parts.specs.Encoder.{Coder, begun, ended_by, taken_all_by, firsts_by, seconds_by}
use Rattle.parts.specs.Ready.{Keeps}

-- the sizes of two parts and n words
unfoldable pub sizes_in : ℕ → Parts → Sizes
sizes_in n q = record { words = n; firsts = q.first_count; seconds = q.second_count; first = length q.first; second = length q.second }

-- d with what the coder puts out for the positions into parts of the sizes z, the first from `start` on
unfoldable pub out_in : Coder → Sizes → ℕ → List ℕ → List ℕ → List ℕ
out_in k z start ls d =
    put (put d start (firsts_by k (begun start (start + z.first)) ls)) (start + z.first) (seconds_by k (begun start (start + z.first)) ls)

-- what is put out for rising positions below B: it has room in the parts, and with what is made of it afterwards it is the parts
pub record PutOut (k : Coder) (c : Codec) (B : ℕ) (ls : List ℕ) : Type 0 where
  pub first-most : (f g : ℕ) → length (firsts_by k (begun f g) ls) ≤ length (c.parts B ls).first
  pub second-most : (f g : ℕ) → length (seconds_by k (begun f g) ls) ≤ length (c.parts B ls).second
  pub sizes : c.unfit ls ≡ false → k.sizes (ended_by k (taken_all_by k (begun 0 0) ls)) ≡ sizes_in (length ls) (c.parts B ls)
  pub made : (z : Sizes) → z ≡ sizes_in (length ls) (c.parts B ls) → (d : List ℕ) (start : ℕ) → start + z.first + z.second ≤ length d
      → k.derived z start (out_in k z start ls d) ≡ put (put d start (c.parts B ls).first) (start + z.first) (c.parts B ls).second

-- d holds what the coder has put out for rising positions, the first part from `start` on, with the sizes z: what the making of the rest asks
pub record Standing (k : Coder) (c : Codec) (z : Sizes) (start : ℕ) (d : List ℕ) : Type 0 where
  pub bound : ℕ
  pub positions : List ℕ
  pub before : List ℕ
  pub most : bound ≤ most_cells
  pub rising : Rising 0 bound positions
  pub sizes : z ≡ sizes_in (length positions) (c.parts bound positions)
  pub room : start + z.first + z.second ≤ length before
  pub out : d ≡ out_in k z start positions before

-- a coder k of the kind c
pub record Codes (k : Coder) (c : Codec) : Type 0 where
  pub keeps : Keeps k
  pub fits : (f g : ℕ) (ls : List ℕ) → (taken_all_by k (begun f g) ls).fits ≡ not (c.unfit ls)
  pub out : (B : ℕ) (ls : List ℕ) → B ≤ most_cells → Rising 0 B ls → PutOut k c B ls
