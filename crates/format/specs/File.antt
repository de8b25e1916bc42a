-- The file of a picture in a setting (document 01, "The file"). Assumes nothing.
use Rattle.std.specs.Prelude.{ℕ, ◌+◌, ◌*◌, ◌^◌, ◌≤◌, ◌<◌, ◌≡◌, true, false, List, [], ◌∷◌, ◌++◌, length}
use Rattle.format.specs.declared.Dimensions.{Dimensions}
use Rattle.format.specs.declared.Setting.{Setting}
use Rattle.format.specs.Tools.{Below}
use Rattle.format.specs.Bytes.{bytes_of}
use Rattle.format.specs.Picture.{cells, dimensions_allowed}
use Rattle.format.specs.Stored.{stored, kept}
use Rattle.format.specs.Codec.{Parts}
use Rattle.format.specs.Kinds.{codec, setting_allowed}

-- the header's length; the first part begins there
abbrev pub header_length : ℕ
header_length = 52

-- the bytes have a whole header
abbrev pub WholeHeader : List ℕ → Type 0
WholeHeader b = header_length ≤ length b

-- the counts that the header tells: N, the entries of each part, and the bytes of each part
pub record Counts : Type 0 where
  pub words : ℕ
  pub first_count : ℕ
  pub second_count : ℕ
  pub first_bytes : ℕ
  pub second_bytes : ℕ

-- kind, dimension count, width and step, a byte each; then 4 bytes each: the extents, E, N, the entry counts, the offsets of first part,
-- second part and stored words, and the file's length
unfoldable pub header : Setting → Dimensions → ℕ → Counts → List ℕ
header s d E n =
    bytes_of 1 (s.kind ∷ d.count ∷ s.width ∷ s.step ∷ [])
    ++ bytes_of 4 d.extents
    ++ bytes_of 4
    (E
    ∷ n.words
    ∷ n.first_count
    ∷ n.second_count
    ∷ header_length
    ∷ (header_length + n.first_bytes)
    ∷ (header_length + n.first_bytes + n.second_bytes)
    ∷ (header_length + n.first_bytes + n.second_bytes + 4 * n.words)
    ∷ [])

abbrev pub counts_of : ℕ → Parts → Counts
counts_of n q =
    record {
      words = n;
      first_count = q.first_count;
      second_count = q.second_count;
      first_bytes = length q.first;
      second_bytes = length q.second;
    }

-- header, first part, second part and the stored words by rank, without gaps
unfoldable pub file_from : Setting → Dimensions → ℕ → Parts → List ℕ → List ℕ
file_from s d E q vs = header s d E (counts_of (length vs) q) ++ q.first ++ q.second ++ bytes_of 4 vs

-- the file of the words ws
unfoldable pub layout : Setting → Dimensions → ℕ → List ℕ → List ℕ
layout s d E ws = file_from s d E ((codec s).parts (cells d) (stored E ws)) (kept E ws)

-- the picture with dimensions d, empty word E and words ws has the bytes b in the setting s
pub record HasFile (s : Setting) (d : Dimensions) (E : ℕ) (ws b : List ℕ) : Type 0 where
  pub setting : setting_allowed s ≡ true
  pub dims : dimensions_allowed d ≡ true
  pub empty : E < 2 ^ 32
  pub words : Below (2 ^ 32) ws
  pub size : length ws ≡ cells d
  pub fits : (codec s).unfit (stored E ws) ≡ false
  pub file : layout s d E ws ≡ b
