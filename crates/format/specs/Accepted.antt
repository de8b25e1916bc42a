-- What any bytes say as a file, and the number that check gives of them (document 01, "The signal list", 1 to 6). Assumes nothing.
use Rattle.std.specs.Prelude.{ℕ, ◌+◌, ◌*◌, ◌≡◌, Bool, not, List, length, drop, leb, ltb, eqb}
use Rattle.format.specs.declared.Dimensions.{Dimensions}
use Rattle.format.specs.declared.Setting.{Setting}
use Rattle.format.specs.Tools.{both, same}
use Rattle.format.specs.Signals.{SHORT, KIND, SETTING, EXTENT, COUNTS, BODY, refuse, or_else}
use Rattle.format.specs.Bytes.{field, numbers_of}
use Rattle.format.specs.Picture.{cells, dimensions_allowed, most_dimensions}
use Rattle.format.specs.Stored.{stored, placed}
use Rattle.format.specs.Kinds.{codec, kind_allowed, setting_allowed}
use Rattle.format.specs.File.{header_length, layout, HasFile}

-- ---- the header's fields

unfoldable pub setting_of : List ℕ → Setting
setting_of b = record { kind = field 1 0 b; width = field 1 2 b; step = field 1 3 b }

unfoldable pub dimensions_of : List ℕ → Dimensions
dimensions_of b = record { count = field 1 1 b; extents = numbers_of 4 most_dimensions (drop 4 b) }

unfoldable pub empty_of : List ℕ → ℕ
empty_of b = field 4 20 b

-- N
unfoldable pub words_count : List ℕ → ℕ
words_count b = field 4 24 b

unfoldable pub first_count : List ℕ → ℕ
first_count b = field 4 28 b

unfoldable pub second_count : List ℕ → ℕ
second_count b = field 4 32 b

-- the offsets of first part, second part and stored words
unfoldable pub first_offset : List ℕ → ℕ
first_offset b = field 4 36 b

unfoldable pub second_offset : List ℕ → ℕ
second_offset b = field 4 40 b

unfoldable pub words_offset : List ℕ → ℕ
words_offset b = field 4 44 b

-- the file's length
unfoldable pub length_field : List ℕ → ℕ
length_field b = field 4 48 b

-- ---- where, by the counts, the second part and the words begin and the file ends

unfoldable pub second_at : List ℕ → ℕ
second_at b = header_length + (codec (setting_of b)).first_bytes (first_count b) (second_count b)

unfoldable pub words_at : List ℕ → ℕ
words_at b = second_at b + (codec (setting_of b)).second_bytes (first_count b) (second_count b)

unfoldable pub end_at : List ℕ → ℕ
end_at b = words_at b + 4 * words_count b

-- 5 does not apply: N is at most cells, counts, offsets and length are the layout's, and the bytes lent are as many as the length
unfoldable pub counts_right : List ℕ → Bool
counts_right b =
    both (leb (words_count b) (cells (dimensions_of b)))
    (both ((codec (setting_of b)).counts (cells (dimensions_of b)) (words_count b) (first_count b) (second_count b))
    (both (eqb (first_offset b) header_length)
    (both (eqb (second_offset b) (second_at b))
    (both (eqb (words_offset b) (words_at b))
    (both (eqb (length_field b) (end_at b))
    (eqb (length b) (end_at b)))))))

-- ---- the picture that the bytes say

unfoldable pub positions_of : List ℕ → List ℕ
positions_of b = (codec (setting_of b)).positions (first_count b) (drop header_length b) (second_count b) (drop (second_at b) b)

unfoldable pub kept_of : List ℕ → List ℕ
kept_of b = numbers_of 4 (words_count b) (drop (words_at b) b)

unfoldable pub words_of : List ℕ → List ℕ
words_of b = placed (empty_of b) (cells (dimensions_of b)) (positions_of b) (kept_of b)

-- that picture has these very bytes
unfoldable pub body_right : List ℕ → Bool
body_right b =
    both (not ((codec (setting_of b)).unfit (stored (empty_of b) (words_of b))))
    (same (layout (setting_of b) (dimensions_of b) (empty_of b) (words_of b)) b)

-- A file is accepted exactly when some picture, with the header's dimensions, E, kind, width and step, has those bytes.
-- That check gives 0 exactly then is the law `accepted-iff`.
abbrev pub SomePicture : List ℕ → Type 0
SomePicture b = (ws : List ℕ) × HasFile (setting_of b) (dimensions_of b) (empty_of b) ws b

-- ---- the numbers

-- the first of 1 to 5 that applies
unfoldable pub header_number : List ℕ → ℕ
header_number b =
    refuse SHORT (ltb (length b) header_length)
    (refuse KIND (not (kind_allowed (setting_of b)))
    (refuse SETTING (not (setting_allowed (setting_of b)))
    (refuse EXTENT (not (dimensions_allowed (dimensions_of b)))
    (refuse COUNTS (not (counts_right b))
    0))))

-- the number that check gives: 0, or the first of 1 to 6 that applies
unfoldable pub check_number : List ℕ → ℕ
check_number b = or_else (header_number b) (refuse BODY (not (body_right b)) 0)

-- the contract of check
pub record Checked (b : List ℕ) (answer : ℕ) : Type 0 where
  pub number : answer ≡ check_number b
