-- The header's fields are read back as they were written. Assumes nothing.
use Prim.Native.Nat.{ℕ, ◌+◌, ◌*◌, ◌^◌, ◌<◌}
use mathlib.Core.Path.{◌≡◌, refl}
use mathlib.Core.List.{List, [], ◌∷◌, ◌++◌}
use native.Mathlib.Omega.{arith}
use lib.ListN.{length, drop}
use Rattle.format.specs.Bytes.{bytes, bytes_of, field, numbers_of}
use Rattle.format.specs.declared.Dimensions.{Dimensions}
use Rattle.format.specs.declared.Setting.{Setting}
use Rattle.format.specs.File.{header_length, Counts, header}
use Rattle.format.specs.Accepted.{setting_of, dimensions_of, empty_of, words_count, first_count, second_count, first_offset, second_offset, words_offset, length_field}
use Rattle.laws.proofs.Bytes.{number-bytes}
use Rattle.laws.proofs.Limits.{FourExtents}

-- the header's numbers fit their fields
pub record Small (s : Setting) (d : Dimensions) (E : ℕ) (n : Counts) : Type 0 where
  pub kind : s.kind < 256
  pub width : s.width < 256
  pub step : s.step < 256
  pub count : d.count < 256
  pub extents : FourExtents d
  pub empty : E < 256 ^ 4
  pub words : n.words < 256 ^ 4
  pub first : n.first_count < 256 ^ 4
  pub second : n.second_count < 256 ^ 4
  pub total : header_length + n.first_bytes + n.second_bytes + 4 * n.words < 256 ^ 4

-- where first part, second part and words begin and the file ends, as the header says
pub record Offsets (second words last : ℕ) (b : List ℕ) : Type 0 where
  pub first-at : first_offset b ≡ header_length
  pub second_at_lem : second_offset b ≡ second
  pub words-at : words_offset b ≡ words
  pub end : length_field b ≡ last

-- what is read of bytes that begin with a header
pub record Read (s : Setting) (d : Dimensions) (E : ℕ) (n : Counts) (more b : List ℕ) : Type 0 where
  pub setting : setting_of b ≡ s
  pub dims : dimensions_of b ≡ d
  pub empty : empty_of b ≡ E
  pub words : words_count b ≡ n.words
  pub first : first_count b ≡ n.first_count
  pub second : second_count b ≡ n.second_count
  pub offsets : Offsets (header_length + n.first_bytes) (header_length + n.first_bytes + n.second_bytes)
      (header_length + n.first_bytes + n.second_bytes + 4 * n.words) b
  pub rest : drop header_length b ≡ more
  pub size : length b ≡ header_length + length more

dims : ℕ → List ℕ → Dimensions
dims c es = record { count = c; extents = es }

four_path : {a b c d a' b' c' d' : ℕ} → a ≡ a' → b ≡ b' → c ≡ c' → d ≡ d' → a ∷ b ∷ c ∷ d ∷ [] ≡ a' ∷ b' ∷ c' ∷ d' ∷ []
four_path p q r t = cc

dims_path : {c c' : ℕ} {es es' : List ℕ} → c ≡ c' → es ≡ es' → dims c es ≡ dims c' es'
dims_path p q = cc

-- With four extents the header is a row of bytes, so that each field is found by computing.
read_four : (s : Setting) (c e0 e1 e2 e3 E : ℕ) (n : Counts) (more : List ℕ) → Small s (dims c (e0 ∷ e1 ∷ e2 ∷ e3 ∷ [])) E n
    → Read s (dims c (e0 ∷ e1 ∷ e2 ∷ e3 ∷ [])) E n more (header s (dims c (e0 ∷ e1 ∷ e2 ∷ e3 ∷ [])) E n ++ more)
unfolding dims header bytes_of bytes field numbers_of setting_of dimensions_of empty_of words_count first_count second_count first_offset second_offset words_offset length_field
read_four s c e0 e1 e2 e3 E n more h =
    let f = h.extents.small in
    record {
      setting = rw (number-bytes 1 s.kind h.kind, number-bytes 1 s.width h.width, number-bytes 1 s.step h.step);
      dims =
          dims_path (number-bytes 1 c h.count)
          (four_path (number-bytes 4 e0 f.0) (number-bytes 4 e1 f.1.0) (number-bytes 4 e2 f.1.1.0) (number-bytes 4 e3 f.1.1.1.0));
      empty = number-bytes 4 E h.empty;
      words = number-bytes 4 n.words h.words;
      first = number-bytes 4 n.first_count h.first;
      second = number-bytes 4 n.second_count h.second;
      offsets =
          record {
            first-at = number-bytes 4 header_length (omega arith);
            second_at_lem = number-bytes 4 (header_length + n.first_bytes) (omega arith);
            words-at = number-bytes 4 (header_length + n.first_bytes + n.second_bytes) (omega arith);
            end = number-bytes 4 (header_length + n.first_bytes + n.second_bytes + 4 * n.words) h.total;
          };
      rest = refl;
      size = omega arith;
    }

pub read_header : (s : Setting) (d : Dimensions) (E : ℕ) (n : Counts) (more : List ℕ) → Small s d E n → Read s d E n more (header s d E n ++ more)
unfolding dims
read_header s d E n more h = go d.count d.extents h
  where
    go : (c : ℕ) (es : List ℕ) → Small s (dims c es) E n → Read s (dims c es) E n more (header s (dims c es) E n ++ more)
    go c [] h = absurd (omega arith)
    go c (e0 ∷ []) h = absurd (omega arith)
    go c (e0 ∷ e1 ∷ []) h = absurd (omega arith)
    go c (e0 ∷ e1 ∷ e2 ∷ []) h = absurd (omega arith)
    go c (e0 ∷ e1 ∷ e2 ∷ e3 ∷ []) h = read_four s c e0 e1 e2 e3 E n more h
    go c (e0 ∷ e1 ∷ e2 ∷ e3 ∷ e4 ∷ es) h = absurd (omega arith)
