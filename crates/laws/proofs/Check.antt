-- How check may find out that the body is right: the positions and words that the parts say are a picture's, and their own parts are those of the
-- file. Assumes nothing.
use Prim.Native.Nat.{ℕ, zero, suc, ◌+◌, ◌*◌, ◌/◌, ◌%◌, ◌≤◌}
use mathlib.Core.Path.{◌≡◌, refl, sym, ap, ◌∙◌}
use mathlib.Core.Bool.{true, false}
use mathlib.Core.List.{List, [], ◌∷◌, ◌++◌}
use native.Mathlib.Nat.{zero-add, mul-suc, mod-eq_of_lt, add-mul-div_left, add-mul-mod_self_left, div-eq_of_lt, zero-lt-suc}
use native.Mathlib.Omega.{arith}
use lib.ListN.{length, take, drop, length-drop}
use lib.Seq.{drop-drop, take-add, take_all, length-take-le, take_at}
use lib.Dec.{eqb, leb}
use borrow.Author.Tests.{eqb-true, eqb-false, leb-true}
use Rattle.format.specs.Tools.{Below}
use Rattle.format.specs.Bytes.{bytes, number, bytes_of, field, numbers_of}
use Rattle.format.specs.declared.Dimensions.{Dimensions}
use Rattle.format.specs.Picture.{cells}
use Rattle.format.specs.Stored.{stored, kept, placed}
use Rattle.format.specs.declared.Setting.{Setting}
use Rattle.format.specs.Kinds.{codec}
use Rattle.format.specs.File.{header_length, WholeHeader, Counts, counts_of, header, file_from, layout, HasFile}
use Rattle.format.specs.Accepted.{setting_of, dimensions_of, empty_of, words_count, first_count, second_count, first_offset, second_offset, words_offset, length_field, second_at, words_at, end_at, counts_right, positions_of, kept_of, words_of, body_right}
use Rattle.laws.proofs.Stored.{Rising, stored-placed, Apart, rising-stored, stored-kept}
use Rattle.laws.proofs.Tools.{cases, both_true, same_refl}
use Rattle.laws.proofs.Bytes.{below-drop}
use Rattle.laws.proofs.Header.{Offsets}
use Rattle.laws.proofs.Files.{positions-back, setting-back, dims-back, empty_back, kept_back, first-count-back, second-count-back, words-count-back, from_first, from_second, first-size-back, second-size-back}

-- ---- bytes back: a list of bytes is what its numbers give

bytes-number : (w : ℕ) (b : List ℕ) → Below 256 b → w ≤ length b → bytes w (number (take w b)) ≡ take w b
unfolding bytes number
bytes-number zero b s h = refl
bytes-number (suc w) [] s h = absurd (omega arith)
bytes-number (suc w) (x ∷ b) s h =
    let e1 : (x + 256 * number (take w b)) % 256 ≡ x = add-mul-mod_self_left x 256 (number (take w b)) ∙ mod-eq_of_lt s.0 in
    let e2 : (x + 256 * number (take w b)) / 256 ≡ number (take w b)
    = add-mul-div_left x (number (take w b)) (zero-lt-suc 255) ∙ ap (λ (q : ℕ). q + number (take w b)) (div-eq_of_lt s.0) ∙ zero-add (number (take w b)) in
    rw (e1, e2, bytes-number w b s.1 (omega arith))

pub bytes_of-numbers_of : (w n : ℕ) (b : List ℕ) → Below 256 b → w * n ≤ length b → bytes_of w (numbers_of w n b) ≡ take (w * n) b
unfolding bytes_of numbers_of
bytes_of-numbers_of w zero b s h = rw (native.Mathlib.Nat.mul-zero w)
bytes_of-numbers_of w (suc n) b s h =
    let m = mul-suc w n in
    let k : w * n ≤ length (drop w b) = rw (length-drop w b) (omega arith) in
    let e : w * suc n ≡ w + w * n = omega arith in
    rw (bytes-number w b s (omega arith), bytes_of-numbers_of w n (drop w b) (below-drop 256 w b s) k, e, take-add w (w * n) b)

-- the header again from what is read of it: its offsets are those of its counts
abbrev pub Same : List ℕ → Type 0
Same b = Offsets (second_at b) (words_at b) (end_at b) b

read_counts : List ℕ → Counts
read_counts b =
    record {
      words = words_count b;
      first_count = first_count b;
      second_count = second_count b;
      first_bytes = (codec (setting_of b)).first_bytes (first_count b) (second_count b);
      second_bytes = (codec (setting_of b)).second_bytes (first_count b) (second_count b);
    }

four : (b : List ℕ) → numbers_of 1 4 b ≡ field 1 0 b ∷ field 1 1 b ∷ field 1 2 b ∷ field 1 3 b ∷ []
unfolding numbers_of field
four b = rw (drop-drop 1 1 b, drop-drop 1 2 b)

eight : (b : List ℕ)
    → numbers_of 4 8 (drop 20 b)
    ≡ field 4 20 b ∷ field 4 24 b ∷ field 4 28 b ∷ field 4 32 b ∷ field 4 36 b ∷ field 4 40 b ∷ field 4 44 b ∷ field 4 48 b ∷ []
unfolding numbers_of field
eight b = rw (drop-drop 4 20 b, drop-drop 4 24 b, drop-drop 4 28 b, drop-drop 4 32 b, drop-drop 4 36 b, drop-drop 4 40 b, drop-drop 4 44 b)

tail_fields : (a b c d : ℕ) {x y z u x' y' z' u' : ℕ} → x ≡ x' → y ≡ y' → z ≡ z' → u ≡ u'
    → bytes_of 4 (a ∷ b ∷ c ∷ d ∷ x ∷ y ∷ z ∷ u ∷ []) ≡ bytes_of 4 (a ∷ b ∷ c ∷ d ∷ x' ∷ y' ∷ z' ∷ u' ∷ [])
tail_fields a b c d p q r t = cc

header-back : (b : List ℕ) → Below 256 b → WholeHeader b → Same b → header (setting_of b) (dimensions_of b) (empty_of b) (read_counts b) ≡ take header_length b
unfolding header read_counts setting_of dimensions_of empty_of words_count first_count second_count first_offset second_offset words_offset length_field second_at words_at end_at
header-back b s h e =
    let g1 : bytes_of 1 (field 1 0 b ∷ field 1 1 b ∷ field 1 2 b ∷ field 1 3 b ∷ []) ≡ take 4 b
    = ap (bytes_of 1) (sym (four b)) ∙ bytes_of-numbers_of 1 4 b s (omega arith) in
    let g2 : bytes_of 4 (numbers_of 4 4 (drop 4 b)) ≡ take 16 (drop 4 b)
    = bytes_of-numbers_of 4 4 (drop 4 b) (below-drop 256 4 b s) (rw (length-drop 4 b) (omega arith)) in
    let g3 : bytes_of 4 (field 4 20 b ∷ field 4 24 b ∷ field 4 28 b ∷ field 4 32 b ∷ field 4 36 b ∷ field 4 40 b ∷ field 4 44 b ∷ field 4 48 b ∷ []) ≡ take 32 (drop 20 b)
    = ap (bytes_of 4) (sym (eight b)) ∙ bytes_of-numbers_of 4 8 (drop 20 b) (below-drop 256 20 b s) (rw (length-drop 20 b) (omega arith)) in
    let g4 : bytes_of 4 (field 4 20 b ∷ field 4 24 b ∷ field 4 28 b ∷ field 4 32 b ∷ header_length ∷ second_at b ∷ words_at b ∷ end_at b ∷ []) ≡ take 32 (drop 20 b)
    = tail_fields (field 4 20 b) (field 4 24 b) (field 4 28 b) (field 4 32 b) (sym e.first-at) (sym e.second_at_lem) (sym e.words-at) (sym e.end) ∙ g3 in
    let t1 : take 20 b ≡ take 4 b ++ take 16 (drop 4 b) = take-add 4 16 b in
    let t2 : take header_length b ≡ take 20 b ++ take 32 (drop 20 b) = take-add 20 32 b in
    join g1 g2 g4 ∙ sym (t2 ∙ ap (λ (x : List ℕ). x ++ take 32 (drop 20 b)) t1)
  where
    join : {x y z x' y' z' : List ℕ} → x ≡ x' → y ≡ y' → z ≡ z' → x ++ y ++ z ≡ x' ++ y' ++ z'
    join p q r = cc

-- ---- the body, by its parts

pub record BodyBy (b : List ℕ) : Type 0 where
  pub rising : Rising 0 (cells (dimensions_of b)) (positions_of b)
  pub apart : Apart (empty_of b) (kept_of b)
  pub size : length (positions_of b) ≡ words_count b
  pub fits : (codec (setting_of b)).unfit (positions_of b) ≡ false
  pub first_count_lem : ((codec (setting_of b)).parts (cells (dimensions_of b)) (positions_of b)).first_count ≡ first_count b
  pub second-count : ((codec (setting_of b)).parts (cells (dimensions_of b)) (positions_of b)).second_count ≡ second_count b
  pub first : ((codec (setting_of b)).parts (cells (dimensions_of b)) (positions_of b)).first ≡ take ((codec (setting_of b)).first_bytes (first_count b) (second_count b)) (drop header_length b)
  pub second : ((codec (setting_of b)).parts (cells (dimensions_of b)) (positions_of b)).second ≡ take ((codec (setting_of b)).second_bytes (first_count b) (second_count b)) (drop (second_at b) b)

-- the counts that signal 5 finds right
pub record CountsBy (b : List ℕ) : Type 0 where
  pub words-most : words_count b ≤ cells (dimensions_of b)
  pub fields : Same b
  pub size : length b ≡ end_at b

pub counts_by : (b : List ℕ) → counts_right b ≡ true → CountsBy b
unfolding counts_right
counts_by b h =
    let t1 = both_true (leb (words_count b) (cells (dimensions_of b))) _ h in
    let t2 = both_true ((codec (setting_of b)).counts (cells (dimensions_of b)) (words_count b) (first_count b) (second_count b)) _ t1.1 in
    let t3 = both_true (eqb (first_offset b) header_length) _ t2.1 in
    let t4 = both_true (eqb (second_offset b) (second_at b)) _ t3.1 in
    let t5 = both_true (eqb (words_offset b) (words_at b)) _ t4.1 in
    let t6 = both_true (eqb (length_field b) (end_at b)) _ t5.1 in
    record {
      words-most = leb-true (words_count b) (cells (dimensions_of b)) t1.0;
      fields =
          record {
            first-at = eqb-true (first_offset b) header_length t3.0;
            second_at_lem = eqb-true (second_offset b) (second_at b) t4.0;
            words-at = eqb-true (words_offset b) (words_at b) t5.0;
            end = eqb-true (length_field b) (end_at b) t6.0;
          };
      size = eqb-true (length b) (end_at b) t6.1;
    }

pub length-numbers_of : (w n : ℕ) (b : List ℕ) → length (numbers_of w n b) ≡ n
unfolding numbers_of
length-numbers_of w zero b = refl
length-numbers_of w (suc n) b = ap suc (length-numbers_of w n (drop w b))

-- a list in four pieces
four_pieces : (b : List ℕ) (x m k j : ℕ) → length b ≡ x + m + k + j
    → take x b ++ take m (drop x b) ++ take k (drop (x + m) b) ++ take j (drop (x + m + k) b) ≡ b
four_pieces b x m k j e =
    sym (take-add (x + m + k) j b ∙ ap (λ (l : List ℕ). l ++ take j (drop (x + m + k) b)) (take-add (x + m) k b ∙ ap (λ (l : List ℕ). l ++ take k (drop (x + m) b)) (take-add x m b)))
    ∙ take_all (x + m + k + j) b (omega arith)

counts_path : {a b c d e a' b' c' d' e' : ℕ} → a ≡ a' → b ≡ b' → c ≡ c' → d ≡ d' → e ≡ e'
    → ◌≡◌ {A = Counts} (record { words = a; first_count = b; second_count = c; first_bytes = d; second_bytes = e })
    (record { words = a'; first_count = b'; second_count = c'; first_bytes = d'; second_bytes = e' })
counts_path p q r s t = cc

module _ (b : List ℕ) (s : Below 256 b) (h : WholeHeader b) (k : CountsBy b) (y : BodyBy b) where
  ends : length b ≡ header_length + (codec (setting_of b)).first_bytes (first_count b) (second_count b) + (codec (setting_of b)).second_bytes (first_count b) (second_count b) + 4 * words_count b
  unfolding end_at words_at second_at
  ends = k.size

  long-first : length ((codec (setting_of b)).parts (cells (dimensions_of b)) (positions_of b)).first ≡ (codec (setting_of b)).first_bytes (first_count b) (second_count b)
  long-first = rw y.first (length-take-le ((codec (setting_of b)).first_bytes (first_count b) (second_count b)) (drop header_length b) (rw (length-drop header_length b) (omega (arith, ends))))

  long-second : length ((codec (setting_of b)).parts (cells (dimensions_of b)) (positions_of b)).second ≡ (codec (setting_of b)).second_bytes (first_count b) (second_count b)
  unfolding second_at
  long-second =
      rw y.second
      (length-take-le ((codec (setting_of b)).second_bytes (first_count b) (second_count b)) (drop (second_at b) b) (rw (length-drop (second_at b) b) (omega (arith, ends))))

  words_again : bytes_of 4 (kept_of b) ≡ take (4 * words_count b) (drop (words_at b) b)
  unfolding kept_of words_at second_at
  words_again =
      bytes_of-numbers_of 4 (words_count b) (drop (words_at b) b) (below-drop 256 (words_at b) b s) (rw (length-drop (words_at b) b) (omega (arith, ends)))

  pub length-kept_of : length (kept_of b) ≡ words_count b
  unfolding kept_of
  length-kept_of = length-numbers_of 4 (words_count b) (drop (words_at b) b)

  file_again : file_from (setting_of b) (dimensions_of b) (empty_of b) ((codec (setting_of b)).parts (cells (dimensions_of b)) (positions_of b)) (kept_of b) ≡ b
  unfolding file_from read_counts second_at words_at
  file_again =
      let e : counts_of (length (kept_of b)) ((codec (setting_of b)).parts (cells (dimensions_of b)) (positions_of b)) ≡ read_counts b
      = counts_path length-kept_of y.first_count_lem y.second-count long-first long-second in
      rw (e, header-back b s h k.fields, y.first, y.second, words_again)
      (four_pieces b header_length ((codec (setting_of b)).first_bytes (first_count b) (second_count b)) ((codec (setting_of b)).second_bytes (first_count b) (second_count b)) (4 * words_count b) ends)

  placed_again : (stored (empty_of b) (words_of b) ≡ positions_of b) × (kept (empty_of b) (words_of b) ≡ kept_of b)
  unfolding words_of placed stored
  placed_again =
      stored-placed (empty_of b) 0 (cells (dimensions_of b)) (cells (dimensions_of b)) (positions_of b) (kept_of b) (omega arith) y.rising y.apart (length-kept_of ∙ sym y.size)

  layout_again : layout (setting_of b) (dimensions_of b) (empty_of b) (words_of b) ≡ b
  unfolding layout
  layout_again = rw (placed_again.0, placed_again.1) file_again

  -- where the parts say a picture, and its parts are those of the file, the body is right
  pub body_by : body_right b ≡ true
  unfolding body_right
  body_by = rw (placed_again.0, y.fits, layout_again, same_refl b)

-- ---- and only then

apart_kept : (E : ℕ) (ws : List ℕ) → Apart E (kept E ws)
unfolding kept
apart_kept E [] = tt
apart_kept E (x ∷ ws) = cases (eqb x E) (λ e. rw e (apart_kept E ws)) (λ e. rw e (eqb-false x E e, apart_kept E ws))

pub by_body : (s : Setting) (d : Dimensions) (E : ℕ) (ws b : List ℕ) → HasFile s d E ws b → BodyBy b
unfolding stored
by_body s d E ws b h =
    let p : positions_of b ≡ stored E ws = positions-back s d E ws b h in
    let q : setting_of b ≡ s = setting-back s d E ws b h in
    let z : dimensions_of b ≡ d = dims-back s d E ws b h in
    let o : empty_of b ≡ E = empty_back s d E ws b h in
    let v : kept_of b ≡ kept E ws = kept_back s d E ws b h in
    let c1 = first-count-back s d E ws b h in
    let c2 = second-count-back s d E ws b h in
    record {
      rising = rw (p, z) (rising-stored E 0 (cells d) ws (omega (arith, h.size, zero-add (length ws))));
      apart = rw (o, v) (apart_kept E ws);
      size = rw (p, words-count-back s d E ws b h) (stored-kept E ws);
      fits = rw (q, p) h.fits;
      first_count_lem = rw (q, p, z, c1);
      second-count = rw (q, p, z, c2);
      first = rw (q, p, z, c1, c2, from_first s d E ws b h) (sym (take_at _ (((codec s).parts (cells d) (stored E ws)).second ++ bytes_of 4 (kept E ws)) _ (first-size-back s d E ws b h)));
      second = rw (q, p, z, c1, c2, from_second s d E ws b h) (sym (take_at _ (bytes_of 4 (kept E ws)) _ (second-size-back s d E ws b h)));
    }
