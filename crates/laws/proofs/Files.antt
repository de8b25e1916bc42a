-- The file of a picture: its header, parts and words are read back, and it is accepted. Assumes nothing.
use Prim.Native.Nat.{ℕ, ◌+◌, ◌*◌, ◌^◌, ◌≤◌}
use mathlib.Core.Path.{◌≡◌, refl, sym, ◌∙◌, subst, ap}
use mathlib.Core.Bool.{true}
use mathlib.Core.List.{List, [], ◌++◌, append_assoc, append-nil}
use native.Mathlib.Nat.{zero-add}
use native.Mathlib.Omega.{arith}
use lib.ListN.{length, drop, length-append}
use lib.Seq.{drop_at, drop-drop}
use lib.Dec.{eqb, leb}
use borrow.Author.Tests.{eq-eqb, le-leb, le-ltb}
use Rattle.format.specs.Bytes.{bytes_of, numbers_of}
use Rattle.format.specs.declared.Dimensions.{Dimensions}
use Rattle.format.specs.Picture.{cells, dimensions_allowed}
use Rattle.format.specs.Stored.{stored, kept, placed}
use Rattle.format.specs.declared.Setting.{Setting}
use Rattle.format.specs.Kinds.{codec, kind_allowed, setting_allowed}
use Rattle.format.specs.File.{header_length, WholeHeader, Counts, counts_of, header, file_from, layout, HasFile}
use Rattle.format.specs.Accepted.{setting_of, dimensions_of, empty_of, words_count, first_count, second_count, first_offset, second_offset, words_offset, length_field, second_at, words_at, end_at, counts_right, positions_of, kept_of, words_of, body_right, header_number, check_number}
use Rattle.laws.proofs.Stored.{Rising, rising-stored, stored-kept, length-kept_le, placed-stored, below-kept}
use Rattle.laws.proofs.Tools.{same_refl}
use Rattle.laws.proofs.Bytes.{length-bytes_of, numbers_of-bytes_of}
use Rattle.laws.proofs.Settings.{small-setting, kind_allowed_lem}
use Rattle.laws.proofs.Parts.{Known, known}
use Rattle.laws.proofs.Header.{Small, Read, read_header}
use Rattle.laws.proofs.Limits.{small-dims}

-- none of 1 to 5 applies
pub record HeaderRight (b : List ℕ) : Type 0 where
  pub long : WholeHeader b
  pub kind : kind_allowed (setting_of b) ≡ true
  pub setting : setting_allowed (setting_of b) ≡ true
  pub dims : dimensions_allowed (dimensions_of b) ≡ true
  pub counts : counts_right b ≡ true

module _ (s : Setting) (d : Dimensions) (E : ℕ) (ws b : List ℕ) (h : HasFile s d E ws b) where
  -- the two parts' bytes
  abbrev part1 : List ℕ
  part1 = ((codec s).parts (cells d) (stored E ws)).first

  abbrev part2 : List ℕ
  part2 = ((codec s).parts (cells d) (stored E ws)).second

  counts : Counts
  counts = counts_of (length (kept E ws)) ((codec s).parts (cells d) (stored E ws))

  body : List ℕ
  body = part1 ++ (part2 ++ bytes_of 4 (kept E ws))

  rising : Rising 0 (cells d) (stored E ws)
  unfolding stored
  rising = rising-stored E 0 (cells d) ws (omega (arith, h.size, zero-add (length ws)))

  kn : Known (codec s) (cells d) (stored E ws)
  kn = known (cells d) (stored E ws) (small-dims d h.dims).most rising s h.setting h.fits

  small : Small s d E counts
  unfolding counts
  small =
      let a = small-setting s h.setting in
      let c = small-dims d h.dims in
      let k1 = kn.first-most in
      let k2 = kn.second-most in
      let k3 = kn.firsts in
      let k4 = kn.seconds in
      let e = stored-kept E ws in
      let n = length-kept_le E ws in
      let z = h.size in
      let m = c.most in
      record {
        kind = omega arith;
        width = a.width;
        step = a.step;
        count = omega arith;
        extents = c.extents;
        empty = h.empty;
        words = omega arith;
        first = omega arith;
        second = omega arith;
        total = omega arith;
      }

  split : b ≡ header s d E counts ++ body
  unfolding layout file_from body counts
  split = sym h.file ∙ simp append_assoc

  rd : Read s d E counts body b
  rd = subst (λ (x : List ℕ). Read s d E counts body x) (sym split) (read_header s d E counts body small)

  -- where the parts stand
  second-starts : second_at b ≡ header_length + length part1
  unfolding second_at counts
  second-starts = rw (rd.setting, rd.first, rd.second, kn.first-size)

  words_start : words_at b ≡ header_length + length part1 + length part2
  unfolding words_at counts
  words_start = rw (second-starts, rd.setting, rd.first, rd.second, kn.second-size)

  ends : end_at b ≡ header_length + length part1 + length part2 + 4 * length (kept E ws)
  unfolding end_at counts
  ends = rw (words_start, rd.words)

  pub from_second : drop (second_at b) b ≡ part2 ++ bytes_of 4 (kept E ws)
  unfolding body
  from_second = rw (second-starts, ← drop-drop (length part1) header_length b, rd.rest) (drop_at part1 (part2 ++ bytes_of 4 (kept E ws)) (length part1) refl)

  pub from_words : drop (words_at b) b ≡ bytes_of 4 (kept E ws)
  from_words =
      rw (words_start, ← drop-drop (length part2) (header_length + length part1) b, ← second-starts, from_second)
      (drop_at part2 (bytes_of 4 (kept E ws)) (length part2) refl)

  pub from_first : drop header_length b ≡ part1 ++ (part2 ++ bytes_of 4 (kept E ws))
  unfolding body
  from_first = rd.rest

  pub positions-back : positions_of b ≡ stored E ws
  unfolding positions_of body counts
  positions-back = rw (rd.setting, from_second, rd.first, rd.second, rd.rest, positions_of) (kn.back (part2 ++ bytes_of 4 (kept E ws)) (bytes_of 4 (kept E ws)))

  pub kept_back : kept_of b ≡ kept E ws
  unfolding kept_of counts
  kept_back =
      let k : numbers_of 4 (length (kept E ws)) (bytes_of 4 (kept E ws) ++ []) ≡ kept E ws
      = numbers_of-bytes_of 4 (kept E ws) [] (below-kept (256 ^ 4) E ws h.words) in
      rw (from_words, rd.words) (rw append-nil at k)

  pub words_back : words_of b ≡ ws
  unfolding words_of placed stored
  words_back = rw (positions-back, kept_back, rd.empty, rd.dims, ← h.size) (placed-stored E 0 ws)

  pub words-count-back : words_count b ≡ length (kept E ws)
  unfolding counts
  words-count-back = rd.words

  pub first-count-back : first_count b ≡ ((codec s).parts (cells d) (stored E ws)).first_count
  unfolding counts
  first-count-back = rd.first

  pub second-count-back : second_count b ≡ ((codec s).parts (cells d) (stored E ws)).second_count
  unfolding counts
  second-count-back = rd.second

  pub first-size-back : length part1 ≡ (codec s).first_bytes ((codec s).parts (cells d) (stored E ws)).first_count ((codec s).parts (cells d) (stored E ws)).second_count
  first-size-back = kn.first-size

  pub second-size-back : length part2 ≡ (codec s).second_bytes ((codec s).parts (cells d) (stored E ws)).first_count ((codec s).parts (cells d) (stored E ws)).second_count
  second-size-back = kn.second-size

  pub setting-back : setting_of b ≡ s
  setting-back = rd.setting

  pub dims-back : dimensions_of b ≡ d
  dims-back = rd.dims

  pub empty_back : empty_of b ≡ E
  empty_back = rd.empty

  length_body : length body ≡ length part1 + length part2 + 4 * length (kept E ws)
  unfolding body
  length_body = simp (length-append, length-bytes_of) (omega arith)

  pub file-right : HeaderRight b
  unfolding counts_right counts
  file-right =
      let n : length (kept E ws) ≤ cells d = omega (arith, length-kept_le E ws, h.size) in
      let e1 : leb (words_count b) (cells (dimensions_of b)) ≡ true = rw (rd.words, rd.dims) (le-leb (length (kept E ws)) (cells d) n) in
      let e2 : (codec (setting_of b)).counts (cells (dimensions_of b)) (words_count b) (first_count b) (second_count b) ≡ true
      = rw (rd.setting, rd.dims, rd.words, rd.first, rd.second, ← stored-kept E ws) kn.allowed in
      let o = rd.offsets in
      let e3 : eqb (first_offset b) header_length ≡ true = eq-eqb (first_offset b) header_length o.first-at in
      let e4 : eqb (second_offset b) (second_at b) ≡ true = eq-eqb (second_offset b) (second_at b) (o.second_at_lem ∙ sym second-starts) in
      let e5 : eqb (words_offset b) (words_at b) ≡ true = eq-eqb (words_offset b) (words_at b) (o.words-at ∙ sym words_start) in
      let e6 : eqb (length_field b) (end_at b) ≡ true = eq-eqb (length_field b) (end_at b) (o.end ∙ sym ends) in
      let e7 : eqb (length b) (end_at b) ≡ true = eq-eqb (length b) (end_at b) (omega (arith, rd.size, length_body, ends)) in
      record {
        long = omega (arith, rd.size);
        kind = rw rd.setting (kind_allowed_lem s h.setting);
        setting = rw rd.setting h.setting;
        dims = rw rd.dims h.dims;
        counts = rw (e1, e2, e3, e4, e5, e6, e7);
      }

  body_right_lem : body_right b ≡ true
  unfolding body_right
  body_right_lem = rw (rd.setting, rd.dims, rd.empty, words_back, h.fits, h.file, same_refl b)

  -- the file's length stands in its field
  pub length-field : length_field b ≡ length b
  unfolding counts
  length-field = omega (arith, rd.offsets.end, rd.size, length_body)

  -- a picture's file is accepted
  pub picture_accepted : check_number b ≡ 0
  unfolding check_number header_number
  picture_accepted =
      let r = file-right in
      rw (le-ltb (length b) header_length r.long, r.kind, r.setting, r.dims, r.counts, body_right_lem)

-- ---- expand of the layout is the words, and the layout is injective in the words

-- a picture that can be laid out in the setting
abbrev pub Fit : Setting → Dimensions → ℕ → List ℕ → Type 0
Fit s d E ws = HasFile s d E ws (layout s d E ws)

pub expand-layout : (s : Setting) (d : Dimensions) (E : ℕ) (ws : List ℕ) → Fit s d E ws → words_of (layout s d E ws) ≡ ws
expand-layout s d E ws h = words_back s d E ws (layout s d E ws) h

pub same-words : (s : Setting) (d : Dimensions) (E : ℕ) (ws ws' b : List ℕ) → HasFile s d E ws b → HasFile s d E ws' b → ws ≡ ws'
same-words s d E ws ws' b h h' = sym (words_back s d E ws b h) ∙ words_back s d E ws' b h'

pub layout_injective : (s : Setting) (d : Dimensions) (E : ℕ) (ws ws' : List ℕ) → Fit s d E ws → Fit s d E ws'
    → layout s d E ws ≡ layout s d E ws' → ws ≡ ws'
layout_injective s d E ws ws' h h' e = sym (expand-layout s d E ws h) ∙ ap words_of e ∙ expand-layout s d E ws' h'
