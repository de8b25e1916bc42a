-- A checked file with one cell laid over it: the words after the edit, and the file put out in steps. Assumes nothing.
use Prim.Native.Nat.{ℕ, zero, suc, ◌+◌, ◌*◌, ◌≤◌}
use mathlib.Core.Path.{◌≡◌, refl, sym, ap, subst, ◌∙◌}
use mathlib.Core.Bool.{true}
use mathlib.Core.List.{List}
use native.Mathlib.Omega.{arith}
use lib.ListN.{length}
use Rattle.std.specs.Prelude.{Option, Some}
use Rattle.format.specs.declared.Dimensions.{Dimensions}
use Rattle.format.specs.declared.Setting.{Setting}
use Rattle.format.specs.declared.View.{View}
use Rattle.format.specs.Answers.{leaves}
use Rattle.format.specs.Bytes.{bytes_of}
use Rattle.format.specs.Picture.{cells, most_dimensions}
use Rattle.format.specs.Stored.{stored, kept, placed}
use Rattle.format.specs.Kinds.{setting_allowed}
use Rattle.format.specs.File.{header_length, header, layout}
use Rattle.format.specs.Accepted.{dimensions_of, empty_of, positions_of, kept_of, words_of}
use Rattle.format.specs.Calls.{out_number}
use Rattle.laws.proofs.Limits.{small-dims}
use Rattle.laws.proofs.Stored.{placed-stored, length-placed}
use Rattle.stores.specs.Put.{put}
use Rattle.stores.proofs.Laws.{length-put}
use Rattle.parts.specs.declared.Sizes.{Sizes}
use Rattle.parts.specs.Holds.{ViewOf}
use Rattle.parts.specs.Encoder.{begun}
use Rattle.parts.proofs.Seen.{seen}
use Rattle.kinds.specs.Coding.{firsts, seconds, derived, Apart}
use Rattle.layout.specs.Laid.{counts_in, Measures, out_of, Goes}
use Rattle.layout.proofs.WholeFile.{laid_out, Laid, laid_out_lem, out-number, goes}
use Rattle.edits.specs.declared.Edit.{Edit}
use Rattle.edits.specs.Edit.{edited, overlaid, EditOf}
use Rattle.recode.specs.Recoded.{words_after, Recodes, Recoded}

-- ---- the words after an edit

module _ (b : List ℕ) (v : View) (o : ViewOf b v) (x : Edit) (w : ℕ) where
  module _ (ws : List ℕ) (n : length ws ≡ length (words_of b)) (p : edited x (positions_of b) ≡ stored (empty_of b) ws)
      (q : overlaid x w (kept_of b) ≡ kept (empty_of b) ws) where
    pub after_is : words_after b x w ≡ ws
    unfolding words_after placed stored
    after_is =
        let c : cells (dimensions_of b) ≡ length ws = sym (n ∙ (seen b v o).file.size) in
        rw (p, q, c) (placed-stored (empty_of b) 0 ws)

    pub recodes : EditOf b x → Recodes b x w
    recodes e =
        let a = after_is in
        record { edit = e; positions = ap (stored (empty_of b)) a ∙ sym p; words = ap (kept (empty_of b)) a ∙ sym q }

  abbrev ws : List ℕ
  ws = words_after b x w

  four : length (dimensions_of b).extents ≡ most_dimensions
  four = (small-dims (dimensions_of b) (seen b v o).file.dims).extents.four

  size : cells (dimensions_of b) ≡ length ws
  unfolding words_after placed
  size = sym (length-placed (empty_of b) 0 (cells (dimensions_of b)) (edited x (positions_of b)) (overlaid x w (kept_of b)))

  few : length ws ≤ 16777216
  few = let m = (seen b v o).header.counted.cells-most in let c = (seen b v o).header.cells in let n = size in omega arith

-- ---- measured

module _ (b : List ℕ) (v : View) (o : ViewOf b v) (x : Edit) (w : ℕ) (r : Recodes b x w) (s : Setting) (a : setting_allowed s ≡ true) (m : Option Sizes)
    (k : Measures s v.cells (edited x (positions_of b)) m) where
  by_words : Measures s (length (ws b v o x w)) (stored (empty_of b) (ws b v o x w)) m
  by_words =
      let n : v.cells ≡ length (ws b v o x w) = (seen b v o).header.cells ∙ size b v o x w in
      subst (λ (t : List ℕ). Measures s (length (ws b v o x w)) t m) (sym r.positions) (rw n at k)

  pub recode_number : (room n : ℕ) → n ≡ out_of m room → n ≡ out_number s (dimensions_of b) (empty_of b) (words_after b x w) room
  recode_number room n f = f ∙ out-number s a (dimensions_of b) (four b v o x w) (empty_of b) (ws b v o x w) (size b v o x w) (few b v o x w) m by_words room

  pub recode_goes : (room : ℕ) → out_of m room ≡ 0 → (z : Sizes) → m ≡ Some z → Goes s (dimensions_of b) (empty_of b) (words_after b x w) z room
  recode_goes room f z e = goes s a (dimensions_of b) (four b v o x w) (empty_of b) (ws b v o x w) (size b v o x w) (few b v o x w) m by_words room f z e

pub recode_refused : (b : List ℕ) (x : Edit) (w : ℕ) (s : Setting) (before : List ℕ) (n : ℕ)
    → n ≡ out_number s (dimensions_of b) (empty_of b) (words_after b x w) (length before) → (n ≡ 0 → ⊥) → Recoded b x w s before n before
recode_refused b x w s before zero e h = absurd (h refl)
recode_refused b x w s before (suc n) e h = record { number = e; left = refl }

-- ---- put out

module _ (b : List ℕ) (v : View) (o : ViewOf b v) (x : Edit) (w : ℕ) (r : Recodes b x w) (s : Setting) (before : List ℕ) (z : Sizes)
    (g : Goes s (dimensions_of b) (empty_of b) (words_after b x w) z (length before)) where
  abbrev second : ℕ
  second = header_length + z.first

  pub recode_laid : Laid s (dimensions_of b) (empty_of b) (words_after b x w) before z
  recode_laid = laid_out_lem s (dimensions_of b) (empty_of b) (words_after b x w) before z (four b v o x w) (size b v o x w) g

  pub second-small : second ≤ 4294967296
  second-small = let f = recode_laid.fitting in omega arith

  module _ (d : Dimensions) (k : d ≡ dimensions_of b) (d1 : List ℕ) (h : d1 ≡ put before 0 (header s d v.empty (counts_in z))) where
    room-1 : length d1 ≡ length before
    room-1 = ap length h ∙ length-put before 0 (header s d v.empty (counts_in z))

    pub parts_apart : Apart s (begun header_length second) (edited x (positions_of b)) (length d1)
    parts_apart =
        let l = room-1 in
        let a : Apart s (begun header_length second) (edited x (positions_of b)) (second + z.second)
        = subst (λ (t : List ℕ). Apart s (begun header_length second) t (second + z.second)) r.positions recode_laid.apart in
        let n = recode_laid.words-room in
        record { first = a.first; second = omega (arith, a.second) }

    module _ (d2 : List ℕ)
        (i : d2 ≡ put (put d1 header_length (firsts s (begun header_length second) (edited x (positions_of b)))) second (seconds s (begun header_length second) (edited x (positions_of b)))) where
      pub words_fit : second + z.second + 4 * length (overlaid x w (kept_of b)) ≤ length d2
      words_fit =
          let l = room-1 in
          let f = firsts s (begun header_length second) (edited x (positions_of b)) in
          let t = seconds s (begun header_length second) (edited x (positions_of b)) in
          let m = ap length i ∙ length-put (put d1 header_length f) second t ∙ length-put d1 header_length f in
          let u = ap length r.words in
          let n = recode_laid.words-room in
          omega arith

      module _ (d3 : List ℕ) (j : d3 ≡ put d2 (second + z.second) (bytes_of 4 (overlaid x w (kept_of b)))) where
        pub all-out : d3 ≡ laid_out s (dimensions_of b) (empty_of b) (words_after b x w) z before
        all-out = rw (j, i, h, k, (seen b v o).empty, r.positions, r.words)

        pub recode_file : (after : List ℕ) → after ≡ derived s z header_length d3
            → after ≡ leaves 0 (layout s (dimensions_of b) (empty_of b) (words_after b x w)) before
        recode_file after e = e ∙ ap (derived s z header_length) all-out ∙ recode_laid.file
