-- What make answers and leaves. Assumes nothing.
use Prim.Native.Nat.{ℕ, zero, suc, ◌+◌, ◌*◌, ◌≤◌}
use mathlib.Core.Path.{◌≡◌, refl, sym, ap, subst, ◌∙◌}
use mathlib.Core.Bool.{true, false, not}
use mathlib.Core.List.{List, ◌++◌}
use native.Mathlib.Omega.{arith}
use lib.ListN.{length, drop}
use lib.Dec.{eqb}
use borrow.Author.Tests.{eq-eqb, ne_eqb, eqb-true, not-false}
use Rattle.std.specs.Prelude.{Option, Some, IfSome}
use Rattle.format.specs.declared.Dimensions.{Dimensions}
use Rattle.format.specs.declared.Setting.{Setting}
use Rattle.format.specs.Signals.{EXTENT, PICTURE, refuse, or_else}
use Rattle.format.specs.Answers.{leaves}
use Rattle.format.specs.Picture.{most_dimensions, cells, dimensions_allowed}
use Rattle.format.specs.Kinds.{setting_allowed}
use Rattle.format.specs.Bytes.{bytes_of}
use Rattle.format.specs.Stored.{stored, kept}
use Rattle.format.specs.File.{header_length, header, layout}
use Rattle.format.specs.Calls.{out_number, setting_number, make_number, Made}
use Rattle.laws.proofs.Tools.{refuse-zero}
use Rattle.laws.proofs.Limits.{small-dims}
use Rattle.laws.proofs.Stored.{rising}
use Rattle.laws.proofs.Calls.{setting-zero}
use Rattle.stores.specs.Put.{put}
use Rattle.stores.proofs.Laws.{length-put}
use Rattle.parts.specs.declared.Sizes.{Sizes}
use Rattle.parts.specs.Encoder.{begun}
use Rattle.kinds.specs.Coding.{firsts, seconds, derived}
use Rattle.layout.specs.Laid.{counts_in, Fitting, Measures, out_of, Goes}
use Rattle.layout.proofs.Measuring.{fitting}
use Rattle.layout.proofs.WholeFile.{Derivable, out-number, goes, laid_out, Laid, laid_out_lem}
use Rattle.checked.proofs.Number.{refuse_later, setting_later}
use Rattle.making.specs.Known.{picture_number}

-- ---- the numbers before the file is measured

module _ (s : Setting) (d : Dimensions) (E : ℕ) (ws : List ℕ) (room : ℕ) where
  pub make_number_lem : make_number s d E ws room ≡ or_else (picture_number s d (length ws)) (out_number s d E ws room)
  unfolding make_number picture_number
  make_number_lem =
      ap (setting_number s)
      (ap (refuse EXTENT (not (dimensions_allowed d))) (refuse_later 6 (not (eqb (length ws) (cells d))) 0 (out_number s d E ws room))
      ∙ refuse_later 3 (not (dimensions_allowed d)) (refuse PICTURE (not (eqb (length ws) (cells d))) 0) (out_number s d E ws room))
      ∙ setting_later s (refuse EXTENT (not (dimensions_allowed d)) (refuse PICTURE (not (eqb (length ws) (cells d))) 0)) (out_number s d E ws room)

-- what the picture's number 0 says
pub record PictureRight (s : Setting) (d : Dimensions) (n : ℕ) : Type 0 where
  pub setting : setting_allowed s ≡ true
  pub dims : dimensions_allowed d ≡ true
  pub size : n ≡ cells d
  pub four : length d.extents ≡ most_dimensions
  pub few : n ≤ 16777216

pub picture_right : (s : Setting) (d : Dimensions) (n : ℕ) → picture_number s d n ≡ 0 → PictureRight s d n
unfolding picture_number
picture_right s d n h =
    let t = setting-zero s (refuse EXTENT (not (dimensions_allowed d)) (refuse PICTURE (not (eqb n (cells d))) 0)) h in
    let u = refuse-zero 3 (not (dimensions_allowed d)) (refuse PICTURE (not (eqb n (cells d))) 0) t.1 in
    let w = refuse-zero 6 (not (eqb n (cells d))) 0 u.1 in
    let a : dimensions_allowed d ≡ true = not-false (dimensions_allowed d) u.0 in
    let e : n ≡ cells d = eqb-true n (cells d) (not-false (eqb n (cells d)) w.0) in
    let m = small-dims d a in
    record { setting = t.0; dims = a; size = e; four = m.extents.four; few = omega (arith, m.most) }

-- ---- the numbers, as the code finds them

module _ (s : Setting) (d : Dimensions) (n : ℕ) where
  pub setting-refused : (k : ℕ) → k ≡ setting_number s 0 → (k ≡ 0 → ⊥) → k ≡ picture_number s d n
  unfolding picture_number
  setting-refused zero e h = absurd (h refl)
  setting-refused (suc k) e h =
      let later = refuse EXTENT (not (dimensions_allowed d)) (refuse PICTURE (not (eqb n (cells d))) 0) in
      sym (setting_later s 0 later ∙ ap (λ (x : ℕ). or_else x later) (sym e))

  module _ (t : setting_number s 0 ≡ 0) where
    after-setting : (later : ℕ) → later ≡ setting_number s later
    after-setting later = sym (setting_later s 0 later ∙ ap (λ (x : ℕ). or_else x later) t)

    pub extent_refused : dimensions_allowed d ≡ false → EXTENT ≡ picture_number s d n
    unfolding picture_number
    extent_refused e = rw e (after-setting EXTENT)

    module _ (c : ℕ) (some : (dimensions_allowed d ≡ true) × (c ≡ cells d)) where
      pub words-refused : (n ≡ c → ⊥) → PICTURE ≡ picture_number s d n
      unfolding picture_number
      words-refused h = rw (some.0, ne_eqb n (cells d) (λ z. h (z ∙ sym some.1))) (after-setting PICTURE)

      pub none-refused : n ≡ c → 0 ≡ picture_number s d n
      unfolding picture_number
      none-refused h = rw (some.0, eq-eqb n (cells d) (h ∙ some.1)) (after-setting 0)

-- ---- the contract

module _ (s : Setting) (d : Dimensions) (E : ℕ) (ws before : List ℕ) where
  pub make_refused : (n : ℕ) → n ≡ picture_number s d (length ws) → (n ≡ 0 → ⊥) → Made s d E ws before n before
  make_refused zero e h = absurd (h refl)
  make_refused (suc n) e h =
      record {
        number = sym (make_number_lem s d E ws (length before) ∙ ap (λ (x : ℕ). or_else x (out_number s d E ws (length before))) (sym e));
        left = refl;
      }

  module _ (p : picture_number s d (length ws) ≡ 0) where
    made-number : out_number s d E ws (length before) ≡ make_number s d E ws (length before)
    made-number = sym (make_number_lem s d E ws (length before) ∙ ap (λ (x : ℕ). or_else x (out_number s d E ws (length before))) p)

    pub make_unfit : (n : ℕ) → n ≡ out_number s d E ws (length before) → (n ≡ 0 → ⊥) → Made s d E ws before n before
    make_unfit zero e h = absurd (h refl)
    make_unfit (suc n) e h = record { number = e ∙ made-number; left = refl }

    pub make_done : (after : List ℕ) → out_number s d E ws (length before) ≡ 0 → after ≡ layout s d E ws ++ drop (length (layout s d E ws)) before
        → Made s d E ws before 0 after
    make_done after e f = record { number = sym e ∙ made-number; left = f }

-- ---- the file put out in steps

module _ (s : Setting) (d : Dimensions) (E : ℕ) (ws before : List ℕ) (z : Sizes) (four : length d.extents ≡ most_dimensions) (size : cells d ≡ length ws)
    (g : Goes s d E ws z (length before)) where
  pub laid_by : Laid s d E ws before z
  laid_by = laid_out_lem s d E ws before z four size g

  module _ (d1 : List ℕ) (h : d1 ≡ put before 0 (header s d E (counts_in z))) where
    pub words-room : header_length + z.first + z.second + 4 * length (kept E ws) ≤ length d1
    words-room = let l = ap length h ∙ length-put before 0 (header s d E (counts_in z)) in let r = laid_by.words-room in omega arith

    module _ (d2 : List ℕ)
        (i : d2 ≡ put
        (put (put d1 header_length (firsts s (begun header_length (header_length + z.first)) (stored E ws))) (header_length + z.first)
        (seconds s (begun header_length (header_length + z.first)) (stored E ws)))
        (header_length + z.first + z.second) (bytes_of 4 (kept E ws))) where
      steps : d2 ≡ laid_out s d E ws z before
      steps =
          i
          ∙ ap
          (λ (t : List ℕ).
          put
          (put (put t header_length (firsts s (begun header_length (header_length + z.first)) (stored E ws))) (header_length + z.first)
          (seconds s (begun header_length (header_length + z.first)) (stored E ws)))
          (header_length + z.first + z.second) (bytes_of 4 (kept E ws)))
          h

      pub derivable_then : Derivable s z d2
      derivable_then = subst (Derivable s z) (sym steps) laid_by.derivable

      pub file-there : (after : List ℕ) → after ≡ derived s z header_length d2 → after ≡ leaves 0 (layout s d E ws) before
      file-there after f = f ∙ ap (derived s z header_length) steps ∙ laid_by.file

-- ---- what was measured of a picture

module _ (s : Setting) (d : Dimensions) (E : ℕ) (ws : List ℕ) (p : picture_number s d (length ws) ≡ 0) (m : Option Sizes)
    (k : Measures s (length ws) (stored E ws) m) where
  r : PictureRight s d (length ws)
  r = picture_right s d (length ws) p

  pub measured_fitting : IfSome m Fitting
  measured_fitting = fitting s r.setting (length ws) (stored E ws) r.few (rising E ws) m k

  pub measured_number : (room n : ℕ) → n ≡ out_of m room → n ≡ out_number s d E ws room
  measured_number room n o = o ∙ out-number s r.setting d r.four E ws (sym r.size) r.few m k room

  pub measured_goes : (room : ℕ) → out_of m room ≡ 0 → (z : Sizes) → m ≡ Some z → (cells d ≡ length ws) × Goes s d E ws z room
  measured_goes room o z e = (sym r.size, goes s r.setting d r.four E ws (sym r.size) r.few m k room o z e)
