-- A call on a picture's file: its number and its result are those of the picture. Assumes nothing.
use Prim.Native.Nat.{ℕ, zero, suc, ◌^◌, ◌≤◌, ◌<◌}
use mathlib.Core.Path.{◌≡◌, refl, ◌∙◌}
use mathlib.Core.Bool.{true, false, not}
use mathlib.Core.List.{List, [], ◌∷◌, ◌++◌}
use native.Mathlib.Omega.{arith}
use lib.ListN.{length, drop, set, replicate, length-set, length-drop}
use lib.Seq.{take_at, drop-append-le, take-append-le}
use lib.Dec.{eqb, ltb}
use borrow.Author.Tests.{eqb-true, ltb-true}
use Rattle.format.specs.Tools.{Below}
use Rattle.format.specs.Signals.{refuse}
use Rattle.format.specs.Bytes.{field}
use Rattle.format.specs.declared.Dimensions.{Dimensions}
use Rattle.format.specs.Picture.{cells, dimensions_allowed}
use Rattle.format.specs.Stored.{stored}
use Rattle.format.specs.File.{WholeHeader, layout, HasFile}
use Rattle.format.specs.Accepted.{length_field}
use Rattle.format.specs.declared.Setting.{Setting}
use Rattle.format.specs.Kinds.{codec, kind_allowed, setting_allowed}
use Rattle.format.specs.Calls.{out_number, setting_number, make_number, write_signal, change_signal, write_number, written_file, change_number, changed_file, expand_number}
use Rattle.format.specs.Lookups.{cell_in, rank_in, position_in, cell_answer, rank_answer, position_answer}
use Rattle.format.specs.Demand3.{file_in}
use Rattle.laws.proofs.Tools.{refuse-zero, not-false}
use Rattle.laws.proofs.Files.{setting-back, dims-back, empty_back, words_back, picture_accepted, length-field, file-right}

field-front : (b more : List ℕ) → WholeHeader b → length_field (b ++ more) ≡ length_field b
unfolding field length_field
field-front b more h =
    let k1 : 48 ≤ length b = omega arith in
    let k2 : 4 ≤ length (drop 48 b) = rw (length-drop 48 b) (omega arith) in
    rw (drop-append-le 48 b more k1, take-append-le 4 (drop 48 b) more k2)

module _ (s : Setting) (d : Dimensions) (E : ℕ) (ws b : List ℕ) (h : HasFile s d E ws b) where
  pub write-number : (p x room : ℕ) → write_number b p x room ≡ write_signal s d E ws p x room
  unfolding write_number
  write-number p x room = rw (picture_accepted s d E ws b h, setting-back s d E ws b h, dims-back s d E ws b h, empty_back s d E ws b h, words_back s d E ws b h)

  pub written_file_lem : (p x : ℕ) → written_file b p x ≡ layout s d E (set ws p x)
  unfolding written_file
  written_file_lem p x = rw (setting-back s d E ws b h, dims-back s d E ws b h, empty_back s d E ws b h, words_back s d E ws b h)

  pub change-number : (s' : Setting) (room : ℕ) → change_number b s' room ≡ change_signal s' d E ws room
  unfolding change_number
  change-number s' room = rw (picture_accepted s d E ws b h, dims-back s d E ws b h, empty_back s d E ws b h, words_back s d E ws b h)

  pub changed-file : (s' : Setting) → changed_file b s' ≡ layout s' d E ws
  unfolding changed_file
  changed-file s' = rw (dims-back s d E ws b h, empty_back s d E ws b h, words_back s d E ws b h)

  pub cell-answer : (p : ℕ) → cell_answer b p ≡ cell_in ws p
  unfolding cell_answer
  cell-answer p = rw (picture_accepted s d E ws b h, words_back s d E ws b h)

  pub rank-answer : (p : ℕ) → rank_answer b p ≡ rank_in E ws p
  unfolding rank_answer
  rank-answer p = rw (picture_accepted s d E ws b h, words_back s d E ws b h, empty_back s d E ws b h)

  pub position-answer : (r : ℕ) → position_answer b r ≡ position_in E ws r
  unfolding position_answer
  position-answer r = rw (picture_accepted s d E ws b h, words_back s d E ws b h, empty_back s d E ws b h)

  pub expand-number : (room : ℕ) → expand_number b room ≡ refuse 10 (ltb room (length ws)) 0
  unfolding expand_number
  expand-number room = rw (picture_accepted s d E ws b h, words_back s d E ws b h)

  -- the file at the front of a destination
  pub file_in_lem : (more : List ℕ) → file_in (b ++ more) ≡ b
  unfolding file_in
  file_in_lem more = rw (field-front b more (file-right s d E ws b h).long, length-field s d E ws b h) (take_at b more (length b) refl)

-- ---- an accepted call: the picture afterwards has its file

below_set : (M : ℕ) (ws : List ℕ) (p x : ℕ) → x < M → Below M ws → Below M (set ws p x)
below_set M [] p x k h = tt
below_set M (w ∷ ws) zero x k h = (k, h.1)
below_set M (w ∷ ws) (suc p) x k h = (h.0, below_set M ws p x k h.1)

pub below-replicate : (M n x : ℕ) → x < M → Below M (replicate n x)
below-replicate M zero x k = tt
below-replicate M (suc n) x k = (k, below-replicate M n x k)

pub out-fits : (s : Setting) (d : Dimensions) (E : ℕ) (ws : List ℕ) (room : ℕ) → out_number s d E ws room ≡ 0 → (codec s).unfit (stored E ws) ≡ false
unfolding out_number
out-fits s d E ws room e = (refuse-zero 8 ((codec s).unfit (stored E ws)) _ e).0

-- what an allowed setting says
pub setting-zero : (s : Setting) (later : ℕ) → setting_number s later ≡ 0 → (setting_allowed s ≡ true) × (later ≡ 0)
unfolding setting_number
setting-zero s later e =
    let t = refuse-zero 1 (not (kind_allowed s)) _ e in
    let u = refuse-zero 2 (not (setting_allowed s)) _ t.1 in
    (not-false (setting_allowed s) u.0, u.1)

pub write-inside : (s : Setting) (d : Dimensions) (E : ℕ) (ws : List ℕ) (p x room : ℕ) → write_signal s d E ws p x room ≡ 0 → p < cells d
unfolding write_signal
write-inside s d E ws p x room e = ltb-true p (cells d) (not-false (ltb p (cells d)) (refuse-zero 7 (not (ltb p (cells d))) _ e).0)

pub write_has_file : (s : Setting) (d : Dimensions) (E : ℕ) (ws b : List ℕ) (p x room : ℕ) → HasFile s d E ws b → x < 2 ^ 32
    → write_signal s d E ws p x room ≡ 0 → HasFile s d E (set ws p x) (layout s d E (set ws p x))
unfolding write_signal
write_has_file s d E ws b p x room h k e =
    let t = refuse-zero 7 (not (ltb p (cells d))) _ e in
    record {
      setting = h.setting;
      dims = h.dims;
      empty = h.empty;
      words = below_set (2 ^ 32) ws p x k h.words;
      size = length-set ws p x ∙ h.size;
      fits = out-fits s d E (set ws p x) room t.1;
      file = refl;
    }

pub change_has_file : (s : Setting) (d : Dimensions) (E : ℕ) (ws b : List ℕ) (s' : Setting) (room : ℕ) → HasFile s d E ws b
    → change_signal s' d E ws room ≡ 0 → HasFile s' d E ws (layout s' d E ws)
unfolding change_signal
change_has_file s d E ws b s' room h e =
    let t = setting-zero s' _ e in
    record {
      setting = t.0;
      dims = h.dims;
      empty = h.empty;
      words = h.words;
      size = h.size;
      fits = out-fits s' d E ws room t.1;
      file = refl;
    }

pub make_has_file : (s : Setting) (d : Dimensions) (E : ℕ) (ws : List ℕ) (room : ℕ) → E < 2 ^ 32 → Below (2 ^ 32) ws
    → make_number s d E ws room ≡ 0 → HasFile s d E ws (layout s d E ws)
unfolding make_number
make_has_file s d E ws room k w e =
    let t = setting-zero s _ e in
    let v = refuse-zero 3 (not (dimensions_allowed d)) _ t.1 in
    let z = refuse-zero 6 (not (eqb (length ws) (cells d))) _ v.1 in
    record {
      setting = t.0;
      dims = not-false (dimensions_allowed d) v.0;
      empty = k;
      words = w;
      size = eqb-true (length ws) (cells d) (not-false (eqb (length ws) (cells d)) z.0);
      fits = out-fits s d E ws room z.1;
      file = refl;
    }
