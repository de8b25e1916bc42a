-- A file is accepted exactly when some picture has it. Assumes nothing.
use Prim.Native.Nat.{ℕ, ◌^◌, ◌≤◌, ◌<◌}
use mathlib.Core.Path.{◌≡◌, subst}
use mathlib.Core.Bool.{true, not}
use mathlib.Core.List.{List}
use lib.ListN.{length, drop}
use mathlib.Core.Logic.{◌↔◌}
use native.Mathlib.Omega.{arith}
use lib.Dec.{ltb}
use borrow.Author.Tests.{not-true, ltb-false}
use Rattle.format.specs.Tools.{Below}
use Rattle.format.specs.Signals.{BODY, refuse}
use Rattle.format.specs.Bytes.{field}
use Rattle.format.specs.declared.Dimensions.{Dimensions}
use Rattle.format.specs.Picture.{cells, dimensions_allowed}
use Rattle.format.specs.Stored.{stored, placed}
use Rattle.format.specs.declared.Setting.{Setting}
use Rattle.format.specs.Kinds.{codec, kind_allowed, setting_allowed}
use Rattle.format.specs.File.{header_length, header, file_from, layout, HasFile}
use Rattle.format.specs.Accepted.{SomePicture, setting_of, dimensions_of, empty_of, words_count, words_at, counts_right, positions_of, kept_of, words_of, body_right, header_number, check_number}
use Rattle.laws.proofs.Stored.{rising-stored, length-placed, below-placed}
use Rattle.laws.proofs.Tools.{cases, both_true, not-false, refuse-zero, refuse-most, or_else-zero, or_else-small, same_true}
use Rattle.laws.proofs.Limits.{small-dims}
use Rattle.laws.proofs.Parts.{Known, known}
use Rattle.laws.proofs.Files.{HeaderRight, picture_accepted, setting-back, dims-back, empty_back}
use Rattle.laws.proofs.Bytes.{below-append, below-drop, below-bytes_of, number_small, below-numbers_of}

-- ---- the numbers, taken apart

pub header-right : (b : List ℕ) → header_number b ≡ 0 → HeaderRight b
unfolding header_number
header-right b h =
    let t1 = refuse-zero 0 (ltb (length b) header_length) _ h in
    let t2 = refuse-zero 1 (not (kind_allowed (setting_of b))) _ t1.1 in
    let t3 = refuse-zero 2 (not (setting_allowed (setting_of b))) _ t2.1 in
    let t4 = refuse-zero 3 (not (dimensions_allowed (dimensions_of b))) _ t3.1 in
    let t5 = refuse-zero 4 (not (counts_right b)) _ t4.1 in
    record {
      long = ltb-false (length b) header_length t1.0;
      kind = not-false (kind_allowed (setting_of b)) t2.0;
      setting = not-false (setting_allowed (setting_of b)) t3.0;
      dims = not-false (dimensions_allowed (dimensions_of b)) t4.0;
      counts = not-false (counts_right b) t5.0;
    }

-- the header's number is one of 0 to 5
pub header-most : (b : List ℕ) → header_number b ≤ 5
unfolding header_number
header-most b =
    refuse-most 1 (ltb (length b) header_length) 5 (omega arith)
    (refuse-most 2 (not (kind_allowed (setting_of b))) 5 (omega arith)
    (refuse-most 3 (not (setting_allowed (setting_of b))) 5 (omega arith)
    (refuse-most 4 (not (dimensions_allowed (dimensions_of b))) 5 (omega arith)
    (refuse-most 5 (not (counts_right b)) 5 (omega arith) (omega arith)))))

pub record Accepted (b : List ℕ) : Type 0 where
  pub header : header_number b ≡ 0
  pub body : body_right b ≡ true

pub accepted : (b : List ℕ) → check_number b ≡ 0 → Accepted b
unfolding check_number
accepted b h =
    let t = or_else-zero (header_number b) _ h in
    record { header = t.0; body = not-false (body_right b) (refuse-zero 5 (not (body_right b)) _ t.1).0 }

-- a file's bytes are below 256
below-layout : (s : Setting) (d : Dimensions) (E : ℕ) (ws : List ℕ) → Known (codec s) (cells d) (stored E ws) → Below 256 (layout s d E ws)
unfolding layout file_from header
below-layout s d E ws h =
    let p0 = h.first_small in
    let p1 = h.second-small in
    search (below-append, below-bytes_of) depth 8

-- ---- accepted exactly when some picture has the bytes

pub accepted_has_file : (b : List ℕ) → check_number b ≡ 0 → HasFile (setting_of b) (dimensions_of b) (empty_of b) (words_of b) b
unfolding words_of placed stored empty_of kept_of field body_right
accepted_has_file b h =
    let a = accepted b h in
    let r = header-right b a.header in
    let t = both_true (not ((codec (setting_of b)).unfit (stored (empty_of b) (words_of b)))) _ a.body in
    let file : layout (setting_of b) (dimensions_of b) (empty_of b) (words_of b) ≡ b = same_true _ b t.1 in
    let size : length (words_of b) ≡ cells (dimensions_of b) = length-placed (empty_of b) 0 (cells (dimensions_of b)) (positions_of b) (kept_of b) in
    let fits = not-true ((codec (setting_of b)).unfit (stored (empty_of b) (words_of b))) t.0 in
    let kn = known (cells (dimensions_of b)) (stored (empty_of b) (words_of b)) (small-dims (dimensions_of b) r.dims).most (rising-stored (empty_of b) 0 (cells (dimensions_of b)) (words_of b) (omega arith)) (setting_of b) r.setting fits in
    let small : Below 256 b = subst (Below 256) file (below-layout (setting_of b) (dimensions_of b) (empty_of b) (words_of b) kn) in
    let e : empty_of b < 256 ^ 4 = number_small 4 (drop 20 b) (below-drop 256 20 b small) in
    record {
      setting = r.setting;
      dims = r.dims;
      empty = e;
      words = below-placed (256 ^ 4) (empty_of b) 0 (cells (dimensions_of b)) (positions_of b) (kept_of b) e (below-numbers_of 4 (words_count b) (drop (words_at b) b) (below-drop 256 (words_at b) b small));
      size = size;
      fits = fits;
      file = file;
    }

-- for all lists of bytes: accepted if and only if some picture has them
pub accepted_iff : (b : List ℕ) → (check_number b ≡ 0) ↔ SomePicture b
accepted_iff b = ((λ h. (words_of b, accepted_has_file b h)), (λ p. picture_accepted (setting_of b) (dimensions_of b) (empty_of b) p.0 b p.1))

-- and a picture of any dimensions, E and setting that has them is one with the header's
pub some_picture : (s : Setting) (d : Dimensions) (E : ℕ) (ws b : List ℕ) → HasFile s d E ws b → SomePicture b
some_picture s d E ws b h =
    (ws, rw (setting-back s d E ws b h, dims-back s d E ws b h, empty_back s d E ws b h) h)

-- 6 exactly when none of 1 to 5 applies and no picture has the bytes
pub six_iff : (b : List ℕ) → (check_number b ≡ BODY) ↔ ((header_number b ≡ 0) × (SomePicture b → ⊥))
unfolding check_number
six_iff b = (only, made)
  where
    only : check_number b ≡ BODY → (header_number b ≡ 0) × (SomePicture b → ⊥)
    only h = (or_else-small 5 (header_number b) (refuse BODY (not (body_right b)) 0) (header-most b) (omega arith), λ p. let z = (accepted_iff b).1 p in omega arith)

    made : (header_number b ≡ 0) × (SomePicture b → ⊥) → check_number b ≡ BODY
    made q =
        cases (body_right b)
        (λ e. absurd (q.1 ((accepted_iff b).0 (rw (q.0, e)))))
        (λ e. rw (q.0, e))
