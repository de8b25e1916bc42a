-- What fits is accepted: make, write and change give 0 exactly when the file to be put out exists and there is room. Writing E, and what is there already.
-- Assumes nothing.
use Prim.Native.Nat.{ℕ, ◌^◌, ◌≤◌, ◌<◌}
use mathlib.Core.Path.{◌≡◌, refl, sym, ap, ◌∙◌}
use mathlib.Core.Logic.{◌↔◌}
use mathlib.Core.Bool.{true, false, not}
use mathlib.Core.List.{List}
use native.Mathlib.Nat.{le_refl}
use native.Mathlib.Omega.{arith}
use lib.ListN.{length, get_or, set, length-set}
use lib.Seq.{get_or-set_same, get_or-set_other, take-set-le, ext_get_or}
use lib.Dec.{eqb, ltb}
use borrow.Author.Tests.{eq-eqb, lt-ltb, le-ltb, ltb-false, eqb-true, eqb-false}
use Rattle.format.specs.Tools.{Below}
use Rattle.format.specs.declared.Dimensions.{Dimensions}
use Rattle.format.specs.declared.Setting.{Setting}
use Rattle.format.specs.Picture.{cells, dimensions_allowed}
use Rattle.format.specs.Stored.{stored, rank_at}
use Rattle.format.specs.Kinds.{codec, setting_allowed}
use Rattle.format.specs.File.{layout, HasFile}
use Rattle.format.specs.Answers.{empty}
use Rattle.format.specs.Calls.{out_number, setting_number, make_number, write_signal, change_signal, write_number, written_file, change_number, changed_file}
use Rattle.format.specs.Lookups.{rank_in}
use Rattle.laws.proofs.Tools.{cases, refuse-zero}
use Rattle.laws.proofs.Settings.{kind_allowed_lem}
use Rattle.laws.proofs.Calls.{write-number, written_file_lem, change-number, changed-file, make_has_file, setting-zero}

-- ---- room

out-zero : (s : Setting) (d : Dimensions) (E : ℕ) (ws : List ℕ) (room : ℕ) → (codec s).unfit (stored E ws) ≡ false → length (layout s d E ws) ≤ room
    → out_number s d E ws room ≡ 0
unfolding out_number
out-zero s d E ws room f k = rw (f, le-ltb room (length (layout s d E ws)) k)

out-room : (s : Setting) (d : Dimensions) (E : ℕ) (ws : List ℕ) (room : ℕ) → out_number s d E ws room ≡ 0 → length (layout s d E ws) ≤ room
unfolding out_number
out-room s d E ws room e =
    let t = refuse-zero 8 ((codec s).unfit (stored E ws)) _ e in
    ltb-false room (length (layout s d E ws)) (refuse-zero 9 (ltb room (length (layout s d E ws))) 0 t.1).0

-- ---- accepted exactly when it fits

pub make_iff : (s : Setting) (d : Dimensions) (E : ℕ) (ws : List ℕ) (room : ℕ) → E < 2 ^ 32 → Below (2 ^ 32) ws
    → (make_number s d E ws room ≡ 0) ↔ (HasFile s d E ws (layout s d E ws) × (length (layout s d E ws) ≤ room))
unfolding make_number setting_number
make_iff s d E ws room k w = (only, made)
  where
    only : make_number s d E ws room ≡ 0 → HasFile s d E ws (layout s d E ws) × (length (layout s d E ws) ≤ room)
    only e =
        let t = setting-zero s _ e in
        let v = refuse-zero 3 (not (dimensions_allowed d)) _ t.1 in
        let z = refuse-zero 6 (not (eqb (length ws) (cells d))) _ v.1 in
        (make_has_file s d E ws room k w e, out-room s d E ws room z.1)

    made : HasFile s d E ws (layout s d E ws) × (length (layout s d E ws) ≤ room) → make_number s d E ws room ≡ 0
    made h =
        rw (kind_allowed_lem s h.0.setting, h.0.setting, h.0.dims, eq-eqb (length ws) (cells d) h.0.size)
        (out-zero s d E ws room h.0.fits h.1)

module _ (s : Setting) (d : Dimensions) (E : ℕ) (ws b : List ℕ) (h : HasFile s d E ws b) where
  -- a write that fits is accepted
  pub write_accepts : (p x room : ℕ) → p < cells d → (codec s).unfit (stored E (set ws p x)) ≡ false → length (layout s d E (set ws p x)) ≤ room
      → write_number b p x room ≡ 0
  unfolding write_signal
  write_accepts p x room k f r = write-number s d E ws b h p x room ∙ rw (lt-ltb p (cells d) k) (out-zero s d E (set ws p x) room f r)

  -- a change that fits is accepted
  pub change_accepts : (s' : Setting) (room : ℕ) → setting_allowed s' ≡ true → (codec s').unfit (stored E ws) ≡ false → length (layout s' d E ws) ≤ room
      → change_number b s' room ≡ 0
  unfolding change_signal setting_number
  change_accepts s' room a f r = change-number s d E ws b h s' room ∙ rw (kind_allowed_lem s' a, a) (out-zero s' d E ws room f r)

  -- the word already there: accepted where the file itself has room, and the same file
  set_there : (p : ℕ) → p < length ws → set ws p (get_or ws p 0) ≡ ws
  set_there p k =
      ext_get_or 0 (set ws p (get_or ws p 0)) ws (length-set ws p (get_or ws p 0))
      (λ i _.
      cases (eqb p i)
      (λ e. let m : p ≡ i = eqb-true p i e in rw (← m) (get_or-set_same ws p (get_or ws p 0) 0 k))
      (λ e. get_or-set_other ws p i (get_or ws p 0) 0 (λ m. eqb-false p i e (sym m))))

  pub write_same : (p room : ℕ) → p < cells d → length b ≤ room → (write_number b p (get_or ws p 0) room ≡ 0) × (written_file b p (get_or ws p 0) ≡ b)
  write_same p room k r =
      let n : p < length ws = omega (arith, h.size) in
      let e : set ws p (get_or ws p 0) ≡ ws = set_there p n in (
        write_accepts p (get_or ws p 0) room k (rw e h.fits) (rw (e, h.file) r),
        written_file_lem s d E ws b h p (get_or ws p 0) ∙ ap (layout s d E) e ∙ h.file,
      )

  -- a change to the file's own setting: the same file
  pub change-same : (room : ℕ) → length b ≤ room → (change_number b s room ≡ 0) × (changed_file b s ≡ b)
  change-same room r = (change_accepts s room h.setting h.fits (rw h.file r), changed-file s d E ws b h s ∙ h.file)

-- writing E empties a cell; before it stand the stored cells that stood there
pub write_empties : (E p : ℕ) (ws : List ℕ) → p < length ws → rank_in E (set ws p E) p ≡ empty (rank_at E ws p)
unfolding rank_in
write_empties E p ws k =
    let n : p < length (set ws p E) = rw (length-set ws p E) k in
    let rank-set : rank_at E (set ws p E) p ≡ rank_at E ws p = unfold rank_at in (ap (λ (l : List ℕ). length (stored E l)) (take-set-le p ws p E (le_refl p))) in
    rw (lt-ltb p (length (set ws p E)) n, get_or-set_same ws p E 0 k, eq-eqb E E refl, rank-set)
