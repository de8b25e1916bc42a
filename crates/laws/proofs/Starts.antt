-- Where the lists of demand 3 start: a picture whose cells are all empty is made in every allowed setting and dimensions, and its file is a header alone.
-- Assumes nothing.
use Prim.Native.Nat.{ℕ, zero, suc, ◌^◌, ◌≤◌, ◌<◌}
use mathlib.Core.Path.{◌≡◌, refl, ap, ◌∙◌}
use mathlib.Core.Bool.{true, false}
use mathlib.Core.List.{List, []}
use native.Mathlib.Omega.{arith}
use lib.ListN.{length, drop, replicate, length-replicate, length-append, length-drop}
use borrow.Author.Tests.{eq-eqb}
use Rattle.format.specs.Tools.{listed}
use Rattle.format.specs.declared.Dimensions.{Dimensions}
use Rattle.format.specs.declared.Setting.{Setting}
use Rattle.format.specs.Picture.{cells, dimensions_allowed}
use Rattle.format.specs.Stored.{stored_from, stored, kept}
use Rattle.format.specs.Kinds.{codec, setting_allowed}
use Rattle.format.specs.Codec.{Codec}
use Rattle.format.specs.Bytes.{bytes_of}
use Rattle.format.specs.Runs.{runs, spans_from, spans, flat_runs, run_parts, runs_kind}
use Rattle.format.specs.Positions.{position_parts, positions_kind}
use Rattle.format.specs.BaseOffset.{bases, offsets, offsets_fit, based_parts, based_kind}
use Rattle.format.specs.Jumps.{differences, jumps_of, jumps, jump_parts, jumps_kind}
use Rattle.format.specs.PointedJumps.{jump_ranks_from, pointers, pointed_parts, pointed_kind}
use Rattle.format.specs.PagedRuns.{sums_from, level, levels_above, upper_levels, flat_spans, paged_parts, pages_kind}
use Rattle.format.specs.File.{header_length, layout, HasFile}
use Rattle.format.specs.Calls.{make_number}
use Rattle.format.specs.Demand3.{Call, Listed}
use Rattle.laws.proofs.Bytes.{length-bytes_of}
use Rattle.laws.proofs.Settings.{by_kind}
use Rattle.laws.proofs.Bounds.{up_to-zero}
use Rattle.laws.proofs.Files.{from_first, file-right}
use Rattle.laws.proofs.Calls.{below-replicate}
use Rattle.laws.proofs.Fits.{make_iff}
use Rattle.laws.proofs.Demand3.{WordsIn, lists_exist}

-- each kind can hold no stored cell, and its parts are then empty
record None (c : Codec) : Type 0 where
  fit : c.unfit [] ≡ false
  first : (n : ℕ) → (c.parts n []).first ≡ []
  second : (n : ℕ) → (c.parts n []).second ≡ []

nothing : (s : Setting) → setting_allowed s ≡ true → None (codec s)
unfolding codec runs_kind run_parts runs flat_runs positions_kind position_parts based_kind based_parts offsets_fit bases offsets listed jumps_kind jump_parts jumps jumps_of differences pages_kind paged_parts spans spans_from level sums_from upper_levels levels_above flat_spans pointed_kind pointed_parts pointers jump_ranks_from bytes_of
nothing =
    by_kind (λ s. None (codec s))
    (record {
      runs = record { fit = refl; first = λ n. refl; second = λ n. refl };
      positions = record { fit = refl; first = λ n. refl; second = λ n. refl };
      based = λ w l _ _ c _. record { fit = refl; first = λ n. rw (up_to-zero l c); second = λ n. refl };
      jumps = λ w _ _. record { fit = refl; first = λ n. refl; second = λ n. refl };
      paged = λ b _ _. record { fit = refl; first = λ n. refl; second = λ n. refl };
      pointed = λ w l _ _ c _. record { fit = refl; first = λ n. refl; second = λ n. rw (up_to-zero l c) };
    })

stored-none : (E p n : ℕ) → stored_from E p (replicate n E) ≡ []
unfolding stored_from
stored-none E p zero = refl
stored-none E p (suc n) = rw (eq-eqb E E refl) (stored-none E (suc p) n)

kept-none : (E n : ℕ) → kept E (replicate n E) ≡ []
unfolding kept
kept-none E zero = refl
kept-none E (suc n) = rw (eq-eqb E E refl) (kept-none E n)

module _ (s : Setting) (d : Dimensions) (E : ℕ) (allowed : setting_allowed s ≡ true) (dims : dimensions_allowed d ≡ true) (small : E < 2 ^ 32) where
  abbrev empties : List ℕ
  empties = replicate (cells d) E

  none : stored E empties ≡ []
  unfolding stored
  none = stored-none E 0 (cells d)

  file : HasFile s d E empties (layout s d E empties)
  file =
      record {
        setting = allowed;
        dims = dims;
        empty = small;
        words = below-replicate (2 ^ 32) (cells d) E small;
        size = length-replicate (cells d) E;
        fits = rw none (nothing s allowed).fit;
        file = refl;
      }

  -- nothing follows the header
  nothing_after : length (drop header_length (layout s d E empties)) ≡ 0
  nothing_after =
      let k = nothing s allowed in
      let f : length ((codec s).parts (cells d) (stored E empties)).first ≡ 0 = ap (λ (ls : List ℕ). length ((codec s).parts (cells d) ls).first) none ∙ ap length (k.first (cells d)) in
      let g : length ((codec s).parts (cells d) (stored E empties)).second ≡ 0 = ap (λ (ls : List ℕ). length ((codec s).parts (cells d) ls).second) none ∙ ap length (k.second (cells d)) in
      ap length (from_first s d E empties (layout s d E empties) file)
      ∙ simp (kept-none, length-append, length-bytes_of) (omega arith)

  pub start_length : length (layout s d E empties) ≡ header_length
  start_length =
      let k = (file-right s d E empties (layout s d E empties) file).long in
      let n = nothing_after in
      omega (arith, length-drop header_length (layout s d E empties))

  pub start_made : (room : ℕ) → header_length ≤ room → make_number s d E empties room ≡ 0
  start_made room k = (make_iff s d E empties room small file.words).1 (file, rw start_length k)

  -- each list of calls has its answers and its file
  pub start_listed : (cs : List Call) → WordsIn cs → (ns : List ℕ) × ((b : List ℕ) × Listed d E s cs ns b)
  start_listed = lists_exist d E s (replicate header_length 0) (rw length-replicate (start_made header_length (omega arith)))
