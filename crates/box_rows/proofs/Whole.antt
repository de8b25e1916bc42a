-- The whole box: all dimensions, from position 0 and the destination's first element on. Assumes nothing.
use Prim.Native.Nat.{ℕ, ◌≤◌}
use mathlib.Core.Path.{◌≡◌, sym, ap, ◌∙◌}
use mathlib.Core.Bool.{true}
use mathlib.Core.List.{List}
use native.Mathlib.Nat.{zero-mul, zero-add, one-mul, le_refl}
use lib.ListN.{length}
use Rattle.format.specs.declared.Dimensions.{Dimensions}
use Rattle.format.specs.declared.View.{View}
use Rattle.format.specs.Answers.{leaves}
use Rattle.format.specs.Picture.{product, cells, most_dimensions}
use Rattle.format.specs.Accepted.{dimensions_of}
use Rattle.format.specs.Box.{box_allowed, box_from, box_positions, box_words}
use Rattle.stores.specs.Put.{put}
use Rattle.stores.proofs.Laws.{put_front}
use Rattle.parts.specs.Holds.{ViewOf}
use Rattle.parts.proofs.Seen.{seen}
use Rattle.parts.specs.declared.Cursor.{Cursor}
use Rattle.box_rows.specs.declared.Filled.{Filled}
use Rattle.box_region.specs.declared.region.Region.{Region}
use Rattle.box_region.specs.Bounds.{box_count}
use Rattle.box_rows.specs.Filling.{words_on, BoxGoes, BoxFilled}
use Rattle.box_region.specs.Region.{Placed, SameCells}
use Rattle.box_region.proofs.Counted.{allowed_as, length_box}
use Rattle.row_seek.specs.Ready.{Ready}
use Rattle.box_rows.proofs.Turns.{length-words_on}

module _ (b : List ℕ) (v : View) (d : Dimensions) (low high : List ℕ) (o : ViewOf b v) (e : d ≡ dimensions_of b) where
  abbrev region : Region
  region = record { extents = d.extents; low = low; high = high }

  cells-all : product d.extents ≡ v.cells
  unfolding cells
  cells-all = ap cells e ∙ sym (seen b v o).header.cells

  pub box_placed : length low ≡ most_dimensions → length high ≡ most_dimensions → box_allowed d low high ≡ true → Placed region
  box_placed l h a = record { bounds = sym (allowed_as d low high l h) ∙ a; few = rw cells-all (seen b v o).header.counted.cells-most }

  pub box_goes : (r : Region) → SameCells region r → (c : Cursor) (room : ℕ) → Ready b v c 0 → box_count d.extents low high ≤ room
      → BoxGoes b v r.extents r.low r.high 0 (record { cursor = c; words = 0 }) room
  box_goes r s c room y k =
      record {
        view = o;
        bounds = s.bounds;
        ready = rw (zero-mul (product r.extents)) y;
        inside = rw (one-mul (product r.extents), s.product, cells-all) (le_refl v.cells);
        fits = rw (s.positions, zero-add (length (box_from 0 d.extents low high)), length_box 0 d.extents low high) k;
      }

  box_words_lem : box_words b low high ≡ words_on b (box_from 0 d.extents low high)
  unfolding box_words box_positions words_on
  box_words_lem = rw e

  pub length_box_words : length (box_words b low high) ≡ box_count d.extents low high
  length_box_words =
      ap length box_words_lem ∙ length-words_on b (box_from 0 d.extents low high) ∙ length_box 0 d.extents low high

  pub box_done : (g : Region) → SameCells region g → (c : Cursor) (before : List ℕ) (r : Filled) (after : List ℕ) → box_count d.extents low high ≤ length before
      → BoxFilled b v g.extents g.low g.high 0 (record { cursor = c; words = 0 }) before r after → after ≡ leaves 0 (box_words b low high) before
  box_done g s c before r after k f =
      let n : length (box_words b low high) ≤ length before = rw length_box_words k in
      f.put ∙ ap (put before 0) (ap (words_on b) s.positions ∙ sym box_words_lem) ∙ put_front before (box_words b low high) n
