-- A checked file with one cell laid over it, put out in a setting: what write and change share. Assumes nothing.
use Rattle.std.specs.Prelude.{ℕ, ◌≡◌, List, length}
use Rattle.format.specs.declared.Setting.{Setting}
use Rattle.format.specs.Answers.{leaves}
use Rattle.format.specs.Picture.{cells}
use Rattle.format.specs.Stored.{stored, kept, placed}
use Rattle.format.specs.File.{layout}
use Rattle.format.specs.Accepted.{dimensions_of, empty_of, positions_of, kept_of}
use Rattle.format.specs.Calls.{out_number}
use Rattle.edits.specs.declared.Edit.{Edit}
use Rattle.edits.specs.Edit.{edited, overlaid, EditOf}

-- the words after the edit, w being the new one
unfoldable pub words_after : List ℕ → Edit → ℕ → List ℕ
words_after b x w = placed (empty_of b) (cells (dimensions_of b)) (edited x (positions_of b)) (overlaid x w (kept_of b))

-- the edit is one of the file, and leaves no E among the stored words
pub record Recodes (b : List ℕ) (x : Edit) (w : ℕ) : Type 0 where
  pub edit : EditOf b x
  pub positions : stored (empty_of b) (words_after b x w) ≡ edited x (positions_of b)
  pub words : kept (empty_of b) (words_after b x w) ≡ overlaid x w (kept_of b)

-- 9, 10, or the file of the words after the edit
pub record Recoded (b : List ℕ) (x : Edit) (w : ℕ) (s : Setting) (before : List ℕ) (answer : ℕ) (after : List ℕ) : Type 0 where
  pub number : answer ≡ out_number s (dimensions_of b) (empty_of b) (words_after b x w) (length before)
  pub left : after ≡ leaves answer (layout s (dimensions_of b) (empty_of b) (words_after b x w)) before
