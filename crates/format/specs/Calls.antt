-- Make, write, change and expand (document 01, "The calls"): for any bytes and numbers, the answer and what is left in the destination.
-- Assumes nothing.
use Rattle.std.specs.Prelude.{ℕ, ◌≡◌, not, List, length, set, ltb, eqb}
use Rattle.format.specs.declared.Dimensions.{Dimensions}
use Rattle.format.specs.declared.Setting.{Setting}
use Rattle.format.specs.Signals.{KIND, SETTING, EXTENT, PICTURE, BEYOND, UNFIT, SMALL, refuse, or_else}
use Rattle.format.specs.Answers.{leaves}
use Rattle.format.specs.Picture.{cells, dimensions_allowed}
use Rattle.format.specs.Stored.{stored}
use Rattle.format.specs.Kinds.{codec, kind_allowed, setting_allowed}
use Rattle.format.specs.File.{layout}
use Rattle.format.specs.Accepted.{setting_of, dimensions_of, empty_of, words_of, check_number}

-- ---- the numbers, of a picture

-- 9 and 10: the file to be put out, and the destination's length, `room`
unfoldable pub out_number : Setting → Dimensions → ℕ → List ℕ → ℕ → ℕ
out_number s d E ws room = refuse UNFIT ((codec s).unfit (stored E ws)) (refuse SMALL (ltb room (length (layout s d E ws))) 0)

-- 2 and 3: the setting, and then what comes after
unfoldable pub setting_number : Setting → ℕ → ℕ
setting_number s later = refuse KIND (not (kind_allowed s)) (refuse SETTING (not (setting_allowed s)) later)

-- make: 2, 3, 4, 7, 9, 10
unfoldable pub make_number : Setting → Dimensions → ℕ → List ℕ → ℕ → ℕ
make_number s d E ws room =
    setting_number s
    (refuse EXTENT (not (dimensions_allowed d))
    (refuse PICTURE (not (eqb (length ws) (cells d)))
    (out_number s d E ws room)))

-- write the word x at position p: 8, 9, 10
unfoldable pub write_signal : Setting → Dimensions → ℕ → List ℕ → ℕ → ℕ → ℕ → ℕ
write_signal s d E ws p x room = refuse BEYOND (not (ltb p (cells d))) (out_number s d E (set ws p x) room)

-- change to the setting s: 2, 3, 9, 10
unfoldable pub change_signal : Setting → Dimensions → ℕ → List ℕ → ℕ → ℕ
change_signal s d E ws room = setting_number s (out_number s d E ws room)

-- ---- the numbers and results, of a file's bytes: 1 to 6 of the file come first

unfoldable pub write_number : List ℕ → ℕ → ℕ → ℕ → ℕ
write_number b p x room = or_else (check_number b) (write_signal (setting_of b) (dimensions_of b) (empty_of b) (words_of b) p x room)

-- the file of the words after the write, in the file's own setting
unfoldable pub written_file : List ℕ → ℕ → ℕ → List ℕ
written_file b p x = layout (setting_of b) (dimensions_of b) (empty_of b) (set (words_of b) p x)

unfoldable pub change_number : List ℕ → Setting → ℕ → ℕ
change_number b s room = or_else (check_number b) (change_signal s (dimensions_of b) (empty_of b) (words_of b) room)

-- the file of the words in the setting changed to
unfoldable pub changed_file : List ℕ → Setting → List ℕ
changed_file b s = layout s (dimensions_of b) (empty_of b) (words_of b)

unfoldable pub expand_number : List ℕ → ℕ → ℕ
expand_number b room = or_else (check_number b) (refuse SMALL (ltb room (length (words_of b))) 0)

-- ---- the contracts: the `answer`, and the destination, which held `before`, `after` the call

pub record Made (s : Setting) (d : Dimensions) (E : ℕ) (ws before : List ℕ) (answer : ℕ) (after : List ℕ) : Type 0 where
  pub number : answer ≡ make_number s d E ws (length before)
  pub left : after ≡ leaves answer (layout s d E ws) before

pub record Wrote (b : List ℕ) (p x : ℕ) (before : List ℕ) (answer : ℕ) (after : List ℕ) : Type 0 where
  pub number : answer ≡ write_number b p x (length before)
  pub left : after ≡ leaves answer (written_file b p x) before

pub record Changed (b : List ℕ) (s : Setting) (before : List ℕ) (answer : ℕ) (after : List ℕ) : Type 0 where
  pub number : answer ≡ change_number b s (length before)
  pub left : after ≡ leaves answer (changed_file b s) before

-- the destination counts words
pub record Expanded (b before : List ℕ) (answer : ℕ) (after : List ℕ) : Type 0 where
  pub number : answer ≡ expand_number b (length before)
  pub left : after ≡ leaves answer (words_of b) before
