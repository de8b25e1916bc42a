-- A walk along the ranks of a file into an encoder. Assumes nothing.
use Rattle.std.specs.Prelude.{ℕ, List}
use Rattle.format.specs.declared.Setting.{Setting}
use Rattle.format.specs.declared.View.{View}
use Rattle.parts.specs.declared.Cursor.{Cursor}
use Rattle.parts.specs.declared.Encoder.{Encoder}
use Rattle.parts.specs.Carried.{carried}
use Rattle.kinds.specs.Steps.{next_of}
use Rattle.kinds.specs.Coding.{coder}
use Rattle.edits.specs.declared.Edit.{Edit}
use Rattle.edits.specs.Edit.{position_in}
use Rattle.parts.specs.declared.walk.Walk.{Walk}

-- after n ranks from c into e
unfoldable pub along : Setting → List ℕ → View → Cursor → Encoder → ℕ → Walk
along s b v c e n = carried (next_of b v) (coder s) c e n

-- the position that an edit puts, if any
abbrev pub added : Edit → List ℕ
added x = position_in x.added
