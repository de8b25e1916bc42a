-- The table of demand 3 (document 01, "The table of demand 3"). It is computed from the calls' arguments and the lengths of destinations alone.
-- Assumes nothing.
use Rattle.std.specs.Prelude.{ℕ, zero, suc, List, [], ◌∷◌, set, replicate}
use Rattle.format.specs.declared.Dimensions.{Dimensions}
use Rattle.format.specs.declared.Setting.{Setting}
use Rattle.format.specs.Picture.{cells}
use Rattle.format.specs.File.{layout}
use Rattle.format.specs.Calls.{write_signal, change_signal}

-- a call's arguments other than the file and the destination: a position and a word, or a setting
pub data Request : Type 0 where
  write : ℕ → ℕ → Request
  change : Setting → Request

-- what the table is fed of a call: the request, and the destination's length
pub record Fed : Type 0 where
  pub request : Request
  pub room : ℕ

-- one word for each position, and a setting; dimensions and E never change
pub record Table : Type 0 where
  pub setting : Setting
  pub words : List ℕ

-- all E at first, in the setting of make
unfoldable pub new_table : Dimensions → ℕ → Setting → Table
new_table d E s = record { setting = s; words = replicate (cells d) E }

-- what the layout gives for its words in its setting
unfoldable pub table_file : Dimensions → ℕ → Table → List ℕ
table_file d E t = layout t.setting d E t.words

-- a write would put x at p, a change the new setting for the old
abbrev pub would_be : Table → Request → Table
would_be t (write p x) = record { setting = t.setting; words = set t.words p x }
would_be t (change s) = record { setting = s; words = t.words }

-- the number that the call is refused with: 8, 9 or 10 for a write, 2, 3, 9 or 10 for a change; 0 where it is accepted
abbrev pub signal : Dimensions → ℕ → Table → Request → ℕ → ℕ
signal d E t (write p x) room = write_signal t.setting d E t.words p x room
signal d E t (change s) room = change_signal s d E t.words room

unfoldable pub table_number : Dimensions → ℕ → Table → Fed → ℕ
table_number d E t f = signal d E t f.request f.room

-- after a refusal the table stays as it was, otherwise it becomes what it would be
abbrev pub becomes : ℕ → Table → Table → Table
becomes zero new old = new
becomes (suc n) new old = old

unfoldable pub table_next : Dimensions → ℕ → Table → Fed → Table
table_next d E t f = becomes (table_number d E t f) (would_be t f.request) t

-- the table after a list of calls, and the numbers given on the way
unfoldable pub table_run : Dimensions → ℕ → Table → List Fed → Table
table_run d E t [] = t
table_run d E t (f ∷ fs) = table_run d E (table_next d E t f) fs

unfoldable pub table_numbers : Dimensions → ℕ → Table → List Fed → List ℕ
table_numbers d E t [] = []
table_numbers d E t (f ∷ fs) = table_number d E t f ∷ table_numbers d E (table_next d E t f) fs
