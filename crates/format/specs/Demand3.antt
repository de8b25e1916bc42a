-- Demand 3 (document 01, "The table of demand 3"): the engine's lists, and what is claimed of every two of them. The engine's steps are the contract
-- records that the code cites, on bytes, with any destination contents. Assumes nothing.
use Rattle.std.specs.Prelude.{ℕ, zero, suc, ◌<◌, ◌^◌, ◌≡◌, ◌↔◌, List, [], ◌∷◌, map, length, take, replicate, eqb}
use Rattle.format.specs.declared.Dimensions.{Dimensions}
use Rattle.format.specs.declared.Setting.{Setting}
use Rattle.format.specs.Tools.{pick}
use Rattle.format.specs.Answers.{Answer, given}
use Rattle.format.specs.Picture.{cells}
use Rattle.format.specs.Accepted.{length_field}
use Rattle.format.specs.Calls.{Made, Wrote, Changed, Expanded}
use Rattle.format.specs.Lookups.{CellFound, RankFound, PositionFound}
use Rattle.format.specs.Table.{Request, write, change, Fed, new_table, table_file, table_run, table_numbers}

-- ---- the engine's lists

-- a call of a list: the request, and the contents of its destination
pub record Call : Type 0 where
  pub request : Request
  pub destination : List ℕ

-- what the table is fed of it
abbrev pub fed : Call → Fed
fed c = record { request = c.request; room = length c.destination }

-- one call on the file b, by the contract of write or of change; a word is below 2^32
abbrev pub Called : List ℕ → Request → List ℕ → ℕ → List ℕ → Type 0
Called b (write p x) before answer after = (x < 2 ^ 32) × Wrote b p x before answer after
Called b (change s) before answer after = Changed b s before answer after

-- the file in a destination: its first bytes, as many as the file is long, which stands at byte 48
unfoldable pub file_in : List ℕ → List ℕ
file_in dst = take (length_field dst) dst

-- the list's file after a call: from the destination where the call was accepted, else the one from before
abbrev pub next_file : List ℕ → ℕ → List ℕ → List ℕ
next_file b zero after = file_in after
next_file b (suc n) after = b

-- `Ran b cs ns b'`: the calls cs, one after the other, on the list's file, b at first, answered ns, and the file was b' afterwards
pub data Ran : List ℕ → List Call → List ℕ → List ℕ → Type 0 where
  done : {b : List ℕ} → Ran b [] [] b
  then : {b : List ℕ} {c : Call} {n : ℕ} (after : List ℕ) {cs : List Call} {ns : List ℕ} {b' : List ℕ}
      → Called b c.request c.destination n after → Ran (next_file b n after) cs ns b' → Ran b (c ∷ cs) (n ∷ ns) b'

-- a list from its start: an accepted make, in the setting s, of words that are all E, and then the calls cs. Each beginning of a list is a list.
pub record Listed (d : Dimensions) (E : ℕ) (s : Setting) (cs : List Call) (ns b : List ℕ) : Type 0 where
  pub before : List ℕ
  pub after : List ℕ
  pub made : Made s d E (replicate (cells d) E) before 0 after
  pub ran : Ran (file_in after) cs ns b

-- ---- what is claimed

-- the word at p after a call with its answer, x being the word before
abbrev pub word_after : ℕ → ℕ → Request → ℕ → ℕ
word_after p x (write q y) zero = pick (eqb q p) y x
word_after p x (write q y) (suc n) = x
word_after p x (change s) n = x

-- the word of the last accepted write at p among the calls cs with the answers ns, or else x
unfoldable pub last_written : ℕ → ℕ → List Call → List ℕ → ℕ
last_written p x [] ns = x
last_written p x (c ∷ cs) [] = x
last_written p x (c ∷ cs) (n ∷ ns) = last_written p (word_after p x c.request n) cs ns

-- two files answer alike: each lookup gives the same on both for every number handed in, with "empty" the number of stored cells before the cell too
-- (document 02, S-9), and expand, into destinations of equal length and contents, the same answer and the same final contents
pub record Alike (b₁ b₂ : List ℕ) : Type 0 where
  pub cell : (p : ℕ) (a₁ a₂ : Answer) → CellFound b₁ p a₁ → CellFound b₂ p a₂ → a₁ ≡ a₂
  pub rank : (p : ℕ) (a₁ a₂ : Answer) → RankFound b₁ p a₁ → RankFound b₂ p a₂ → a₁ ≡ a₂
  pub position : (r : ℕ) (a₁ a₂ : Answer) → PositionFound b₁ r a₁ → PositionFound b₂ r a₂ → a₁ ≡ a₂
  pub expand : (dst : List ℕ) (n₁ : ℕ) (after₁ : List ℕ) (n₂ : ℕ) (after₂ : List ℕ)
      → Expanded b₁ dst n₁ after₁ → Expanded b₂ dst n₂ after₂ → (n₁ ≡ n₂) × (after₁ ≡ after₂)

-- of one list: its numbers and its file are the table's, and each cell lookup gives the word of the last accepted write there
pub record AsTable (d : Dimensions) (E : ℕ) (s : Setting) (cs : List Call) (ns b : List ℕ) : Type 0 where
  pub numbers : ns ≡ table_numbers d E (new_table d E s) (map fed cs)
  pub file : b ≡ table_file d E (table_run d E (new_table d E s) (map fed cs))
  pub cell : (p : ℕ) → p < cells d → (a : Answer) → CellFound b p a → a ≡ given (last_written p E cs ns)

-- the last accepted writes of two lists agree everywhere
abbrev pub Agree : Dimensions → ℕ → List Call → List ℕ → List Call → List ℕ → Type 0
Agree d E cs₁ ns₁ cs₂ ns₂ = (p : ℕ) → p < cells d → last_written p E cs₁ ns₁ ≡ last_written p E cs₂ ns₂

-- the setting in which a list ends
abbrev pub end_setting : Dimensions → ℕ → Setting → List Call → Setting
end_setting d E s cs = (table_run d E (new_table d E s) (map fed cs)).setting

-- the words of a list's table at its end
abbrev pub end_words : Dimensions → ℕ → Setting → List Call → List ℕ
end_words d E s cs = (table_run d E (new_table d E s) (map fed cs)).words

pub record TwoLists (d : Dimensions) (E : ℕ) (s₁ : Setting) (cs₁ : List Call) (ns₁ b₁ : List ℕ) (s₂ : Setting) (cs₂ : List Call) (ns₂ b₂ : List ℕ) : Type 0 where
  pub one : AsTable d E s₁ cs₁ ns₁ b₁
  pub two : AsTable d E s₂ cs₂ ns₂ b₂
  pub alike : Alike b₁ b₂ ↔ Agree d E cs₁ ns₁ cs₂ ns₂
  pub tables : Agree d E cs₁ ns₁ cs₂ ns₂ ↔ (end_words d E s₁ cs₁ ≡ end_words d E s₂ cs₂)
  pub bytes : (b₁ ≡ b₂) ↔ (Agree d E cs₁ ns₁ cs₂ ns₂ × (end_setting d E s₁ cs₁ ≡ end_setting d E s₂ cs₂))

-- demand 3
abbrev pub Demand3 : Type 0
Demand3 =
    (d : Dimensions) (E : ℕ) → E < 2 ^ 32
    → (s₁ : Setting) (cs₁ : List Call) (ns₁ b₁ : List ℕ) → Listed d E s₁ cs₁ ns₁ b₁
    → (s₂ : Setting) (cs₂ : List Call) (ns₂ b₂ : List ℕ) → Listed d E s₂ cs₂ ns₂ b₂
    → TwoLists d E s₁ cs₁ ns₁ b₁ s₂ cs₂ ns₂ b₂
