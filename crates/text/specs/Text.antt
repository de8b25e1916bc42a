-- Text put into a buffer. Assumes nothing.
use Rattle.std.specs.Prelude.{ℕ, ◌+◌, ◌≤◌, ◌≡◌, List, ◌++◌, length, drop, leb}
use Rattle.format.specs.Tools.{pick}
use Rattle.stores.specs.Put.{put}

-- a buffer has room for the text from index at on
abbrev pub Room : List ℕ → List ℕ → ℕ → Type 0
Room text buffer at = at + length text ≤ length buffer

-- the text stands from index at on in a buffer that held `before`; `next` is the place after it
pub record TextPut (text before : List ℕ) (at next : ℕ) (after : List ℕ) : Type 0 where
  pub place : next ≡ at + length text
  pub bytes : after ≡ put before at text

-- A text offered to a buffer that held `before`: the answer is the text's length. Where it fits it is in the buffer's first bytes; where it does not,
-- the buffer is unchanged.
pub record Offered (text before : List ℕ) (answer : ℕ) (after : List ℕ) : Type 0 where
  pub size : answer ≡ length text
  pub left : after ≡ pick (leb (length text) (length before)) (text ++ drop (length text) before) before
