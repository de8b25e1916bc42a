-- A walk along the ranks of a file into an encoder, by any step f and any coder k. Assumes nothing.
use Rattle.std.specs.Prelude.{◌≡◌, ℕ, suc, ◌+◌, ◌≤◌, List}
use Rattle.parts.specs.declared.Cursor.{Cursor}
use Rattle.parts.specs.declared.Encoder.{Encoder}
use Rattle.parts.specs.declared.walk.Walk.{Walk}
use Rattle.parts.specs.Cursor.{before, walked_as, stepped_as}
use Rattle.parts.specs.Encoder.{Coder, taken_all_by}
use Rattle.parts.specs.Batch.{put_all_by}

-- after n ranks from c into e
unfoldable pub carried : (Cursor → Cursor) → Coder → Cursor → Encoder → ℕ → Walk
carried f k c e n = record { c = stepped_as f c n; e = taken_all_by k e (walked_as f c n) }

-- n ranks from c into e lead to w, and the bytes that they add are put into d, which becomes out
pub record PutAs (f : Cursor → Cursor) (k : Coder) (c : Cursor) (e : Encoder) (n : ℕ) (d : List ℕ) (w : Walk) (out : List ℕ) : Type 0 where
  pub walk : w ≡ carried f k c e n
  pub bytes : out ≡ put_all_by k d e (walked_as f c n)

-- the cursor c stands at a rank, reached by the step f from before rank 0, and n ranks from there on are below `words`
pub record Reached (f : Cursor → Cursor) (words : ℕ) (c : Cursor) (n : ℕ) : Type 0 where
  pub rank : ℕ
  pub steps : c ≡ stepped_as f before (suc rank)
  pub most : rank + n ≤ words
