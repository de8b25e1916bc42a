-- The stored cells of a chunk, put out. Assumes nothing.
use Rattle.std.specs.Prelude.{ℕ, ◌+◌, ◌*◌, ◌≤◌, List, length}
use Rattle.format.specs.declared.Setting.{Setting}
use Rattle.format.specs.Bytes.{bytes_of}
use Rattle.stores.specs.Put.{put}
use Rattle.parts.specs.declared.Encoder.{Encoder}
use Rattle.parts.specs.Batch.{put_all_by, Along, RoomAll}
use Rattle.kinds.specs.Coding.{coder}

-- d with the bytes that the positions ls add to each part, and with the words vs at v
unfoldable pub put_chunk : Setting → List ℕ → Encoder → List ℕ → ℕ → List ℕ → List ℕ
put_chunk s d e ls v vs = put (put_all_by (coder s) d e ls) v (bytes_of 4 vs)

-- the positions can be taken next, and their bytes, and their words at v, have room in n elements
pub record ChunkRoom (s : Setting) (e : Encoder) (ls : List ℕ) (v n : ℕ) : Type 0 where
  pub along : Along e ls
  pub room : RoomAll (coder s) e ls n
  pub words : v + 4 * length ls ≤ n
