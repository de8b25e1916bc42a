-- The bytes of each part, where a test of the counts says that they are the kind's. Assumes nothing.
use Prim.Native.Nat.{◌<◌, ◌^◌}
use mathlib.Core.Path.{◌≡◌, sym}
use mathlib.Core.Bool.{Bool, true, false}
use Rattle.std.specs.Bool.{then_some}
use Rattle.format.specs.declared.View.{View}
use Rattle.format.specs.Codec.{Codec}
use Rattle.parts.specs.declared.PartBytes.{PartBytes}
use Rattle.parts.specs.Holds.{first_bytes, second_bytes, Sized}

pub sized-where : (k : Codec) (v : View) (t : Bool) (p : PartBytes) → t ≡ k.counts v.cells v.words v.firsts v.seconds
    → p.first ≡ first_bytes k v → p.second ≡ second_bytes k v → p.first < 2 ^ 40 → p.second < 2 ^ 40 → Sized k v (then_some t p)
sized-where k v true p e f s m n = record { right = sym e; first = f; second = s; first-most = m; second-most = n }
sized-where k v false p e f s m n = sym e
