-- Pairs of a file copied with two shifts. Assumes nothing.
use Rattle.std.specs.Prelude.{ℕ, zero, suc, ◌+◌, ◌*◌, List}
use Rattle.wire.specs.Wire.{field_pair, add32}
use Rattle.stores.specs.Put.{put, pair}

-- n pairs of b from a place on, their numbers raised by the shifts x and y, put into d from `at` on
unfoldable pub copied : List ℕ → ℕ → ℕ → ℕ → ℕ → ℕ → List ℕ → List ℕ
copied b from x y at zero d = d
copied b from x y at (suc n) d =
    put (copied b from x y at n d) (at + 8 * n)
    (pair (add32 (field_pair (from + 8 * n) b).first x) (add32 (field_pair (from + 8 * n) b).second y))
