-- Numbers, and pairs of them, that do not follow on the one before. Assumes nothing.
use Rattle.std.specs.Prelude.{ℕ, zero, suc, ◌+◌, ◌-◌, Bool, true, false, List, nat_lt}
use Rattle.format.specs.Tools.{both}
use Rattle.wire.specs.declared.Pair.{Pair}
use Rattle.wire.specs.Wire.{field_pair}

-- 0 where a test of a rise holds, and 1 where it fails
unfoldable pub fallen : Bool → ℕ
fallen true = 0
fallen false = 1

-- a run's pair follows on the one before: it has more cells, more empty cells and more stored cells
unfoldable pub follows : Pair → Pair → Bool
follows x y = both (nat_lt x.first y.first) (both (nat_lt x.second y.second) (nat_lt (y.second - x.second) (y.first - x.first)))

-- of the n pairs behind the one at an offset, so many do not follow on the one before
unfoldable pub pair_falls : ℕ → ℕ → List ℕ → ℕ
pair_falls zero at b = 0
pair_falls (suc n) at b = fallen (follows (field_pair at b) (field_pair (at + 8) b)) + pair_falls n (at + 8) b
