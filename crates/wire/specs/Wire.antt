-- Numbers as the code loads and adds them. Assumes nothing.
use Rattle.std.specs.Prelude.{ℕ, zero, suc, ◌+◌, ◌%◌, ◌^◌, List, length, leb}
use Rattle.format.specs.Tools.{pick}
use Rattle.format.specs.Bytes.{field}
use Rattle.wire.specs.declared.Pair.{Pair}

-- the w-byte number at an offset, or 0 where its bytes are not all there
unfoldable pub whole : ℕ → ℕ → List ℕ → ℕ
whole w at b = pick (leb (at + w) (length b)) (field w at b) 0

-- the bytes of an entry of the widths 1 and 2; none for any other
abbrev pub entry_size : ℕ → ℕ
entry_size zero = 0
entry_size (suc zero) = 1
entry_size (suc (suc zero)) = 2
entry_size (suc (suc (suc n))) = 0

-- the pair of 4-byte numbers at an offset
unfoldable pub field_pair : ℕ → List ℕ → Pair
field_pair at b = record { first = field 4 at b; second = field 4 (at + 4) b }

-- the same; zeros where its bytes are not all there
unfoldable pub pair_at : ℕ → List ℕ → Pair
pair_at at b = pick (leb (at + 8) (length b)) (field_pair at b) (record { first = 0; second = 0 })

-- a sum of 32 bits, which wraps
unfoldable pub add32 : ℕ → ℕ → ℕ
add32 a b = (a + b) % 2 ^ 32
