-- Entries of 1 or 2 bytes. Assumes nothing.
use Rattle.std.proofs.Common.{◌≡◌, ℕ, zero, suc, ◌-◌, ◌*◌, ◌^◌, ◌<◌, ◌≤◌, refl, mul-le-mul, arith}
use Rattle.wire.specs.Wire.{entry_size}

-- an offset has 1 or 2 bytes
pub other_size : (w : ℕ) → 1 ≤ entry_size w → (w ≡ 1 → ⊥) → w ≡ 2
other_size zero h n = absurd (omega arith)
other_size (suc zero) h n = absurd (n refl)
other_size (suc (suc zero)) h n = refl
other_size (suc (suc (suc w))) h n = absurd (omega arith)

-- entries of at most 2 bytes, as many as a 32-bit count says
pub entries_fit : (w n : ℕ) → w ≤ 2 → n < 2 ^ 32 → w * n ≤ 2 * (2 ^ 32 - 1)
entries_fit w n h k = let m : n ≤ 2 ^ 32 - 1 = omega arith in mul-le-mul h m
