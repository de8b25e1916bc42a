-- Laws of loads. Assumes nothing.
use Prim.Native.Nat.{ℕ, zero, suc, ◌+◌, ◌*◌, ◌≤◌, ◌<◌}
use mathlib.Core.Path.{◌≡◌, refl, sym, ◌∙◌}
use mathlib.Core.List.{List, [], ◌∷◌}
use native.Mathlib.Numerals.{add-one}
use native.Mathlib.Omega.{arith}
use lib.ListN.{length, get_or}
use lib.Seq.{take-nil}
use lib.Dec.{leb}
use borrow.Author.Tests.{le-leb, lt-leb}
use Rattle.format.specs.Bytes.{number, field}
use Rattle.wire.specs.Wire.{whole, entry_size, field_pair, pair_at}

-- ---- a field by its bytes

pub field-zero : (at : ℕ) (b : List ℕ) → field 0 at b ≡ 0
unfolding field number
field-zero at b = refl

pub field_cons : (w at : ℕ) (b : List ℕ) → field (suc w) at b ≡ get_or b at 0 + 256 * field w (suc at) b
unfolding field number
field_cons w zero [] = rw (take-nil w)
field_cons w (suc at) [] = rw (take-nil w)
field_cons w zero (x ∷ b) = refl
field_cons w (suc at) (x ∷ b) = field_cons w at b

pub field-1 : (at : ℕ) (b : List ℕ) → field 1 at b ≡ get_or b at 0
field-1 at b = field_cons 0 at b ∙ simp field-zero (omega arith)

pub field-2 : (at : ℕ) (b : List ℕ) → field 2 at b ≡ get_or b at 0 + 256 * get_or b (at + 1) 0
field-2 at b = field_cons 1 at b ∙ simp (field-1, add-one)

pub field-4 : (at : ℕ) (b : List ℕ)
    → field 4 at b ≡ get_or b at 0 + 256 * get_or b (at + 1) 0 + 65536 * get_or b (at + 2) 0 + 16777216 * get_or b (at + 3) 0
field-4 at b =
    let e1 : field 4 at b ≡ get_or b at 0 + 256 * field 3 (suc at) b = field_cons 3 at b in
    let e2 : field 3 (suc at) b ≡ get_or b (suc at) 0 + 256 * field 2 (suc (suc at)) b = field_cons 2 (suc at) b in
    let e3 : field 2 (suc (suc at)) b ≡ get_or b (suc (suc at)) 0 + 256 * get_or b (suc (suc at) + 1) 0 = field-2 (suc (suc at)) b in
    let n1 : at + 1 ≡ suc at = omega arith in
    let n2 : at + 2 ≡ suc (suc at) = omega arith in
    let n3 : at + 3 ≡ suc (suc at) + 1 = omega arith in
    rw (n1, n2, n3) (omega arith)

-- ---- whole or not

pub whole-there : (w at : ℕ) (b : List ℕ) → at + w ≤ length b → whole w at b ≡ field w at b
unfolding whole
whole-there w at b h = rw (le-leb (at + w) (length b) h)

pub whole-past : (w at : ℕ) (b : List ℕ) → length b < at + w → whole w at b ≡ 0
unfolding whole
whole-past w at b h = rw (lt-leb (at + w) (length b) h)

pub whole-none : (at : ℕ) (b : List ℕ) → whole 0 at b ≡ 0
unfolding whole
whole-none at b = go (leb (at + 0) (length b))
  where
    go : (t : mathlib.Core.Bool.Bool) → Rattle.format.specs.Tools.pick t (field 0 at b) 0 ≡ 0
    go mathlib.Core.Bool.true = field-zero at b
    go mathlib.Core.Bool.false = refl

-- ---- entries of another width than 1 and 2

pub size_none : (w : ℕ) → (w ≡ 1 → ⊥) → (w ≡ 2 → ⊥) → 0 ≡ entry_size w
size_none zero h k = refl
size_none (suc zero) h k = absurd (h refl)
size_none (suc (suc zero)) h k = absurd (k refl)
size_none (suc (suc (suc n))) h k = refl

pub entry_none : (w at : ℕ) (b : List ℕ) → (w ≡ 1 → ⊥) → (w ≡ 2 → ⊥) → 0 ≡ whole (entry_size w) at b
entry_none w at b h k = rw (← size_none w h k) (sym (whole-none at b))

pub entry_field-none : (w at : ℕ) (b : List ℕ) → (w ≡ 1 → ⊥) → (w ≡ 2 → ⊥) → 0 ≡ field (entry_size w) at b
entry_field-none w at b h k = rw (← size_none w h k) (sym (field-zero at b))

-- the widths 1 and 2
pub entry_of_lem : (w : ℕ) → 1 ≤ w → w ≤ 2 → entry_size w ≡ w
entry_of_lem zero h k = absurd (omega arith)
entry_of_lem (suc zero) h k = refl
entry_of_lem (suc (suc zero)) h k = refl
entry_of_lem (suc (suc (suc n))) h k = absurd (omega arith)

pub other_width : (w : ℕ) → 1 ≤ w → w ≤ 2 → (w ≡ 1 → ⊥) → w ≡ 2
other_width zero h k n = absurd (omega arith)
other_width (suc zero) h k n = absurd (n refl)
other_width (suc (suc zero)) h k n = refl
other_width (suc (suc (suc w))) h k n = absurd (omega arith)

-- ---- pairs

pub pair-there : (at : ℕ) (b : List ℕ) → at + 8 ≤ length b → pair_at at b ≡ field_pair at b
unfolding pair_at
pair-there at b h = rw (le-leb (at + 8) (length b) h)

pub pair-past : (at : ℕ) (b : List ℕ) → length b < at + 8 → pair_at at b ≡ record { first = 0; second = 0 }
unfolding pair_at
pair-past at b h = rw (lt-leb (at + 8) (length b) h)
