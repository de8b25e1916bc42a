-- Pairs copied one after the other, and a number raised by a shift. Assumes nothing.
use Rattle.std.proofs.Common.{◌≡◌, ℕ, ◌+◌, ◌-◌, ◌*◌, ◌%◌, ◌^◌, ◌<◌, ◌≤◌, List, refl, ◌∙◌, add-one, arith}
use Rattle.wire.specs.declared.Pair.{Pair}
use Rattle.wire.specs.Wire.{field_pair, add32}
use Rattle.stores.specs.Put.{put, pair}
use Rattle.rises.specs.Copied.{copied}

module _ (b : List ℕ) (from x y at : ℕ) (d : List ℕ) where
  pub copied_none : copied b from x y at 0 d ≡ d
  unfolding copied
  copied_none = refl

  -- one more, as the code takes it
  pub copied_on : (i : ℕ) (o o' : List ℕ) (z : Pair) (f g : ℕ) → o ≡ copied b from x y at i d → z ≡ field_pair (from + 8 * i) b → f ≡ (z.first + x) % 2 ^ 32
      → g ≡ (z.second + y) % 2 ^ 32 → o' ≡ put o (at + 8 * i) (pair f g) → o' ≡ copied b from x y at (i + 1) d
  unfolding copied add32
  copied_on i o o' z f g e h j k l = l ∙ rw (add-one i, e, j, k, h)

-- y raised by s, where s is o less r
pub shifted : (y s r o : ℕ) → (s + r) % 2 ^ 32 ≡ o → s < 2 ^ 32 → r < 2 ^ 32 → y + o < 2 ^ 32 → r ≤ y + o → add32 y s ≡ y + o - r
unfolding add32
shifted y s r o e a b c h = omega arith
