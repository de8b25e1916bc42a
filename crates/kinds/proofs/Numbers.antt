-- The number of a setting by the tests that the code makes. Assumes nothing.
use Prim.Native.Nat.{ℕ, zero, suc, ◌≤◌, ◌<◌}
use mathlib.Core.Path.{◌≡◌, refl, ap, ◌∙◌}
use mathlib.Core.Logic.{◌⊎◌, inl, inr, ⊎_elim}
use mathlib.Core.Bool.{true, false}
use native.Mathlib.Omega.{arith}
use borrow.Author.Tests.{le-leb, lt-leb}
use Rattle.format.specs.declared.Setting.{Setting}
use Rattle.format.specs.Signals.{KIND, SETTING}
use Rattle.format.specs.Kinds.{codec, codec_of, last_kind, kind_allowed, setting_allowed}
use Rattle.format.specs.Calls.{setting_number}
use Rattle.laws.proofs.Tools.{both_false}
use Rattle.kinds.specs.declared.kind.Kind.{Kind}
use Rattle.kinds.specs.declared.kind.Kind.TheVariants as kind
use Rattle.kinds.specs.Kind.{kind_number, no_kind}

module _ (s : Setting) where
  pub number-low : s.kind < 1 → KIND ≡ setting_number s 0
  unfolding setting_number kind_allowed
  number-low h = rw (lt-leb 1 s.kind h)

  pub number-high : last_kind < s.kind → KIND ≡ setting_number s 0
  unfolding setting_number kind_allowed
  number-high h = rw (lt-leb s.kind last_kind h, both_false)

-- what no kind has is below the least or above the most
outside : (n : ℕ) → no_kind n → (n < 1) ⊎ (last_kind < n)
outside zero f = inl (omega arith)
outside (suc zero) f = absurd (f kind.Runs refl)
outside (suc (suc zero)) f = absurd (f kind.Positions refl)
outside (suc (suc (suc zero))) f = absurd (f kind.BaseOffset refl)
outside (suc (suc (suc (suc zero)))) f = absurd (f kind.Jumps refl)
outside (suc (suc (suc (suc (suc zero))))) f = absurd (f kind.PagedRuns refl)
outside (suc (suc (suc (suc (suc (suc zero)))))) f = absurd (f kind.PointedJumps refl)
outside (suc (suc (suc (suc (suc (suc (suc n))))))) f = inr (omega arith)

pub number-none : (s : Setting) → no_kind s.kind → KIND ≡ setting_number s 0
number-none s f = ⊎_elim (number-low s) (number-high s) (outside s.kind f)

within : (k : Kind) → (1 ≤ kind_number k) × (kind_number k ≤ last_kind)
within kind.Runs = (omega arith, omega arith)
within kind.Positions = (omega arith, omega arith)
within kind.BaseOffset = (omega arith, omega arith)
within kind.Jumps = (omega arith, omega arith)
within kind.PagedRuns = (omega arith, omega arith)
within kind.PointedJumps = (omega arith, omega arith)

module _ (s : Setting) (k : Kind) (e : s.kind ≡ kind_number k) where
  low : 1 ≤ s.kind
  low = rw e (within k).0

  high : s.kind ≤ last_kind
  high = rw e (within k).1

  its-allowed : (codec_of s.kind s.width s.step).allowed ≡ (codec_of (kind_number k) s.width s.step).allowed
  its-allowed = ap (λ (n : ℕ). (codec_of n s.width s.step).allowed) e

  pub number-right : (codec_of (kind_number k) s.width s.step).allowed ≡ true → 0 ≡ setting_number s 0
  unfolding setting_number kind_allowed setting_allowed codec
  number-right a = rw (le-leb 1 s.kind low, le-leb s.kind last_kind high, its-allowed ∙ a)

  pub number_wrong : (codec_of (kind_number k) s.width s.step).allowed ≡ false → SETTING ≡ setting_number s 0
  unfolding setting_number kind_allowed setting_allowed codec
  number_wrong a = rw (le-leb 1 s.kind low, le-leb s.kind last_kind high, its-allowed ∙ a)
