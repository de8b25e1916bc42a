-- No kind has the number: nothing is allowed, and no parts hold anything. Assumes nothing.
use Prim.Native.Nat.{ℕ}
use mathlib.Core.Path.{◌≡◌}
use mathlib.Core.Bool.{true, false}
use mathlib.Core.List.{List}
use native.Mathlib.Omega.{arith}
use Rattle.format.specs.declared.Setting.{Setting}
use Rattle.format.specs.declared.View.{View}
use Rattle.format.specs.Kinds.{codec, codec_of, setting_allowed}
use Rattle.laws.proofs.Settings as settings
use Rattle.parts.specs.Found.{FoundIn, PositionIn}
use Rattle.parts.specs.Holds.{Holds, kind_of}
use Rattle.kinds.specs.declared.kind.Kind.TheVariants as kind
use Rattle.kinds.specs.Kind.{no_kind}

pub never : false ≡ true → ⊥
never e = let y : ◌≡◌ {A = ℕ} 0 1 = cc in omega arith

pub no_codec_lem : (k w l : ℕ) → no_kind k → (codec_of k w l).allowed ≡ false
no_codec_lem k w l n =
    rw (settings.no_kind k w l (n kind.Runs) (n kind.Positions) (n kind.BaseOffset) (n kind.Jumps) (n kind.PagedRuns) (n kind.PointedJumps))

pub not-allowed : (k w l : ℕ) → (codec_of k w l).allowed ≡ true → no_kind k → ⊥
not-allowed k w l a n = never (rw (no_codec_lem k w l n) at a)

pub no_setting : (s : Setting) → setting_allowed s ≡ true → no_kind s.kind → ⊥
unfolding setting_allowed codec
no_setting s a = not-allowed s.kind s.width s.step a

nothing_held : (b : List ℕ) (v : View) (ls : List ℕ) → Holds (kind_of v) b v ls → no_kind v.kind → ⊥
nothing_held b v ls h = not-allowed v.kind v.width v.step h.counted.allowed

pub none_found : (b : List ℕ) (v : View) (p : ℕ) → no_kind v.kind → FoundIn (kind_of v) b v p (record { below = 0; here = false })
none_found b v p n = record { right = λ ls h. absurd (nothing_held b v ls h n); free = λ t. absurd (never t) }

pub none-placed : (b : List ℕ) (v : View) (p q : ℕ) → no_kind v.kind → PositionIn (kind_of v) b v p q
none-placed b v p q n = record { right = λ ls h k. absurd (nothing_held b v ls h n) }
