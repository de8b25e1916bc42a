-- An allowed setting has one of the shapes of the kinds: the case analysis by kind, once. Assumes nothing.
use Prim.Native.Nat.{ℕ, zero, suc, ◌≤◌, ◌<◌}
use mathlib.Core.Path.{◌≡◌, refl, sym, subst, subst₂}
use mathlib.Core.Bool.{true, false}
use native.Mathlib.Omega.{arith}
use lib.Dec.{eqb}
use borrow.Author.Tests.{eqb-true}
use Rattle.format.specs.Tools.{both, within}
use Rattle.format.specs.declared.Setting.{Setting}
use Rattle.format.specs.Codec.{no_codec}
use Rattle.format.specs.Kinds.{codec, codec_of, last_kind, kind_allowed, setting_allowed}
use Rattle.format.specs.Runs.{runs_kind}
use Rattle.format.specs.Positions.{positions_kind}
use Rattle.format.specs.BaseOffset.{based_kind}
use Rattle.format.specs.Jumps.{jumps_kind}
use Rattle.format.specs.PagedRuns.{pages_kind}
use Rattle.format.specs.PointedJumps.{pointed_kind}
use Rattle.laws.proofs.Tools.{both_true, within_true}

abbrev pub setting : ℕ → ℕ → ℕ → Setting
setting k w l = record { kind = k; width = w; step = l }

-- what is to be shown for each kind
pub record EachKind {ℓ} (P : Setting → Type ℓ) : Type ℓ where
  pub runs : P (setting 1 0 0)
  pub positions : P (setting 2 0 0)
  pub based : (w l : ℕ) → 1 ≤ w → w ≤ 2 → 1 ≤ l → l ≤ 255 → P (setting 3 w l)
  pub jumps : (w : ℕ) → 1 ≤ w → w ≤ 2 → P (setting 4 w 0)
  pub paged : (b : ℕ) → 2 ≤ b → b ≤ 64 → P (setting 5 0 b)
  pub pointed : (w n : ℕ) → 1 ≤ w → w ≤ 2 → 1 ≤ n → n ≤ 255 → P (setting 6 w n)

never : false ≡ true → ⊥
never e = let y : ◌≡◌ {A = ℕ} 0 1 = cc in omega arith

-- kinds 3 and 6: width 1 or 2, step 1 to 255
wide-stepped : (w l : ℕ) → both (within 1 2 w) (within 1 255 l) ≡ true → (1 ≤ w) × (w ≤ 2) × (1 ≤ l) × (l ≤ 255)
wide-stepped w l h =
    let t = both_true (within 1 2 w) (within 1 255 l) h in
    let a = within_true 1 2 w t.0 in
    let b = within_true 1 255 l t.1 in
    (a.0, a.1, b.0, b.1)

pub by_kind {ℓ} : (P : Setting → Type ℓ) → EachKind P → (s : Setting) → setting_allowed s ≡ true → P s
unfolding setting_allowed codec runs_kind positions_kind based_kind jumps_kind pages_kind pointed_kind
by_kind P each s h = go s.kind s.width s.step h
  where
    go : (k w l : ℕ) → setting_allowed (setting k w l) ≡ true → P (setting k w l)
    go zero w l h = absurd (never h)
    go (suc zero) w l h =
        let t = both_true (eqb w 0) (eqb l 0) h in
        subst₂ (λ (x y : ℕ). P (setting 1 x y)) (sym (eqb-true w 0 t.0)) (sym (eqb-true l 0 t.1)) each.runs
    go (suc (suc zero)) w l h =
        let t = both_true (eqb w 0) (eqb l 0) h in
        subst₂ (λ (x y : ℕ). P (setting 2 x y)) (sym (eqb-true w 0 t.0)) (sym (eqb-true l 0 t.1)) each.positions
    go (suc (suc (suc zero))) w l h = let a = wide-stepped w l h in each.based w l a.0 a.1 a.2 a.3
    go (suc (suc (suc (suc zero)))) w l h =
        let t = both_true (within 1 2 w) (eqb l 0) h in
        let a = within_true 1 2 w t.0 in
        subst (λ (y : ℕ). P (setting 4 w y)) (sym (eqb-true l 0 t.1)) (each.jumps w a.0 a.1)
    go (suc (suc (suc (suc (suc zero))))) w l h =
        let t = both_true (eqb w 0) (within 2 64 l) h in
        let b = within_true 2 64 l t.1 in
        subst (λ (y : ℕ). P (setting 5 y l)) (sym (eqb-true w 0 t.0)) (each.paged l b.0 b.1)
    go (suc (suc (suc (suc (suc (suc zero)))))) w l h = let a = wide-stepped w l h in each.pointed w l a.0 a.1 a.2 a.3
    go (suc (suc (suc (suc (suc (suc (suc n))))))) w l h = absurd (never h)

-- an allowed setting fits its fields
pub record SmallSetting (s : Setting) : Type 0 where
  pub kind_least : 1 ≤ s.kind
  pub kind : s.kind ≤ last_kind
  pub width : s.width < 256
  pub step : s.step < 256

pub small-setting : (s : Setting) → setting_allowed s ≡ true → SmallSetting s
small-setting =
    by_kind SmallSetting
    (record {
      runs = record { kind_least = omega arith; kind = omega arith; width = omega arith; step = omega arith };
      positions = record { kind_least = omega arith; kind = omega arith; width = omega arith; step = omega arith };
      based = λ w l a b c e. record { kind_least = omega arith; kind = omega arith; width = omega arith; step = omega arith };
      jumps = λ w a b. record { kind_least = omega arith; kind = omega arith; width = omega arith; step = omega arith };
      paged = λ b a c. record { kind_least = omega arith; kind = omega arith; width = omega arith; step = omega arith };
      pointed = λ w n a b c e. record { kind_least = omega arith; kind = omega arith; width = omega arith; step = omega arith };
    })

-- its kind is one of the kinds
pub kind_allowed_lem : (s : Setting) → setting_allowed s ≡ true → kind_allowed s ≡ true
unfolding kind_allowed
kind_allowed_lem =
    by_kind (λ s. kind_allowed s ≡ true)
    (record { runs = refl; positions = refl; based = λ w l _ _ _ _. refl; jumps = λ w _ _. refl; paged = λ b _ _. refl; pointed = λ w n _ _ _ _. refl })

-- none of the kinds
pub no_kind : (k w l : ℕ) → (k ≡ 1 → ⊥) → (k ≡ 2 → ⊥) → (k ≡ 3 → ⊥) → (k ≡ 4 → ⊥) → (k ≡ 5 → ⊥) → (k ≡ 6 → ⊥) → codec_of k w l ≡ no_codec
no_kind zero w l h1 h2 h3 h4 h5 h6 = refl
no_kind (suc zero) w l h1 h2 h3 h4 h5 h6 = absurd (h1 refl)
no_kind (suc (suc zero)) w l h1 h2 h3 h4 h5 h6 = absurd (h2 refl)
no_kind (suc (suc (suc zero))) w l h1 h2 h3 h4 h5 h6 = absurd (h3 refl)
no_kind (suc (suc (suc (suc zero)))) w l h1 h2 h3 h4 h5 h6 = absurd (h4 refl)
no_kind (suc (suc (suc (suc (suc zero))))) w l h1 h2 h3 h4 h5 h6 = absurd (h5 refl)
no_kind (suc (suc (suc (suc (suc (suc zero)))))) w l h1 h2 h3 h4 h5 h6 = absurd (h6 refl)
no_kind (suc (suc (suc (suc (suc (suc (suc k))))))) w l h1 h2 h3 h4 h5 h6 = refl
