-- A pass goes through exactly when the jumps and differences are those of rising positions. Assumes nothing.
use Prim.Native.Nat.{ℕ, zero, suc, ◌+◌, ◌-◌, ◌^◌, ◌<◌}
use mathlib.Core.Path.{◌≡◌, refl, ◌∙◌}
use mathlib.Core.Bool.{true, false}
use mathlib.Core.List.{List, [], ◌∷◌}
use native.Mathlib.Nat.{one-le-pow, zero-lt-suc}
use native.Mathlib.Omega.{arith}
use lib.Dec.{leb, eqb}
use borrow.Author.Tests.{leb-true, leb-false, ltb-true, eqb-true, le-leb, lt-ltb}
use Rattle.format.specs.Tools.{Below}
use Rattle.format.specs.Jumps.{difference, differences_from, differences, jumps_of, jumps, jumped_from, jumped_positions}
use Rattle.laws.proofs.Tools.{cases, both_true}
use Rattle.laws.proofs.Stored.{Rising}
use Rattle.laws.proofs.Entries.{fitting, jump_is_zero}
use Rattle.jump_pass.specs.Pass.{passes, passes_all}

-- ---- what goes through is what the positions give

-- the positions after `before`, by the jumps js and the differences ds, give these very jumps and differences
pub record Follow (w bound before : ℕ) (js ds : List ℕ) : Type 0 where
  pub below : before < bound
  pub rising : Rising (suc before) bound (jumped_from before js ds)
  pub differences : differences_from w before (jumped_from before js ds) ≡ ds
  pub jumps : jumps_of ds (jumped_from before js ds) ≡ js

pub never : false ≡ true → ⊥
never e = let y : ◌≡◌ {A = ℕ} 0 1 = cc in omega arith

pub follow : (w bound before : ℕ) (js ds : List ℕ) → Below (256 ^ w) ds → passes w bound (before + 256 ^ w) js ds ≡ true → Follow w bound before js ds
unfolding passes jumped_from differences_from jumps_of
follow w bound before [] [] s h =
    let t = ltb-true (before + 256 ^ w) (bound + 256 ^ w) h in
    record { below = omega arith; rising = tt; differences = refl; jumps = refl }
follow w bound before (j ∷ js) [] s h = absurd (never h)
follow w bound before js (suc d ∷ ds) s h =
    let e : before + 256 ^ w + suc d ≡ before + suc d + 256 ^ w = omega arith in
    let f = follow w bound (before + suc d) js ds s.1 (rw e at h) in
    let g = f.below in
    let s0 = s.0 in
    let n : before + suc d - before ≡ suc d = omega arith in
    let m : difference w before (before + suc d) ≡ suc d = fitting w before (before + suc d) (omega arith) ∙ n in
    record {
      below = omega arith;
      rising = (omega arith, g, f.rising);
      differences = rw (m, f.differences);
      jumps = f.jumps;
    }
follow w bound before [] (zero ∷ ds) s h = absurd (never h)
follow w bound before (j ∷ js) (zero ∷ ds) s h =
    let t = both_true (leb (before + 256 ^ w) j) _ h in
    let k = leb-true (before + 256 ^ w) j t.0 in
    let f = follow w bound j js ds s.1 t.1 in
    let g = f.below in
    let s0 = s.0 in
    let m : difference w before j ≡ 0 = jump_is_zero w before j (omega arith) in
    record {
      below = omega arith;
      rising = (omega arith, g, f.rising);
      differences = rw (m, f.differences);
      jumps = rw f.jumps;
    }

-- the same of all ranks
pub record Made (w bound : ℕ) (js ds : List ℕ) : Type 0 where
  pub rising : Rising 0 bound (jumped_positions js ds)
  pub differences : differences w (jumped_positions js ds) ≡ ds
  pub jumps : jumps w (jumped_positions js ds) ≡ js

pub made : (w bound : ℕ) (js ds : List ℕ) → Below (256 ^ w) ds → passes_all w bound js ds ≡ true → Made w bound js ds
unfolding passes_all passes jumped_positions jumped_from differences jumps jumps_of
made w bound [] [] s h = record { rising = tt; differences = refl; jumps = refl }
made w bound (j ∷ js) [] s h = absurd (never (both_true (eqb 0 0) _ h).1)
made w bound js (suc d ∷ ds) s h = absurd (let z = eqb-true (suc d) 0 (both_true (eqb (suc d) 0) _ h).0 in omega arith)
made w bound [] (zero ∷ ds) s h = absurd (never (both_true (eqb 0 0) _ h).1)
made w bound (j ∷ js) (zero ∷ ds) s h =
    let t = both_true (leb 0 j) _ (both_true (eqb 0 0) _ h).1 in
    let f = follow w bound j js ds s.1 t.1 in
    record { rising = (omega arith, f.below, f.rising); differences = rw f.differences; jumps = rw (f.differences, f.jumps) }

-- ---- and what rising positions give goes through

through : (w bound before : ℕ) (ls : List ℕ) → before < bound → Rising (suc before) bound ls
    → passes w bound (before + 256 ^ w) (jumps_of (differences_from w before ls) ls) (differences_from w before ls) ≡ true
unfolding passes differences_from jumps_of
through w bound before [] h r = lt-ltb (before + 256 ^ w) (bound + 256 ^ w) (omega arith)
through w bound before (l ∷ ls) h r =
    let r0 = r.0 in
    cases (leb (l - before) (256 ^ w - 1))
    (λ e.
    let d : difference w before l ≡ suc (l - before - 1) = fitting w before l (leb-true (l - before) (256 ^ w - 1) e) ∙ omega arith in
    let q : before + 256 ^ w + suc (l - before - 1) ≡ l + 256 ^ w = omega arith in
    rw (d, q) (through w bound l ls r.1 r.2))
    (λ e.
    let k = leb-false (l - before) (256 ^ w - 1) e in
    rw (jump_is_zero w before l k, le-leb (before + 256 ^ w) l (omega arith)) (through w bound l ls r.1 r.2))

pub through-all : (w bound : ℕ) (ls : List ℕ) → Rising 0 bound ls → passes_all w bound (jumps w ls) (differences w ls) ≡ true
unfolding passes_all passes differences jumps jumps_of
through-all w bound [] r = lt-ltb 0 (bound + 256 ^ w) (omega (arith, one-le-pow w 256 (zero-lt-suc 255)))
through-all w bound (l ∷ ls) r = rw (le-leb 0 l (omega arith)) (through w bound l ls r.1 r.2)
