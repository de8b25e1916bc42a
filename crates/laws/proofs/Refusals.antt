-- Refusals and their numbers. Assumes nothing.
use Prim.Native.Nat.{ℕ, ◌≤◌}
use mathlib.Core.Path.{◌≡◌, refl, sym, ap, ◌∙◌}
use mathlib.Core.Bool.{Bool, true, false}
use native.Mathlib.Omega.{arith}
use Rattle.std.specs.Prelude.{Result, Ok, Err, IsErrAnd, is_err}
use Rattle.std.proofs.lemmas.Result.{err_from_is_err_and}
use Rattle.format.specs.declared.Refusal.{Refusal}
use Rattle.format.specs.declared.Refusal.TheVariants as rf
use Rattle.format.specs.Signals.{signal_number}
use Rattle.format.specs.Answers.{signal_of}

-- no refusal has the number 0
pub signal-least : (r : Refusal) → 1 ≤ signal_number r
signal-least rf.Short = omega arith
signal-least rf.Kind = omega arith
signal-least rf.Setting = omega arith
signal-least rf.Extent = omega arith
signal-least rf.Counts = omega arith
signal-least rf.Body = omega arith
signal-least rf.Picture = omega arith
signal-least rf.Beyond = omega arith
signal-least rf.Unfit = omega arith
signal-least rf.Small = omega arith
signal-least rf.Other = omega arith

-- the number of a call, by its two cases
module _ {X : Type 0} (r : Result X Refusal) (n : ℕ) (is : signal_of r ≡ n) where
  pub refused_at : (d : Refusal) → r ≡ Err d → (signal_number d ≡ n) × (n ≡ 0 → ⊥)
  refused_at d e =
      let s : signal_number d ≡ n = sym (ap signal_of e) ∙ is in
      let l = signal-least d in
      (s, λ z. omega arith)

  pub accepted_at : (x : X) → r ≡ Ok x → n ≡ 0
  accepted_at x e = sym is ∙ ap signal_of e

-- the exit of a `?`: the call's refusal is handed on under another type
module _ {X Y : Type 0} (r : Result X Refusal) (d : Refusal) (is : r ≡ Err d) (q : Result Y Refusal) (by : IsErrAnd q (λ e. e ≡ d)) where
  pub handed_on : signal_of q ≡ signal_of r
  handed_on = let p = err_from_is_err_and q by in rw (p.1, p.2, is)

  pub handed_least : signal_of q ≡ 0 → ⊥
  handed_least z = let p = err_from_is_err_and q by in let l = signal-least p.0 in let s : signal_number p.0 ≡ 0 = rw p.1 at z in omega arith

-- ---- refused or not, by the other ways to ask

module _ {X : Type 0} where
  pub no_ok : (r : Result X Refusal) → ((x : X) → r ≡ Ok x → ⊥) → signal_of r ≡ 0 → ⊥
  no_ok (Ok x) h z = h x refl
  no_ok (Err d) h z = let l = signal-least d in omega arith

  pub err_refused : (r : Result X Refusal) (t : Bool) → t ≡ is_err r → t ≡ true → signal_of r ≡ 0 → ⊥
  err_refused (Ok x) t e h z = cc
  err_refused (Err d) t e h z = let l = signal-least d in omega arith

  pub err_accepted : (r : Result X Refusal) (t : Bool) → t ≡ is_err r → t ≡ false → signal_of r ≡ 0
  err_accepted (Ok x) t e h = refl
  err_accepted (Err d) t e h = cc
