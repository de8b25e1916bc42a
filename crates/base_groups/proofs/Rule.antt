-- What an allowed setting says of width and step. Assumes nothing.
use Rattle.std.proofs.Common.{◌≡◌, ℕ, ◌+◌, ◌/◌, ◌%◌, ◌≤◌, min, true, false, sym, le-leb, arith}
use Rattle.std.proofs.lemmas.Grind.{common_steps}
use Rattle.format.specs.Tools.{within, up_to}
use Rattle.format.specs.BaseOffset.{based_kind}
use Rattle.laws.proofs.Tools.{cases, both_true, within_true}

pub record Allowed (w l : ℕ) : Type 0 where
  pub width-least : 1 ≤ w
  pub width-most : w ≤ 2
  pub step-least : 1 ≤ l
  pub step-most : l ≤ 255

module _ (w l : ℕ) where
  pub allows : (based_kind w l).allowed ≡ true → Allowed w l
  unfolding based_kind
  allows h =
      let t = both_true (within 1 2 w) (within 1 255 l) h in
      let a = within_true 1 2 w t.0 in
      let s = within_true 1 255 l t.1 in
      record { width-least = a.0; width-most = a.1; step-least = s.0; step-most = s.1 }

  pub is_allowed : Allowed w l → true ≡ (based_kind w l).allowed
  unfolding based_kind
  is_allowed a =
      sym (rw (le-leb 1 w a.width-least, le-leb w 2 a.width-most, le-leb 1 l a.step-least, le-leb l 255 a.step-most))

  pub not-allowed : (Allowed w l → ⊥) → false ≡ (based_kind w l).allowed
  not-allowed n = cases (based_kind w l).allowed (λ t. absurd (n (allows t))) (λ t. sym t)

-- a quotient rounded up, as the library rounds it
pub rounded : (n l : ℕ) → 1 ≤ l → n / l + min 1 (n % l) ≡ up_to n l
rounded n l h = grind (arith, common_steps)
