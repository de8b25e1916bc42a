-- A walk to the first position from p on: what is left of it gives the whole. Assumes nothing.
use Rattle.std.proofs.Common.{◌≡◌, ℕ, zero, suc, ◌+◌, ◌-◌, ◌<◌, ◌≤◌, sym, refl, ap, ◌∙◌, arith, le-ltb, lt-ltb}
use Rattle.laws.proofs.Tools.{both_false}
use Rattle.parts.specs.declared.Cursor.{Cursor}
use Rattle.parts.specs.Walks.{sought}

module _ (f : Cursor → Cursor) (n p : ℕ) where
  -- past the last rank
  pub sought-end : (c : Cursor) → n ≤ c.rank → c ≡ sought f n p (n - c.rank) c
  unfolding sought
  sought-end c h = let e : n - c.rank ≡ 0 = omega arith in rw e

  -- at p or after it
  pub sought-there : (k : ℕ) (c : Cursor) → p ≤ c.at → c ≡ sought f n p k c
  unfolding sought
  sought-there zero c h = refl
  sought-there (suc k) c h = rw (le-ltb c.at p h, both_false)

  pub sought-step : (k : ℕ) (c : Cursor) → c.rank < n → c.at < p → sought f n p (suc k) c ≡ sought f n p k (f c)
  unfolding sought
  sought-step k c h l = rw (lt-ltb c.rank n h, lt-ltb c.at p l)

  -- one step further
  pub sought-next : (c d : Cursor) → c.rank < n → c.at < p → d ≡ f c → d.rank ≡ c.rank + 1
      → sought f n p (n - d.rank) d ≡ sought f n p (n - c.rank) c
  sought-next c d h l e r =
      let m : n - c.rank ≡ suc (n - d.rank) = omega arith in
      ap (sought f n p (n - d.rank)) e ∙ sym (ap (λ (k : ℕ). sought f n p k c) m ∙ sought-step (n - d.rank) c h l)
