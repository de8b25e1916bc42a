-- What the views of two accepted files with the same N say of their words and positions. Assumes nothing.
use Prim.Native.Nat.{ℕ, ◌+◌, ◌*◌, ◌≤◌}
use mathlib.Core.Path.{◌≡◌, sym, ap₂, ◌∙◌}
use mathlib.Core.Bool.{Bool, true}
use mathlib.Core.List.{List}
use native.Mathlib.Omega.{arith}
use lib.ListN.{length, drop}
use Rattle.format.specs.declared.View.{View}
use Rattle.format.specs.Tools.{same}
use Rattle.format.specs.Bytes.{numbers_of}
use Rattle.format.specs.Accepted.{positions_of, kept_of}
use Rattle.parts.specs.Holds.{ViewOf}
use Rattle.parts.proofs.Seen.{seen}
use Rattle.lent_parts.specs.Pair.{same_header, Views}
use Rattle.lent_parts.proofs.Common.{header-alike}
use Rattle.lent_parts.proofs.Turns.{agree}

-- the stored words by the view
kept_seen : (b : List ℕ) (v : View) → ViewOf b v → numbers_of 4 v.words (drop v.place b) ≡ kept_of b
unfolding kept_of
kept_seen b v o = let s = seen b v o in ap₂ (λ (n at : ℕ). numbers_of 4 n (drop at b)) s.words s.header.place

-- two accepted files with the same header
pub both_seen : (b₁ : List ℕ) (v : View) (b₂ : List ℕ) (w : View) → ViewOf b₁ v → ViewOf b₂ w → same_header b₁ b₂ ≡ true → Views b₁ v b₂ w
both_seen b₁ v b₂ w o p h =
    record { first = o; second = p; count = (seen b₁ v o).words ∙ (header-alike b₁ b₂ h).count ∙ sym (seen b₂ w p).words }

module _ (b₁ : List ℕ) (v : View) (b₂ : List ℕ) (w : View) (o : Views b₁ v b₂ w) where
  pub first-inside : v.place + 4 * v.words ≤ length b₁
  first-inside = omega (arith, (seen b₁ v o.first).header.long)

  pub second-inside : w.place + 4 * v.words ≤ length b₂
  second-inside = omega (arith, o.count, (seen b₂ w o.second).header.long)

  pub same-long : length (positions_of b₁) ≡ length (positions_of b₂)
  same-long = (seen b₁ v o.first).holds.size ∙ o.count ∙ sym (seen b₂ w o.second).holds.size

  pub words_compared : (q : Bool) → q ≡ agree b₁ b₂ v.place w.place v.words → q ≡ same (kept_of b₁) (kept_of b₂)
  words_compared q h =
      let k = kept_seen b₁ v o.first in
      let l : numbers_of 4 v.words (drop w.place b₂) ≡ kept_of b₂ = rw o.count (kept_seen b₂ w o.second) in
      rw (k, l) at h
