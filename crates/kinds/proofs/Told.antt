-- A kind by its number, as it was read from it. Assumes nothing.
use Prim.Native.Nat.{ℕ, zero, suc}
use mathlib.Core.Path.{◌≡◌, refl, sym, ap, ◌∙◌}
use Rattle.std.specs.Prelude.{Result, Ok, Err}
use Rattle.format.specs.declared.Refusal.{Refusal}
use Rattle.format.specs.declared.Refusal.TheVariants as refusal
use Rattle.kinds.specs.declared.kind.Kind.{Kind}
use Rattle.kinds.specs.declared.kind.Kind.TheVariants as kind
use Rattle.kinds.specs.Kind.{kind_number, no_kind, kind_read}

-- in the arm of a kind
pub told : {n : ℕ} {j k : Kind} → n ≡ kind_number j → j ≡ k → n ≡ kind_number k
told e f = e ∙ ap kind_number f

-- no two kinds have one number: the kind of a number
kind_at : ℕ → Kind
kind_at (suc zero) = kind.Runs
kind_at (suc (suc zero)) = kind.Positions
kind_at (suc (suc (suc zero))) = kind.BaseOffset
kind_at (suc (suc (suc (suc zero)))) = kind.Jumps
kind_at (suc (suc (suc (suc (suc zero))))) = kind.PagedRuns
kind_at _ = kind.PointedJumps

kind_of_number : (k : Kind) → kind_at (kind_number k) ≡ k
unfolding kind_at
kind_of_number kind.Runs = refl
kind_of_number kind.Positions = refl
kind_of_number kind.BaseOffset = refl
kind_of_number kind.Jumps = refl
kind_of_number kind.PagedRuns = refl
kind_of_number kind.PointedJumps = refl

-- in an arm of other kinds
pub told_other : {n : ℕ} {j k : Kind} → n ≡ kind_number j → (j ≡ k → ⊥) → n ≡ kind_number k → ⊥
told_other {n} {j} {k} e f g = f (sym (kind_of_number j) ∙ ap kind_at (sym e ∙ g) ∙ kind_of_number k)

module _ {n : ℕ} {r : Result Kind Refusal} (m : kind_read n r) where
  pub other_told : {j : Kind} → r ≡ Ok j → (k : Kind) → (j ≡ k → ⊥) → n ≡ kind_number k → ⊥
  other_told {j} e k f = let h : n ≡ kind_number j = rw e at m in told_other h f

  -- in the arm of no kind
  pub none_told : {d : Refusal} → r ≡ Err d → no_kind n
  none_told {d} e = let h : (d ≡ refusal.Kind) × no_kind n = rw e at m in h.1
