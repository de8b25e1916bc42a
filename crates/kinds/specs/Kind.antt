-- The kinds by their numbers. Assumes nothing.
use Rattle.std.specs.Prelude.{ℕ, ◌≡◌, Result, MatchResult}
use Rattle.format.specs.declared.Refusal.{Refusal}
use Rattle.format.specs.declared.Refusal.TheVariants as refusal
use Rattle.kinds.specs.declared.kind.Kind.{Kind}
use Rattle.kinds.specs.declared.kind.Kind.TheVariants.{Runs, Positions, BaseOffset, Jumps, PagedRuns, PointedJumps}

abbrev pub kind_number : Kind → ℕ
kind_number Runs = 1
kind_number Positions = 2
kind_number BaseOffset = 3
kind_number Jumps = 4
kind_number PagedRuns = 5
kind_number PointedJumps = 6

-- a number of no kind
abbrev pub no_kind : ℕ → Type 0
no_kind n = (k : Kind) → n ≡ kind_number k → ⊥

-- the kind with this number, or a refusal where none has it
abbrev pub kind_read : ℕ → Result Kind Refusal → Type 0
kind_read n r = MatchResult r (λ k. n ≡ kind_number k) (λ e. (e ≡ refusal.Kind) × no_kind n)
