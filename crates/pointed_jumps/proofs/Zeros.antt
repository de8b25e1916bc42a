-- The differences that are 0, counted: rank by rank, and against the jumps that a pass takes. Assumes nothing.
use Prim.Native.Nat.{ℕ, zero, suc, ◌+◌, ◌<◌}
use mathlib.Core.Path.{◌≡◌, refl, ap}
use mathlib.Core.Bool.{true}
use mathlib.Core.List.{List, [], ◌∷◌}
use native.Mathlib.Omega.{arith}
use lib.ListN.{length, get_or}
use lib.Dec.{leb}
use Rattle.format.specs.PointedJumps.{jump_ranks_from}
use Rattle.laws.proofs.Tools.{both_true}
use Rattle.laws.proofs.Pointers.{zeros_below}
use Rattle.parts.specs.Encoder.{if_zero}
use Rattle.jump_pass.specs.Pass.{passes}
use Rattle.jump_pass.proofs.Pass.{never}

-- an element, whatever counts past the end
pub get_or_inside : (xs : List ℕ) (i : ℕ) → i < length xs → get_or xs i 1 ≡ get_or xs i 0
get_or_inside [] i h = absurd (omega arith)
get_or_inside (x ∷ xs) zero h = refl
get_or_inside (x ∷ xs) (suc i) h = get_or_inside xs i (omega arith)

-- one rank more
pub zeros_more : (r : ℕ) (ds : List ℕ) → r < length ds → zeros_below (suc r) ds ≡ zeros_below r ds + if_zero (get_or ds r 1) 1 0
unfolding zeros_below
zeros_more r [] h = absurd (omega arith)
zeros_more zero (zero ∷ ds) h = refl
zeros_more zero (suc d ∷ ds) h = refl
zeros_more (suc r) (zero ∷ ds) h = let i = zeros_more r ds (omega arith) in omega arith
zeros_more (suc r) (suc d ∷ ds) h = zeros_more r ds (omega arith)

-- of all ranks: as many as jumps
pub zeros-all : (k : ℕ) (ds : List ℕ) → zeros_below (length ds) ds ≡ length (jump_ranks_from k ds)
unfolding zeros_below jump_ranks_from
zeros-all k [] = refl
zeros-all k (zero ∷ ds) = ap suc (zeros-all (suc k) ds)
zeros-all k (suc d ∷ ds) = zeros-all (suc k) ds

-- a pass that goes through takes a jump for each
pub passes-take : (w bound least k : ℕ) (js ds : List ℕ) → passes w bound least js ds ≡ true → length (jump_ranks_from k ds) ≡ length js
unfolding passes jump_ranks_from
passes-take w bound least k [] [] h = refl
passes-take w bound least k (j ∷ js) [] h = absurd (never h)
passes-take w bound least k js (suc d ∷ ds) h = passes-take w bound (least + suc d) (suc k) js ds h
passes-take w bound least k [] (zero ∷ ds) h = absurd (never h)
passes-take w bound least k (j ∷ js) (zero ∷ ds) h = ap suc (passes-take w bound _ (suc k) js ds (both_true (leb least j) _ h).1)
