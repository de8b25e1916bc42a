-- Jumps and differences as one pass goes through them. Assumes nothing.
use Rattle.std.specs.Prelude.{ℕ, zero, suc, ◌+◌, ◌-◌, ◌*◌, ◌^◌, ◌≤◌, ◌<◌, ◌≡◌, Bool, false, List, [], ◌∷◌, length, drop, leb, ltb, eqb, Option, MatchOption}
use Rattle.format.specs.declared.View.{View}
use Rattle.format.specs.Tools.{both, first}
use Rattle.format.specs.Bytes.{field, numbers_of}
use Rattle.parts.specs.Encoder.{if_zero}
use Rattle.jump_pass.specs.declared.check.Passed.{Passed}

-- the entries from the i-th on, of a part of n entries of w bytes each that begins at `at`
unfoldable pub entries_from : ℕ → ℕ → ℕ → ℕ → List ℕ → List ℕ
entries_from w at n i b = numbers_of w (n - i) (drop (at + w * i) b)

-- The ranks with the differences ds, js being the jumps that are left: each jump is at least `least`, which is past what a difference reaches from the
-- position before, all jumps are used, and the last position is below the bound.
unfoldable pub passes : ℕ → ℕ → ℕ → List ℕ → List ℕ → Bool
passes w bound least [] [] = ltb least (bound + 256 ^ w)
passes w bound least (j ∷ js) [] = false
passes w bound least js (suc d ∷ ds) = passes w bound (least + suc d) js ds
passes w bound least [] (zero ∷ ds) = false
passes w bound least (j ∷ js) (zero ∷ ds) = both (leb least j) (passes w bound (j + 256 ^ w) js ds)

-- all ranks: that of rank 0 is a jump, which may have any position
unfoldable pub passes_all : ℕ → ℕ → List ℕ → List ℕ → Bool
passes_all w bound js ds = both (eqb (first ds) 0) (passes w bound 0 js ds)

-- the jumps from the i-th on, and the differences from rank r on, by a view
unfoldable pub jumps_left : View → ℕ → List ℕ → List ℕ
jumps_left v i b = entries_from 4 v.start v.firsts i b

unfoldable pub differences_left : View → ℕ → List ℕ → List ℕ
differences_left v r b = entries_from v.width v.second v.words r b

-- what is left of the pass after i ranks and t jumps
unfoldable pub passes_from : View → List ℕ → ℕ → ℕ → ℕ → Bool
passes_from v b least t i = passes v.width v.cells least (jumps_left v t b) (differences_left v i b)

-- the same from rank i on by the place of the differences, of w bytes each: the jumps that are left end where the differences begin
unfoldable pub passes_on : ℕ → ℕ → ℕ → ℕ → List ℕ → ℕ → ℕ → ℕ → Bool
passes_on w second words bound b least left i = passes w bound least (numbers_of 4 left (drop (second - 4 * left) b)) (entries_from w second words i b)

-- a pass that has come to rank i with s can go on to rank `end`: the differences and the jumps that are left lie in the file, and no sum passes 64 bits
pub record Readable (w second : ℕ) (b : List ℕ) (i end : ℕ) (s : Passed) : Type 0 where
  pub narrow : 1 ≤ w
  pub wide : w ≤ 2
  pub ranks : end < 2 ^ 32
  pub onward : i ≤ end
  pub inside : second + w * end ≤ length b
  pub jumps : 4 * s.left ≤ second
  pub least : s.least ≤ 4295032832 + 65536 * i

-- the jumps below rank i
unfoldable pub jumps_below : ℕ → ℕ → List ℕ → ℕ → ℕ
jumps_below w second b zero = 0
jumps_below w second b (suc i) = jumps_below w second b i + if_zero (field w (second + w * i) b) 1 0

-- it goes from s at rank i to t at rank `end`: however many ranks follow, the rest of the pass is right where what is left from t on is; and a jump is
-- taken for each difference 0
pub record Goes (w second : ℕ) (b : List ℕ) (i end : ℕ) (s t : Passed) : Type 0 where
  pub left : t.left ≤ s.left
  pub least : t.least ≤ 4295032832 + 65536 * end
  pub same : (words bound : ℕ) → end ≤ words
      → passes_on w second words bound b s.least s.left i ≡ passes_on w second words bound b t.least t.left end
  pub jumps : t.left + jumps_below w second b end ≡ s.left + jumps_below w second b i

-- from s at rank i it goes wrong before rank `end`, however many ranks follow
pub record Stops (w second : ℕ) (b : List ℕ) (i end : ℕ) (s : Passed) : Type 0 where
  pub wrong : (words bound : ℕ) → end ≤ words → passes_on w second words bound b s.least s.left i ≡ false

-- what a pass from s at rank i up to rank `end` answers
abbrev pub GoesTo : ℕ → ℕ → List ℕ → ℕ → ℕ → Passed → Option Passed → Type 0
GoesTo w second b i end s r = MatchOption r (Stops w second b i end s) (λ t. Goes w second b i end s t)

-- the sum of the differences of rank k and the next, or 0 where one of them is a jump
unfoldable pub both_near : ℕ → ℕ → List ℕ → ℕ → ℕ
both_near w second b k =
    if_zero (field w (second + w * k) b) 0 (if_zero (field w (second + w * (k + 1)) b) 0 (field w (second + w * k) b + field w (second + w * (k + 1)) b))

-- rank 0 has the difference 0
unfoldable pub starts : View → List ℕ → Bool
starts v b = eqb (first (differences_left v 0 b)) 0
