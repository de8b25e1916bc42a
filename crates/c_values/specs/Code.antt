-- A lookup's answer in 64 bits. Assumes nothing.
use Rattle.std.specs.Prelude.{ℕ, ◌+◌, ◌*◌, ◌^◌, ◌≤◌, ◌<◌, ◌≡◌, Result, Ok, Err}
use Rattle.format.specs.declared.Position.{Position}
use Rattle.format.specs.declared.RankAnswer.{RankAnswer}
use Rattle.format.specs.declared.RankAnswer.TheVariants as ra
use Rattle.format.specs.Answers.{Answer, refused, empty, given}

-- the low 32 bits the value, the high 32 the code
abbrev pub code_and_value : ℕ → ℕ → ℕ
code_and_value code value = code * 2 ^ 32 + value

-- the code of "empty", whose value is the number of stored cells before the cell (document 02, S-9)
abbrev pub EMPTY : ℕ
EMPTY = 255

abbrev pub coded : Answer → ℕ
coded (refused n) = code_and_value n 0
coded (empty n) = code_and_value EMPTY n
coded (given x) = code_and_value 0 x

-- an answer that a lookup gives: the number of a refusal, "empty" with a number of 32 bits, or a number of 32 bits
abbrev pub FromLookup : Answer → Type 0
FromLookup (refused n) = (1 ≤ n) × (n ≤ 16)
FromLookup (empty n) = n < 2 ^ 32
FromLookup (given x) = x < 2 ^ 32

-- r is the code of an answer of which `Right` holds
pub record Coded (Right : Answer → Type 0) (r : ℕ) : Type 0 where
  pub answer : Answer
  pub right : Right answer
  pub code : r ≡ coded answer

-- a rank or "empty", and a position, as what an accepted lookup gives
abbrev pub rank_given : RankAnswer → Answer
rank_given (ra.Rank r) = given r.0
rank_given (ra.Empty n) = empty n.0

abbrev pub position_given : Position → Answer
position_given p = given p.0

-- r is the code of an answer: of what an accepted one gives, or of a number that is the refusal's
abbrev pub CodeOf : {X R : Type 0} → (X → Answer) → (R → ℕ → Type 0) → Result X R → ℕ → Type 0
CodeOf gives IsNumber (Ok x) r = r ≡ coded (gives x)
CodeOf gives IsNumber (Err e) r = (n : ℕ) × IsNumber e n × (r ≡ coded (refused n))
