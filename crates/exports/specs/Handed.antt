-- Where a part of the caller's bytes stands, as an answer. Assumes nothing.
use Rattle.std.specs.Prelude.{ℕ, List, length}
use Rattle.format.specs.Answers.{Answer, given, answered}
use Rattle.format.specs.RankRange.{ranks_number, ranks_from}
use Rattle.format.specs.Shorter.{shorter_number, shorter_of}

-- the offset of the part; it has 4 * (c - a) bytes
unfoldable pub ranks_answer : List ℕ → ℕ → ℕ → Answer
ranks_answer b a c = answered (ranks_number b a c) (given (ranks_from b a))

-- 0 for the first, 1 for the second
unfoldable pub shorter_answer : List ℕ → List ℕ → Answer
shorter_answer b₁ b₂ = answered (shorter_number b₁ b₂) (given (shorter_of (length b₁) (length b₂) 0 1))
