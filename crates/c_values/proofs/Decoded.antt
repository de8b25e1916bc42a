-- A lookup's code says its answer: no two answers have the same code. Assumes nothing.
use mathlib.Core.Path.{◌≡◌, ap}
use native.Mathlib.Omega.{arith}
use Rattle.format.specs.Answers.{Answer, refused, empty, given}
use Rattle.c_values.specs.Code.{coded, FromLookup}

pub same_answer : (a b : Answer) → FromLookup a → FromLookup b → coded a ≡ coded b → a ≡ b
same_answer (refused n) (refused m) h k e = ap refused (omega arith)
same_answer (refused n) (empty y) h k e = absurd (omega arith)
same_answer (refused n) (given y) h k e = absurd (omega arith)
same_answer (empty x) (refused m) h k e = absurd (omega arith)
same_answer (empty x) (empty y) h k e = ap empty (omega arith)
same_answer (empty x) (given y) h k e = absurd (omega arith)
same_answer (given x) (refused m) h k e = absurd (omega arith)
same_answer (given x) (empty y) h k e = absurd (omega arith)
same_answer (given x) (given y) h k e = ap given (omega arith)
