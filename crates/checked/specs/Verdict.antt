-- What the complete check finds of a file. Assumes nothing.
use Rattle.std.specs.Prelude.{ℕ, ◌+◌, ◌*◌, ◌≡◌, Bool, not, List, length, eqb, Result, IfOk}
use Rattle.format.specs.declared.View.{View}
use Rattle.format.specs.declared.Refusal.{Refusal}
use Rattle.format.specs.Answers.{signal_of}
use Rattle.format.specs.Tools.{both}
use Rattle.format.specs.Signals.{BODY, refuse}
use Rattle.format.specs.File.{header_length}
use Rattle.format.specs.Accepted.{length_field, body_right, check_number}
use Rattle.parts.specs.Holds.{ViewOf}

-- the offsets and the length are those of parts with n and m bytes, and the bytes lent are as many as the length
unfoldable pub places_right : List ℕ → View → ℕ → ℕ → Bool
places_right b v n m =
    both (eqb v.start header_length)
    (both (eqb v.second (header_length + n))
    (both (eqb v.place (header_length + n + m))
    (both (eqb (length_field b) (header_length + n + m + 4 * v.words))
    (eqb (length b) (header_length + n + m + 4 * v.words)))))

-- 6, of a file whose header is right
unfoldable pub body_number : List ℕ → ℕ
body_number b = refuse BODY (not (body_right b)) 0

-- the number, and the view where the file is accepted: the contract of the check
pub record Judged (b : List ℕ) (answer : Result View Refusal) : Type 0 where
  pub number : signal_of answer ≡ check_number b
  pub view : IfOk answer (ViewOf b)
