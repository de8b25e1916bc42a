-- What a call hands back (document 01, "The signal list"), and the number and values of each case of an answer that code gives. Assumes nothing.
use Rattle.std.specs.Prelude.{ℕ, zero, suc, Bool, true, false, List, [], ◌∷◌, ◌++◌, length, drop, Result, Ok, Err}
use Rattle.format.specs.declared.Position.{Position}
use Rattle.format.specs.declared.Refusal.{Refusal}
use Rattle.format.specs.declared.RankAnswer.{RankAnswer}
use Rattle.format.specs.declared.RankAnswer.TheVariants as ra
use Rattle.format.specs.Signals.{signal_number}

-- an answer: a refusal's number; "empty", with the number of stored cells before the cell (document 02, S-9); or a word, rank or position
pub data Answer : Type 0 where
  refused : ℕ → Answer
  empty : ℕ → Answer
  given : ℕ → Answer

-- the refusal, or else the answer
abbrev pub answered : ℕ → Answer → Answer
answered zero a = a
answered (suc n) a = refused (suc n)

-- the paper's number of an answer, 0 where the call is accepted; whether it is "empty"; and its values
abbrev pub number_of : Answer → ℕ
number_of (refused n) = n
number_of (empty n) = 0
number_of (given x) = 0

abbrev pub is_empty : Answer → Bool
is_empty (refused n) = false
is_empty (empty n) = true
is_empty (given x) = false

abbrev pub values_of : Answer → List ℕ
values_of (refused n) = []
values_of (empty n) = n ∷ []
values_of (given x) = x ∷ []

-- the paper's number of a call that hands nothing else back: 0 where it is accepted
abbrev pub signal_of : {X : Type 0} → Result X Refusal → ℕ
signal_of (Ok x) = 0
signal_of (Err r) = signal_number r

-- what each case of an answer that code gives says
abbrev pub cell_says : Result ℕ Refusal → Answer
cell_says (Ok x) = given x
cell_says (Err r) = refused (signal_number r)

abbrev pub rank_says : Result RankAnswer Refusal → Answer
rank_says (Ok (ra.Rank r)) = given r.0
rank_says (Ok (ra.Empty n)) = empty n.0
rank_says (Err r) = refused (signal_number r)

abbrev pub position_says : Result Position Refusal → Answer
position_says (Ok p) = given p.0
position_says (Err r) = refused (signal_number r)

-- the values of coordinates, which are four
abbrev pub coordinates_values_of : Result (List ℕ) Refusal → List ℕ
coordinates_values_of (Ok cs) = cs
coordinates_values_of (Err r) = []

-- A destination that held `before`, after a call with this number: an accepted result fills its first elements and leaves the rest unchanged,
-- a refusal alters nothing.
abbrev pub leaves : ℕ → List ℕ → List ℕ → List ℕ
leaves zero out before = out ++ drop (length out) before
leaves (suc n) out before = before
