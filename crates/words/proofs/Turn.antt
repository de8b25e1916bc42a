-- One turn of a loop along the words, and its end. Assumes nothing.
use Prim.Native.Nat.{ℕ, ◌+◌, ◌-◌, ◌*◌, ◌≤◌, ◌<◌}
use mathlib.Core.Path.{◌≡◌, refl}
use mathlib.Core.Bool.{Bool, true, false, not, ◌&&◌}
use mathlib.Core.List.{List}
use native.Mathlib.Omega.{arith}
use lib.ListN.{drop}
use lib.Dec.{eqb}
use Rattle.format.specs.Tools.{both, every}
use Rattle.format.specs.Bytes.{field, numbers_of}
use Rattle.laws.proofs.Tools.{both_and}
use Rattle.laws.proofs.Numbers.{numbers_turn, numbers-end}

-- no number of the list is e
abbrev pub none : ℕ → List ℕ → Bool
none e xs = every (λ x. not (eqb x e)) xs

pub none_turn : (e n i at : ℕ) (b : List ℕ) (right : Bool) → i < n
    → both (right && not (eqb (field 4 (at + 4 * i) b) e)) (none e (numbers_of 4 (n - (i + 1)) (drop (at + 4 * (i + 1)) b)))
    ≡ both right (none e (numbers_of 4 (n - i) (drop (at + 4 * i) b)))
none_turn e n i at b right h =
    let k : n - (i + 1) ≡ n - i - 1 = omega arith in
    let m : at + 4 * (i + 1) ≡ at + 4 * i + 4 = omega arith in
    rw (k, m, numbers_turn 4 (n - i) (at + 4 * i) b (omega arith)) (both_and right (not (eqb (field 4 (at + 4 * i) b) e)) _)

pub none_end : (e n i at : ℕ) (b : List ℕ) (right : Bool) → n ≤ i → right ≡ both right (none e (numbers_of 4 (n - i) (drop (at + 4 * i) b)))
none_end e n i at b true h = rw (numbers-end 4 (n - i) (drop (at + 4 * i) b) (omega arith))
none_end e n i at b false h = refl
