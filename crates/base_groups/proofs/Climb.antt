-- Rising numbers, tested step by step: each is above the one before, and the last is below the bound. Assumes nothing.
use Rattle.std.proofs.Common.{◌≡◌, ℕ, suc, ◌≤◌, Bool, true, leb, List, [], ◌∷◌, arith, le-leb, leb-true}
use Rattle.format.specs.Tools.{both}
use Rattle.laws.proofs.Tools.{both_true, both_make}
use Rattle.laws.proofs.Stored.{Rising}

-- each number is above the one before, the first is at least `least`, and the last is below `bound`
unfoldable pub climbs : ℕ → ℕ → List ℕ → Bool
climbs least bound [] = leb least bound
climbs least bound (l ∷ ls) = both (leb least l) (climbs (suc l) bound ls)

climbs-most : (a B : ℕ) (ls : List ℕ) → climbs a B ls ≡ true → a ≤ B
unfolding climbs
climbs-most a B [] h = leb-true a B h
climbs-most a B (l ∷ ls) h =
    let t = both_true (leb a l) _ h in
    let g = leb-true a l t.0 in
    let m = climbs-most (suc l) B ls t.1 in
    omega arith

pub climbs-rising : (a B : ℕ) (ls : List ℕ) → climbs a B ls ≡ true → Rising a B ls
unfolding climbs
climbs-rising a B [] h = tt
climbs-rising a B (l ∷ ls) h =
    let t = both_true (leb a l) _ h in
    (leb-true a l t.0, climbs-most (suc l) B ls t.1, climbs-rising (suc l) B ls t.1)

pub rising-climbs : (a B : ℕ) (ls : List ℕ) → a ≤ B → Rising a B ls → climbs a B ls ≡ true
unfolding climbs
rising-climbs a B [] h r = le-leb a B h
rising-climbs a B (l ∷ ls) h r = both_make (leb a l) _ (le-leb a l r.0) (rising-climbs (suc l) B ls r.1 r.2)
