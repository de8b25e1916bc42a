-- Small tools of the definitions: choice by a test, and lists of numbers. Assumes nothing.
use Rattle.std.specs.Prelude.{ℕ, zero, suc, ◌+◌, ◌-◌, ◌*◌, ◌/◌, ◌<◌, Bool, true, false, List, [], ◌∷◌, ◌++◌, length, get_or, leb, eqb}

-- x where the test passes, else y
abbrev pub pick {ℓ} : {X : Type ℓ} → Bool → X → X → X
pick true x y = x
pick false x y = y

-- both tests pass
abbrev pub both : Bool → Bool → Bool
both true b = b
both false b = false

-- low ≤ n ≤ high
abbrev pub within : ℕ → ℕ → ℕ → Bool
within low high n = both (leb low n) (leb n high)

-- the list f 0, f 1, .., f (n - 1)
unfoldable pub listed : ℕ → (ℕ → ℕ) → List ℕ
listed zero f = []
listed (suc n) f = f 0 ∷ listed n (λ k. f (suc k))

-- the numbers a, a + 1, .., n of them
unfoldable pub range : ℕ → ℕ → List ℕ
range a zero = []
range a (suc n) = a ∷ range (suc a) n

-- the first of a list of numbers, and the others; 0 and none where the list is empty
abbrev pub first : List ℕ → ℕ
first [] = 0
first (x ∷ xs) = x

abbrev pub others : List ℕ → List ℕ
others [] = []
others (x ∷ xs) = xs

-- x put in front where the test fails
abbrev pub unless {ℓ} : {X : Type ℓ} → Bool → X → List X → List X
unless true x xs = xs
unless false x xs = x ∷ xs

-- the lists f x, one after the other
abbrev pub joined : (ℕ → List ℕ) → List ℕ → List ℕ
joined f [] = []
joined f (x ∷ xs) = f x ++ joined f xs

-- the two lists are the same
abbrev pub same : List ℕ → List ℕ → Bool
same [] [] = true
same [] (y ∷ ys) = false
same (x ∷ xs) [] = false
same (x ∷ xs) (y ∷ ys) = both (eqb x y) (same xs ys)

-- the test passes for each element
abbrev pub every : (ℕ → Bool) → List ℕ → Bool
every f [] = true
every f (x ∷ xs) = both (f x) (every f xs)

-- a divided by b, rounded up
abbrev pub up_to : ℕ → ℕ → ℕ
up_to a b = (a + (b - 1)) / b

-- the elements 0, n, 2n and so on of a list
abbrev pub every_nth : ℕ → List ℕ → List ℕ
every_nth n xs = listed (up_to (length xs) n) (λ k. get_or xs (k * n) 0)

-- each number of a list is below a bound
abbrev pub Below : ℕ → List ℕ → Type 0
Below m [] = Unit
Below m (x ∷ xs) = (x < m) × Below m xs
