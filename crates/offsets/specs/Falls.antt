-- Falls along numbers. Assumes nothing.
use Rattle.std.specs.Prelude.{ℕ, ◌+◌, List, [], ◌∷◌, nat_lt}
use Rattle.format.specs.Tools.{first, others}
use Rattle.rises.specs.Falls.{fallen}

-- how many numbers are not above the one before them, which is p for the first
unfoldable pub falls_after : ℕ → List ℕ → ℕ
falls_after p [] = 0
falls_after p (x ∷ xs) = fallen (nat_lt p x) + falls_after x xs

unfoldable pub falls : List ℕ → ℕ
falls os = falls_after (first os) (others os)
