-- The lister's output as bytes (document 01, "The sample picture"). Assumes nothing.
use Rattle.std.specs.Prelude.{ℕ, zero, suc, ◌+◌, ◌/◌, ◌%◌, List, [], ◌∷◌, ◌++◌, length, ltb}
use Rattle.format.specs.Tools.{pick, first, others}
use Rattle.format.specs.Picture.{cells}
use Rattle.format.specs.Accepted.{setting_of, dimensions_of, words_count, positions_of, kept_of, check_number}

-- the most bytes that the lister reads
abbrev pub most_listed : ℕ
most_listed = 65536

-- the decimal digits of n, at most k of them
unfoldable pub digits : ℕ → ℕ → List ℕ
digits zero n = []
digits (suc k) n =
    let front = digits k (n / 10) in
    pick (ltb n 10) [] front ++ ((48 + n % 10) ∷ [])

-- n in decimal; a number below 2^32 has at most 10 digits
unfoldable pub decimal : ℕ → List ℕ
decimal n = digits 10 n

-- a line of three numbers, one space between
unfoldable pub line : ℕ → ℕ → ℕ → List ℕ
line a b c = decimal a ++ (32 ∷ []) ++ decimal b ++ (32 ∷ []) ++ decimal c ++ (10 ∷ [])

-- a line for each rank from r on: rank, position, word
unfoldable pub rank_lines : ℕ → List ℕ → List ℕ → List ℕ
rank_lines r [] vs = []
rank_lines r (l ∷ ls) vs = line r l (first vs) ++ rank_lines (suc r) ls (others vs)

-- of an accepted file: kind byte, cells, N, and the lines of the ranks
unfoldable pub file_lines : List ℕ → List ℕ
file_lines b = line (setting_of b).kind (cells (dimensions_of b)) (words_count b) ++ rank_lines 0 (positions_of b) (kept_of b)

-- "refused", one space and the number
unfoldable pub refused_line : ℕ → List ℕ
refused_line n = (114 ∷ 101 ∷ 102 ∷ 117 ∷ 115 ∷ 101 ∷ 100 ∷ 32 ∷ []) ++ decimal n ++ (10 ∷ [])

-- "too long"
abbrev pub too_long : List ℕ
too_long = 116 ∷ 111 ∷ 111 ∷ 32 ∷ 108 ∷ 111 ∷ 110 ∷ 103 ∷ 10 ∷ []

abbrev pub listed_as : ℕ → List ℕ → List ℕ
listed_as zero b = file_lines b
listed_as (suc n) b = refused_line (suc n)

-- what the lister prints for the input b
unfoldable pub listing : List ℕ → List ℕ
listing b =
    let text = listed_as (check_number b) b in
    pick (ltb most_listed (length b)) too_long text
