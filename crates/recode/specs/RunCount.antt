-- How many runs stored positions have, counted along them. Assumes nothing.
use Rattle.std.specs.Prelude.{ℕ, zero, suc, ◌+◌, List, [], ◌∷◌, eqb}
use Rattle.format.specs.Tools.{pick}

-- 1 where the stored cell l begins a run, else 0; the stored cell before it ends at q, and q is 0 where there is none
abbrev pub begins : ℕ → ℕ → ℕ
begins zero l = 1
begins (suc q) l = pick (eqb l (suc q)) 0 1

-- the runs that begin in ls
unfoldable pub run_count : ℕ → List ℕ → ℕ
run_count q [] = 0
run_count q (l ∷ ls) = begins q l + run_count (suc l) ls

-- where the last of ls ends
unfoldable pub end_after : ℕ → List ℕ → ℕ
end_after q [] = q
end_after q (l ∷ ls) = end_after (suc l) ls

-- 1 where a run begins with the first of ls
unfoldable pub first_begins : ℕ → List ℕ → ℕ
first_begins q [] = 0
first_begins q (l ∷ ls) = begins q l

-- the runs that begin in m and with the first of ys after it
unfoldable pub joint : ℕ → List ℕ → List ℕ → ℕ
joint q m ys = run_count q m + first_begins (end_after q m) ys
