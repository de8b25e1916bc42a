-- The number of runs, counted along the positions; and of positions with some of them replaced. Assumes nothing.
use Prim.Native.Nat.{ℕ, zero, suc, ◌+◌, ◌<◌}
use mathlib.Core.Path.{◌≡◌, refl, ap, ◌∙◌}
use mathlib.Core.Bool.{Bool, true, false}
use mathlib.Core.List.{List, [], ◌∷◌, ◌++◌, append_assoc}
use native.Mathlib.Omega.{arith}
use lib.ListN.{length, get_or, take}
use lib.Dec.{eqb}
use Rattle.format.specs.Tools.{pick, unless}
use Rattle.format.specs.Runs.{Run, run_at, runs_from, runs}
use Rattle.recode.specs.RunCount.{run_count, end_after, first_begins, joint}

length-unless : (t : Bool) (x : Run) (xs : List Run) → length (unless t x xs) ≡ pick t 0 1 + length xs
length-unless true x xs = omega arith
length-unless false x xs = omega arith

count_from_lem : (p r : ℕ) (ls : List ℕ) → length (runs_from p r ls) ≡ suc (run_count (suc p) ls)
unfolding runs_from run_count
count_from_lem p r [] = refl
count_from_lem p r (l ∷ ls) =
    let i = count_from_lem l (suc r) ls in
    let u = length-unless (eqb l (suc p)) (run_at p r) (runs_from l (suc r) ls) in
    omega arith

pub count_runs : (ls : List ℕ) → length (runs ls) ≡ run_count 0 ls
unfolding runs run_count
count_runs [] = refl
count_runs (l ∷ ls) = let i = count_from_lem l 0 ls in omega arith

count-append : (q : ℕ) (xs ys : List ℕ) → run_count q (xs ++ ys) ≡ run_count q xs + run_count (end_after q xs) ys
unfolding run_count end_after
count-append q [] ys = omega arith
count-append q (x ∷ xs) ys = let i = count-append (suc x) xs ys in omega arith

pub end_take : (q k : ℕ) (ls : List ℕ) → k < length ls → end_after q (take (suc k) ls) ≡ suc (get_or ls k 0)
unfolding end_after
end_take q k [] h = absurd (omega arith)
end_take q zero (l ∷ ls) h = refl
end_take q (suc k) (l ∷ ls) h = end_take (suc l) k ls (omega arith)

-- the runs after the first of ys do not depend on what stands before
later : List ℕ → ℕ
later [] = 0
later (l ∷ ls) = run_count (suc l) ls

count-first : (q : ℕ) (ys : List ℕ) → run_count q ys ≡ first_begins q ys + later ys
unfolding run_count first_begins later
count-first q [] = refl
count-first q (y ∷ ys) = refl

-- with n in place of m between xs and ys
pub count_replaced : (xs m n ys : List ℕ)
    → run_count 0 (xs ++ m ++ ys) + joint (end_after 0 xs) n ys ≡ run_count 0 (xs ++ n ++ ys) + joint (end_after 0 xs) m ys
unfolding joint
count_replaced xs m n ys =
    let q = end_after 0 xs in
    let a = ap (run_count 0) (append_assoc xs m ys) ∙ count-append 0 xs (m ++ ys) in
    let b = ap (run_count 0) (append_assoc xs n ys) ∙ count-append 0 xs (n ++ ys) in
    let c = count-append q m ys in
    let d = count-append q n ys in
    let e = count-first (end_after q m) ys in
    let f = count-first (end_after q n) ys in
    omega arith
