-- Runs come back from their positions, over any list of runs: what the checks of kinds 1 and 5 share.
-- `runs-again`: for runs in strict order (`InOrder'`), runs (positions_from 0 (spans rs)) ≡ rs.
-- `rising-again`, `length-again`: those positions rise below any bound that the last L is below, and their number is the last L + 1 less the last V.
-- `runs-ordered`, `runs-end`, `runs-length`: the runs of rising positions are in strict order, end below the bound, and tell the number of positions.
-- Assumes nothing.
use Prim.Native.Nat.{ℕ, zero, suc, ◌+◌, ◌-◌, ◌≤◌, ◌<◌}
use mathlib.Core.Path.{◌≡◌, refl, sym, ap₂, ◌∙◌}
use mathlib.Core.List.{List, [], ◌∷◌, ◌++◌}
use native.Mathlib.Nat.{le_refl, add-zero}
use native.Mathlib.Omega.{arith}
use lib.Arith.{lt_of_le-ne}
use lib.ListN.{length, length-append}
use lib.Dec.{eqb}
use borrow.Author.Tests.{eqb-true, eqb-false, eq-eqb, ne_eqb}
use Rattle.format.specs.Tools.{range}
use Rattle.format.specs.Runs.{Run, run_at, runs_from, runs, spans_from, spans, positions_from}
use Rattle.laws.proofs.Tools.{cases, length-range}
use Rattle.laws.proofs.Stored.{Rising}
use Rattle.laws.proofs.Positions.{runs-back}
use Rattle.laws.proofs.Ranks.{InOrder}

-- the empty cells that a run begins with at least, where `end` is L before + 1: one after another run, none at the front
abbrev pub least_empty : ℕ → ℕ
least_empty zero = 0
least_empty (suc end) = 1

-- Runs in strict order: each has a stored cell, and each but the first run of the picture begins with an empty cell. `end` is L before + 1, v is V before.
abbrev pub InOrder' : ℕ → ℕ → List Run → Type 0
InOrder' end v [] = Unit
InOrder' end v (x ∷ xs) = (least_empty end + v ≤ x.empty) × (end + (x.empty - v) ≤ x.last) × InOrder' (suc x.last) x.empty xs

-- the last L + 1, and the last V; those before the runs where there is none
abbrev pub last_end : ℕ → List Run → ℕ
last_end end [] = end
last_end end (x ∷ xs) = last_end (suc x.last) xs

abbrev pub last_empty : ℕ → List Run → ℕ
last_empty v [] = v
last_empty v (x ∷ xs) = last_empty x.empty xs

-- strict order is order
pub weaker : (e v : ℕ) (rs : List Run) → InOrder' e v rs → InOrder e v rs
weaker e v [] o = tt
weaker e v (x ∷ xs) o = let o0 = o.0 in (omega arith, o.1, weaker (suc x.last) x.empty xs o.2)

-- ---- one run: its stored cells from s on, where g empty cells come first

run-cells : (e g l : ℕ) → e + g ≤ l → suc l - e - g ≡ suc (l - (e + g))
run-cells e g l h = omega arith

run_end : (e g l : ℕ) → e + g ≤ l → e + (suc l - e) ≡ suc l
run_end e g l h = omega arith

one-run : (e v : ℕ) (x : Run) (xs : List Run) → e + (x.empty - v) ≤ x.last
    → positions_from e (spans_from e v (x ∷ xs))
    ≡ (e + (x.empty - v))
    ∷ (range (suc (e + (x.empty - v))) (x.last - (e + (x.empty - v))) ++ positions_from (suc x.last) (spans_from (suc x.last) x.empty xs))
unfolding positions_from spans_from range
one-run e v x xs h = rw (run-cells e (x.empty - v) x.last h, run_end e (x.empty - v) x.last h)

-- ---- the runs again

-- the next cell stays in the open run
next-cell : (p r : ℕ) (ls : List ℕ) → runs_from p r (suc p ∷ ls) ≡ runs_from (suc p) (suc r) ls
unfolding runs_from
next-cell p r ls = rw (eq-eqb (suc p) (suc p) refl)

-- an open run takes in the positions that follow on
open_run : (p r n : ℕ) (ls : List ℕ) → runs_from p r (range (suc p) n ++ ls) ≡ runs_from (p + n) (r + n) ls
unfolding range
open_run p r zero ls = rw (add-zero p, add-zero r)
open_run p r (suc n) ls =
    let e1 : p + suc n ≡ suc p + n = omega arith in
    let e2 : r + suc n ≡ suc r + n = omega arith in
    next-cell p r (range (suc (suc p)) n ++ ls) ∙ open_run (suc p) (suc r) n ls ∙ sym (ap₂ (λ (a b : ℕ). runs_from a b ls) e1 e2)

-- a run that begins past the next cell closes the open one
closed_run : (p r l : ℕ) (ls : List ℕ) → suc p < l → runs_from p r (l ∷ ls) ≡ run_at p r ∷ runs_from l (suc r) ls
unfolding runs_from
closed_run p r l ls h = rw (ne_eqb l (suc p) (λ q. omega arith))

run_path : {a b c d : ℕ} → a ≡ c → b ≡ d → ◌≡◌ {A = Run} (record { last = a; empty = b }) (record { last = c; empty = d })
run_path h k = cc

same-run : (r : ℕ) (x : Run) → r + x.empty ≡ x.last → run_at x.last r ≡ x
unfolding run_at
same-run r x h = run_path refl (omega arith)

later_again : (p r v : ℕ) (xs : List Run) → r + v ≡ p → InOrder' (suc p) v xs
    → runs_from p r (positions_from (suc p) (spans_from (suc p) v xs)) ≡ run_at p r ∷ xs
later_again p r v [] q o = unfold positions_from spans_from runs_from in refl
later_again p r v (x ∷ xs) q o =
    let o0 = o.0 in
    let o1 = o.1 in
    let s : ℕ = suc p + (x.empty - v) in
    let m : ℕ = x.last - s in
    let t : runs_from x.last (suc r + m) (positions_from (suc x.last) (spans_from (suc x.last) x.empty xs)) ≡ run_at x.last (suc r + m) ∷ xs
    = later_again x.last (suc r + m) x.empty xs (ranks p r v x.last x.empty q o0 o1) o.2 in
    let n : s + m ≡ x.last = omega arith in
    rw (
      one-run (suc p) v x xs o1,
      closed_run p r s (range (suc s) m ++ positions_from (suc x.last) (spans_from (suc x.last) x.empty xs)) (omega arith),
      open_run s (suc r) m (positions_from (suc x.last) (spans_from (suc x.last) x.empty xs)),
      n,
      t,
      same-run (suc r + m) x (ranks p r v x.last x.empty q o0 o1),
    )
  where
    ranks : (p r v l y : ℕ) → r + v ≡ p → 1 + v ≤ y → suc p + (y - v) ≤ l → suc r + (l - (suc p + (y - v))) + y ≡ l
    ranks p r v l y q k o = omega arith

first_run : (l : ℕ) (ls : List ℕ) → runs (l ∷ ls) ≡ runs_from l 0 ls
unfolding runs
first_run l ls = refl

pub runs_again : (rs : List Run) → InOrder' 0 0 rs → runs (positions_from 0 (spans rs)) ≡ rs
unfolding spans
runs_again [] o = unfold positions_from spans_from runs in refl
runs_again (x ∷ xs) o =
    let o1 = o.1 in
    let s : ℕ = 0 + (x.empty - 0) in
    let m : ℕ = x.last - s in
    let rest : List ℕ = positions_from (suc x.last) (spans_from (suc x.last) x.empty xs) in
    let n : s + m ≡ x.last = omega arith in
    let q : 0 + m + x.empty ≡ x.last = omega arith in
    rw (one-run 0 0 x xs o1)
    (first_run s (range (suc s) m ++ rest)
    ∙ open_run s 0 m rest
    ∙ rw (n, later_again x.last (0 + m) x.empty xs q o.2, same-run (0 + m) x q))

-- ---- the positions of runs: they rise, and their number

rising-range : (a n B : ℕ) (ls : List ℕ) → a + n ≤ B → Rising (a + n) B ls → Rising a B (range a n ++ ls)
unfolding range
rising-range a zero B ls h r = rw (add-zero a) at r
rising-range a (suc n) B ls h r =
    let e : a + suc n ≡ suc a + n = omega arith in
    let h' : suc a + n ≤ B = omega arith in
    let r' : Rising (suc a + n) B ls = rw e at r in
    (le_refl a, omega arith, rising-range (suc a) n B ls h' r')

end_grows : (e v : ℕ) (rs : List Run) → InOrder e v rs → e ≤ last_end e rs
end_grows e v [] o = le_refl e
end_grows e v (x ∷ xs) o = let o1 = o.1 in let i = end_grows (suc x.last) x.empty xs o.2 in omega arith

rising_from : (e v B : ℕ) (rs : List Run) → InOrder e v rs → last_end e rs ≤ B → Rising e B (positions_from e (spans_from e v rs))
rising_from e v B [] o h = unfold positions_from spans_from in tt
rising_from e v B (x ∷ xs) o h =
    let o1 = o.1 in
    let s : ℕ = e + (x.empty - v) in
    let k = end_grows (suc x.last) x.empty xs o.2 in
    let i : Rising (suc x.last) B (positions_from (suc x.last) (spans_from (suc x.last) x.empty xs))
    = rising_from (suc x.last) x.empty B xs o.2 h in
    let n : suc s + (x.last - s) ≡ suc x.last = omega arith in
    rw (one-run e v x xs o1) (omega arith, omega arith, rising-range (suc s) (x.last - s) B _ (omega arith) (rw n i))

pub rising_again : (B : ℕ) (rs : List Run) → InOrder 0 0 rs → last_end 0 rs ≤ B → Rising 0 B (positions_from 0 (spans rs))
unfolding spans
rising_again B rs o h = rising_from 0 0 B rs o h

length_from : (e v : ℕ) (rs : List Run) → InOrder e v rs → v ≤ e → length (positions_from e (spans_from e v rs)) + e + last_empty v rs ≡ last_end e rs + v
length_from e v [] o h = unfold positions_from spans_from in (omega arith)
length_from e v (x ∷ xs) o h =
    let o0 = o.0 in
    let o1 = o.1 in
    let rest : List ℕ = positions_from (suc x.last) (spans_from (suc x.last) x.empty xs) in
    let s : ℕ = e + (x.empty - v) in
    let i : length rest + suc x.last + last_empty x.empty xs ≡ last_end (suc x.last) xs + x.empty
    = length_from (suc x.last) x.empty xs o.2 (omega arith) in
    rw (one-run e v x xs o1, length-append (range (suc s) (x.last - s)) rest, length-range (suc s) (x.last - s)) (omega arith)

-- the last L + 1 less the last V
pub length_again : (rs : List Run) → InOrder 0 0 rs → length (positions_from 0 (spans rs)) + last_empty 0 rs ≡ last_end 0 rs
unfolding spans
length_again rs o = let i = length_from 0 0 rs o (le_refl 0) in omega arith

-- ---- the runs of rising positions

ordered_from : (e v p r s B : ℕ) (ls : List ℕ) → least_empty e + e ≤ s → s ≤ p → p + e ≡ r + v + s → Rising (suc p) B ls
    → InOrder' e v (runs_from p r ls)
unfolding runs_from run_at
ordered_from e v p r s B [] h k q o = (omega arith, omega arith, tt)
ordered_from e v p r s B (l ∷ ls) h k q o =
    cases (eqb l (suc p))
    (λ t. let m : l ≡ suc p = eqb-true l (suc p) t in rw t (ordered_from e v l (suc r) s B ls h (omega arith) (omega arith) o.2))
    (λ t.
    let m : suc p < l = lt_of_le-ne o.0 (λ z. eqb-false l (suc p) t (sym z)) in
    rw t (omega arith, omega arith, ordered_from (suc p) (p - r) l (suc r) l B ls (omega arith) (le_refl l) (omega arith) o.2))

pub runs-ordered : (a B : ℕ) (ls : List ℕ) → Rising a B ls → InOrder' 0 0 (runs ls)
unfolding runs
runs-ordered a B [] o = tt
runs-ordered a B (l ∷ ls) o = ordered_from 0 0 l 0 l B ls (omega arith) (le_refl l) (omega arith) o.2

end_from : (e p r B : ℕ) (ls : List ℕ) → p < B → Rising (suc p) B ls → last_end e (runs_from p r ls) ≤ B
unfolding runs_from run_at
end_from e p r B [] h o = h
end_from e p r B (l ∷ ls) h o =
    cases (eqb l (suc p)) (λ t. rw t (end_from e l (suc r) B ls o.1 o.2)) (λ t. rw t (end_from (suc p) l (suc r) B ls o.1 o.2))

pub runs-end : (a B : ℕ) (ls : List ℕ) → Rising a B ls → last_end 0 (runs ls) ≤ B
unfolding runs
runs-end a B [] o = omega arith
runs-end a B (l ∷ ls) o = end_from 0 l 0 B ls o.1 o.2

pub runs-length : (a B : ℕ) (ls : List ℕ) → Rising a B ls → length ls + last_empty 0 (runs ls) ≡ last_end 0 (runs ls)
runs-length a B ls o = rw (runs-back a B ls o) at (length_again (runs ls) (weaker 0 0 (runs ls) (runs-ordered a B ls o)))
