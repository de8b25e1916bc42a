-- The stored cells and their runs, counted along the words. Assumes nothing.
use Prim.Native.Nat.{ℕ, suc, ◌+◌, ◌-◌, ◌≤◌, ◌<◌}
use mathlib.Core.Path.{◌≡◌, refl, sym}
use mathlib.Core.Bool.{Bool, true, false, not, ◌&&◌}
use mathlib.Core.List.{List, [], ◌∷◌}
use native.Mathlib.Nat.{zero-add}
use native.Mathlib.Omega.{arith}
use lib.ListN.{length, drop, get_or, drop_of_length-le}
use lib.Seq.{drop-cons}
use lib.Dec.{eqb}
use borrow.Author.Tests.{eq-eqb, ne_eqb}
use mir.Val.{bool_byte}
use Rattle.format.specs.Tools.{pick}
use Rattle.format.specs.Stored.{stored_from, stored, kept}
use Rattle.format.specs.Runs.{runs, runs_from}
use Rattle.laws.proofs.Tools.{cases}
use Rattle.laws.proofs.Stored.{stored-kept}
use Rattle.stored_cells.proofs.Stored.{flag_most}

-- 1 for the word of a stored cell; 1 for that of one behind an empty cell, whose word is y
abbrev pub one : ℕ → ℕ → ℕ
one E x = pick (eqb x E) 0 1

abbrev pub begin : ℕ → ℕ → ℕ → ℕ
begin E y x = pick (eqb y E) (one E x) 0

-- the runs that begin in the words behind a cell of the word y
unfoldable pub begun : ℕ → ℕ → List ℕ → ℕ
begun E y [] = 0
begun E y (x ∷ ws) = begin E y x + begun E x ws

-- as the code tests it
pub one-flag : (E x : ℕ) → bool_byte (not (eqb x E)) ≡ one E x
one-flag E x = flag (eqb x E)
  where
    flag : (t : Bool) → bool_byte (not t) ≡ pick t 0 1
    flag true = refl
    flag false = refl

pub begin_flag : (E y x : ℕ) → bool_byte (eqb y E && not (eqb x E)) ≡ begin E y x
begin_flag E y x = flag (eqb y E) (eqb x E)
  where
    flag : (a b : Bool) → bool_byte (a && not b) ≡ pick a (pick b 0 1) 0
    flag true true = refl
    flag true false = refl
    flag false b = refl

-- ---- the runs of stored positions, by the words

-- a cell at p is stored, and its run goes on to the next word, or has ended before the words from q on
record After (E : ℕ) (ws : List ℕ) : Type 0 where
  next : (p r y : ℕ) → eqb y E ≡ false → length (runs_from p r (stored_from E (suc p) ws)) ≡ suc (begun E y ws)
  later : (p q r y : ℕ) → eqb y E ≡ true → suc p < q → length (runs_from p r (stored_from E q ws)) ≡ suc (begun E y ws)

after : (E : ℕ) (ws : List ℕ) → After E ws
unfolding runs_from stored_from begun
after E [] = record { next = λ p r y t. refl; later = λ p q r y t h. refl }
after E (x ∷ ws) =
    let a = after E ws in
    record {
      next = λ p r y t.
          cases (eqb x E)
          (λ e. rw (e, t, zero-add (begun E x ws)) (a.later p (suc (suc p)) r x e (omega arith)))
          (λ e. rw (e, t, eq-eqb (suc p) (suc p) refl, zero-add (begun E x ws)) (a.next (suc p) (suc r) x e));
      later = λ p q r y t h.
          cases (eqb x E)
          (λ e. rw (e, t, zero-add (begun E x ws)) (a.later p (suc q) r x e (omega arith)))
          (λ e. rw (e, t, ne_eqb q (suc p) (λ z. omega arith), a.next q (suc r) x e) (omega arith));
    }

count_runs : (E q y : ℕ) (ws : List ℕ) → eqb y E ≡ true → length (runs (stored_from E q ws)) ≡ begun E y ws
unfolding runs stored_from begun
count_runs E q y [] t = refl
count_runs E q y (x ∷ ws) t =
    cases (eqb x E)
    (λ e. rw (e, t, zero-add (begun E x ws)) (count_runs E (suc q) x ws e))
    (λ e. rw (e, t, (after E ws).next q 0 x e) (omega arith))

pub all_runs : (E : ℕ) (ws : List ℕ) → begun E E ws ≡ length (runs (stored E ws))
unfolding stored
all_runs E ws = sym (count_runs E 0 E ws (eq-eqb E E refl))

-- ---- a loop along the words

kept_turn : (E : ℕ) (ws : List ℕ) (i : ℕ) → i < length ws → length (kept E (drop i ws)) ≡ one E (get_or ws i 0) + length (kept E (drop (i + 1) ws))
unfolding kept
kept_turn E ws i h =
    let e : i + 1 ≡ suc i = omega arith in
    rw (e, drop-cons ws i 0 h) (cases (eqb (get_or ws i 0) E) (λ t. rw t (omega arith)) (λ t. rw t (omega arith)))

begun_turn : (E y : ℕ) (ws : List ℕ) (i : ℕ) → i < length ws
    → begun E y (drop i ws) ≡ begin E y (get_or ws i 0) + begun E (get_or ws (i + 1 - 1) 0) (drop (i + 1) ws)
unfolding begun
begun_turn E y ws i h =
    let e : i + 1 ≡ suc i = omega arith in
    let k : suc i - 1 ≡ i = omega arith in
    rw (e, k, drop-cons ws i 0 h)

-- the cells counted so far, and those from an index on
pub record Counted (E : ℕ) (ws : List ℕ) (i stored-so runs_so : ℕ) : Type 0 where
  pub some : stored-so ≤ i
  pub fewer : runs_so ≤ i
  pub stored-all : stored-so + length (kept E (drop i ws)) ≡ length (kept E ws)
  pub runs-all : runs_so + begun E (get_or ws (i - 1) 0) (drop i ws) ≡ begun E E ws

pub counted_none : (E : ℕ) (ws : List ℕ) → length ws ≡ 0 → (0 ≡ length (stored E ws)) × (0 ≡ length (runs (stored E ws)))
unfolding stored stored_from runs
counted_none E [] h = (refl, refl)
counted_none E (x ∷ ws) h = absurd (omega arith)

pub counted-first : (E : ℕ) (ws : List ℕ) (n : ℕ) → 0 < length ws → n ≡ one E (get_or ws 0 0) → Counted E ws 1 n n
unfolding kept begun
counted-first E [] n h e = absurd (omega arith)
counted-first E (x ∷ ws) n h e =
    let m : n ≤ 1 = rw (e, ← one-flag E x) (flag_most _) in
    record {
      some = m;
      fewer = m;
      stored-all = cases (eqb x E) (λ t. rw (e, t) (omega arith)) (λ t. rw (e, t) (omega arith));
      runs-all = rw (e, eq-eqb E E refl);
    }

pub counted_turn : (E : ℕ) (ws : List ℕ) (i n m a b : ℕ) → i < length ws → a ≡ one E (get_or ws i 0) → b ≡ begin E (get_or ws (i - 1) 0) (get_or ws i 0)
    → Counted E ws i n m → Counted E ws (i + 1) (n + a) (m + b)
counted_turn E ws i n m a b h p q c =
    let p1 : a ≤ 1 = rw (p, ← one-flag E (get_or ws i 0)) (flag_most _) in
    let q1 : b ≤ 1 = rw (q, ← begin_flag E (get_or ws (i - 1) 0) (get_or ws i 0)) (flag_most _) in
    let k = kept_turn E ws i h in
    let g = begun_turn E (get_or ws (i - 1) 0) ws i h in
    let s = c.some in
    let w = c.fewer in
    let x = c.stored-all in
    let y = c.runs-all in
    record { some = omega arith; fewer = omega arith; stored-all = omega arith; runs-all = omega arith }

pub counted-end : (E : ℕ) (ws : List ℕ) (i n m : ℕ) → length ws ≤ i → Counted E ws i n m → (n ≡ length (stored E ws)) × (m ≡ length (runs (stored E ws)))
unfolding kept begun
counted-end E ws i n m h c =
    let z = drop_of_length-le ws {i = i} h in
    let x : n + 0 ≡ length (kept E ws) = (rw z at c.stored-all) in
    let y : m + 0 ≡ begun E E ws = (rw z at c.runs-all) in
    let k = stored-kept E ws in
    let r = all_runs E ws in
    (omega arith, omega arith)
