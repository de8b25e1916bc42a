-- The runs in the words of document 01: the longest stretches of the picture's words. Assumes nothing.
use Prim.Native.Nat.{ℕ, suc, ◌+◌, ◌-◌, ◌≤◌, ◌<◌}
use mathlib.Core.Path.{◌≡◌, refl, sym, ap, ◌∙◌, subst, subst₂}
use mathlib.Core.List.{List, [], ◌∷◌, ◌++◌, append_assoc}
use native.Mathlib.Nat.{le_refl, zero-add, add-zero}
use native.Mathlib.Omega.{arith}
use lib.ListN.{length, take, length-append}
use lib.Seq.{take_at}
use lib.Dec.{eqb}
use borrow.Author.Tests.{eqb-true, eqb-false, eq-eqb, ne_eqb}
use Rattle.format.specs.Tools.{pick}
use Rattle.format.specs.Stored.{stored_from, stored}
use Rattle.format.specs.Runs.{Run, run_at, runs_from, runs}
use Rattle.laws.proofs.Stored.{Rising, Apart, rising-stored}
use Rattle.laws.proofs.Tools.{cases}

-- each word is E
abbrev pub Empties : ℕ → List ℕ → Type 0
Empties E [] = Unit
Empties E (w ∷ ws) = (w ≡ E) × Empties E ws

-- no stored cell comes next
abbrev pub Stops : ℕ → List ℕ → Type 0
Stops E [] = Unit
Stops E (w ∷ ws) = w ≡ E

-- The runs of words that begin at position `at`, with v empty cells before them: each is a longest stretch of empty cells (perhaps none) and the longest
-- stretch of stored cells (at least one) after it; empty cells after the last stored cell have no run.
pub data Stretches (E : ℕ) : ℕ → ℕ → List ℕ → List Run → Type 0 where
  trailing : {at v : ℕ} (ws : List ℕ) → Empties E ws → Stretches E at v ws []
  run : {at v : ℕ} {rs : List Run} (es ss rest : List ℕ) → Empties E es → Apart E ss → 1 ≤ length ss → Stops E rest
      → Stretches E (at + length es + length ss) (v + length es) rest rs
      → Stretches E at v (es ++ ss ++ rest) (record { last = at + length es + length ss - 1; empty = v + length es } ∷ rs)

-- ---- every picture has stretches

stops : (E : ℕ) (ws : List ℕ) → Empties E ws → Stops E ws
stops E [] h = tt
stops E (w ∷ ws) h = h.0

-- a place of the words, said otherwise
moved : (E : ℕ) {at v : ℕ} {rest : List ℕ} {rs : List Run} (i j : ℕ) → at ≡ i → v ≡ j → Stretches E at v rest rs → Stretches E i j rest rs
moved E {rest} {rs} i j p q t = subst₂ (λ (i j : ℕ). Stretches E i j rest rs) p q t

-- an empty cell in front
empty-front : (E x at v : ℕ) {ws : List ℕ} {rs : List Run} → x ≡ E → Stretches E (suc at) (suc v) ws rs → (qs : List Run) × Stretches E at v (x ∷ ws) qs
empty-front E x at v q (trailing ws e) = ([], trailing (x ∷ ws) (q, e))
empty-front E x at v q (run es ss rest e a n s t) =
    (_, run (x ∷ es) ss rest (q, e) a n s (moved E (at + suc (length es) + length ss) (v + suc (length es)) (omega arith) (omega arith) t))

-- a stored cell in front: of a first run without empty cells it is the first stored cell, else it is a run of its own
stored-front : (E x at v : ℕ) {ws : List ℕ} {rs : List Run} → (x ≡ E → ⊥) → Stretches E (suc at) v ws rs → (qs : List Run) × Stretches E at v (x ∷ ws) qs
stored-front E x at v q (trailing ws e) = (_, run [] (x ∷ []) ws tt (q, tt) (le_refl 1) (stops E ws e) (trailing ws e))
stored-front E x at v q (run [] ss rest e a n s t) =
    (_, run [] (x ∷ ss) rest tt (q, a) (omega arith) s (moved E (at + 0 + suc (length ss)) (v + 0) (omega arith) refl t))
stored-front E x at v q (run (y ∷ es) ss rest e a n s t) = (
  _,
  run [] (x ∷ []) (y ∷ es ++ ss ++ rest) tt (q, tt) (le_refl 1) e.0
      (moved E (at + 0 + 1) (v + 0) (omega arith) (omega arith) (run (y ∷ es) ss rest e a n s t)),
)

some_stretches : (E at v : ℕ) (ws : List ℕ) → (rs : List Run) × Stretches E at v ws rs
some_stretches E at v [] = ([], trailing [] tt)
some_stretches E at v (x ∷ ws) =
    cases (eqb x E)
    (λ e. empty-front E x at v (eqb-true x E e) (some_stretches E (suc at) (suc v) ws).1)
    (λ e. stored-front E x at v (eqb-false x E e) (some_stretches E (suc at) v ws).1)

-- ---- and they are its runs

-- the runs of stored positions the first of which has rank r
runs_on : ℕ → List ℕ → List Run
runs_on r [] = []
runs_on r (l ∷ ls) = runs_from l r ls

runs_on_lem : (ls : List ℕ) → runs ls ≡ runs_on 0 ls
unfolding runs runs_on
runs_on_lem [] = refl
runs_on_lem (l ∷ ls) = refl

past_empties : (E at : ℕ) (es ws : List ℕ) → Empties E es → stored_from E at (es ++ ws) ≡ stored_from E (at + length es) ws
unfolding stored_from
past_empties E at [] ws h = rw (add-zero at)
past_empties E at (x ∷ es) ws h =
    let e : at + suc (length es) ≡ suc at + length es = omega arith in
    rw (eq-eqb x E h.0, e) (past_empties E (suc at) es ws h.1)

-- a run ends before an empty cell
run_ends_lem : (p r B : ℕ) (ls : List ℕ) → Rising (suc (suc p)) B ls → runs_from p r ls ≡ run_at p r ∷ runs_on (suc r) ls
unfolding runs_from runs_on
run_ends_lem p r B [] o = refl
run_ends_lem p r B (l ∷ ls) o = rw (ne_eqb l (suc p) (λ e. omega arith))

run_stops : (E p r : ℕ) (rest : List ℕ) → Stops E rest → runs_from p r (stored_from E (suc p) rest) ≡ run_at p r ∷ runs_on (suc r) (stored_from E (suc p) rest)
unfolding stored_from
run_stops E p r [] s = run_ends_lem p r 0 [] tt
run_stops E p r (w ∷ ws) s =
    rw (eq-eqb w E s) (run_ends_lem p r (suc (suc p) + length ws) (stored_from E (suc (suc p)) ws) (rising-stored E (suc (suc p)) _ ws (le_refl _)))

-- and goes on through stored cells
run_goes_on : (E p r : ℕ) (ss rest : List ℕ) → Apart E ss → Stops E rest
    → runs_from p r (stored_from E (suc p) (ss ++ rest))
    ≡ run_at (p + length ss) (r + length ss) ∷ runs_on (suc (r + length ss)) (stored_from E (suc (p + length ss)) rest)
unfolding stored_from runs_from
run_goes_on E p r [] rest a s = rw (add-zero p, add-zero r) (run_stops E p r rest s)
run_goes_on E p r (x ∷ ss) rest a s =
    let e : p + suc (length ss) ≡ suc p + length ss = omega arith in
    let f : r + suc (length ss) ≡ suc r + length ss = omega arith in
    rw (ne_eqb x E a.0, eq-eqb (suc p) (suc p) refl, e, f) (run_goes_on E (suc p) (suc r) ss rest a.1 s)

none-stored : (E at : ℕ) (ws : List ℕ) → Empties E ws → stored_from E at ws ≡ []
unfolding stored_from
none-stored E at [] h = refl
none-stored E at (w ∷ ws) h = rw (eq-eqb w E h.0) (none-stored E (suc at) ws h.1)

run-starts : (E p r x : ℕ) (ws : List ℕ) → (x ≡ E → ⊥) → runs_on r (stored_from E p (x ∷ ws)) ≡ runs_from p r (stored_from E (suc p) ws)
unfolding stored_from runs_on
run-starts E p r x ws h = rw (ne_eqb x E h)

-- a stretch in front is the first run
first_run : (E at v r : ℕ) (es ss rest : List ℕ) → at ≡ r + v → Empties E es → Apart E ss → 1 ≤ length ss → Stops E rest
    → runs_on r (stored_from E at (es ++ ss ++ rest))
    ≡ record { last = at + length es + length ss - 1; empty = v + length es } ∷ runs_on (r + length ss) (stored_from E (at + length es + length ss) rest)
unfolding run_at
first_run E at v r es [] rest q e a n s = absurd (omega arith)
first_run E at v r es (x ∷ ss) rest q e a n s =
    let p : at + length es + suc (length ss) ≡ suc (at + length es + length ss) = omega arith in
    let k : r + suc (length ss) ≡ suc (r + length ss) = omega arith in
    let l : suc (at + length es + length ss) - 1 ≡ at + length es + length ss = omega arith in
    let m : at + length es + length ss - (r + length ss) ≡ v + length es = omega arith in
    rw (
      append_assoc es (x ∷ ss) rest,
      past_empties E at es (x ∷ ss ++ rest) e,
      run-starts E (at + length es) r x (ss ++ rest) a.0,
      run_goes_on E (at + length es) r ss rest a.1 s,
      p,
      k,
      l,
      m,
    )

are_runs : (E r : ℕ) {at v : ℕ} {ws : List ℕ} {rs : List Run} → at ≡ r + v → Stretches E at v ws rs → rs ≡ runs_on r (stored_from E at ws)
are_runs E r {at} q (trailing ws e) = unfold runs_on in rw (none-stored E at ws e)
are_runs E r {at} {v} q (run {rs = rs} es ss rest e a n s t) =
    let ih : rs ≡ runs_on (r + length ss) (stored_from E (at + length es + length ss) rest) = are_runs E (r + length ss) (omega arith) t in
    rw (first_run E at v r es ss rest q e a n s, ← ih)

-- the description determines the runs
pub stretches_are_runs : (E : ℕ) (ws : List ℕ) (rs : List Run) → Stretches E 0 0 ws rs → rs ≡ runs (stored E ws)
unfolding stored
stretches_are_runs E ws rs t = are_runs E 0 refl t ∙ sym (runs_on_lem (stored_from E 0 ws))

-- and the runs of the picture meet it
pub runs_are_stretches : (E : ℕ) (ws : List ℕ) → Stretches E 0 0 ws (runs (stored E ws))
runs_are_stretches E ws =
    let t = some_stretches E 0 0 ws in
    rw (← stretches_are_runs E ws t.0 t.1) t.1

-- ---- V_j is the number of empty cells up to L_j

-- the words that are E
unfoldable pub empty_cells : ℕ → List ℕ → ℕ
empty_cells E [] = 0
empty_cells E (w ∷ ws) = let n = empty_cells E ws in pick (eqb w E) (suc n) n

-- of each run: its last cell is one of the words, and its empty cells are those up to there
abbrev pub EmptyUpTo : ℕ → List ℕ → List Run → Type 0
EmptyUpTo E ws [] = Unit
EmptyUpTo E ws (x ∷ xs) = (x.last < length ws) × (x.empty ≡ empty_cells E (take (suc x.last) ws)) × EmptyUpTo E ws xs

cells-append : (E : ℕ) (xs ys : List ℕ) → empty_cells E (xs ++ ys) ≡ empty_cells E xs + empty_cells E ys
unfolding empty_cells
cells-append E [] ys = sym (zero-add (empty_cells E ys))
cells-append E (x ∷ xs) ys = let h = cells-append E xs ys in cases (eqb x E) (λ e. rw e (omega arith)) (λ e. rw e h)

cells_empties : (E : ℕ) (es : List ℕ) → Empties E es → empty_cells E es ≡ length es
unfolding empty_cells
cells_empties E [] h = refl
cells_empties E (x ∷ es) h = rw (eq-eqb x E h.0) (ap suc (cells_empties E es h.1))

cells_apart : (E : ℕ) (ss : List ℕ) → Apart E ss → empty_cells E ss ≡ 0
unfolding empty_cells
cells_apart E [] h = refl
cells_apart E (x ∷ ss) h = rw (ne_eqb x E h.0) (cells_apart E ss h.1)

over_same : (E : ℕ) {xs ys : List ℕ} (rs : List Run) → xs ≡ ys → EmptyUpTo E ys rs → EmptyUpTo E xs rs
over_same E rs p h = subst (λ (x : List ℕ). EmptyUpTo E x rs) (sym p) h

-- with the words `front` before
up_to : (E : ℕ) (front : List ℕ) {at v : ℕ} {ws : List ℕ} {rs : List Run} → length front ≡ at → empty_cells E front ≡ v
    → Stretches E at v ws rs → EmptyUpTo E (front ++ ws) rs
up_to E front p q (trailing ws e) = tt
up_to E front {at} {v} p q (run es ss rest e a n s t) =
    let all = front ++ es ++ ss in
    let w : front ++ (es ++ ss ++ rest) ≡ all ++ rest = simp append_assoc in
    let l : length all ≡ at + length es + length ss = simp length-append (omega arith) in
    let m : suc (at + length es + length ss - 1) ≡ at + length es + length ss = omega arith in
    let k : empty_cells E all ≡ v + length es = simp cells-append (omega (arith, cells_empties E es e, cells_apart E ss a)) in
    rw (w, m, take_at all rest (at + length es + length ss) l) (rw (length-append all rest) (omega arith), sym k, over_same E _ w (up_to E all l k t))

pub empty_up_to : (E : ℕ) (ws : List ℕ) → EmptyUpTo E ws (runs (stored E ws))
unfolding empty_cells
empty_up_to E ws = up_to E [] refl refl (runs_are_stretches E ws)
