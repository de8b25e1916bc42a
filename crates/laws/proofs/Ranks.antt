-- The rank lookups of kinds 1 and 5, and the position lookup along runs, give those of the picture. Assumes nothing.
use Prim.Native.Nat.{ℕ, zero, suc, ◌+◌, ◌-◌, ◌≤◌, ◌<◌}
use mathlib.Core.Path.{◌≡◌, refl, sym, ap, ◌∙◌}
use mathlib.Core.Bool.{Bool, true, false}
use mathlib.Core.List.{List, [], ◌∷◌}
use native.Mathlib.Nat.{le_refl, sub-zero, sub-add-eq}
use native.Mathlib.Omega.{arith}
use lib.ListN.{length, get_or}
use lib.Dec.{eqb, leb, ltb}
use borrow.Author.Tests.{eqb-true, leb-true, leb-false, ltb-true, ltb-false, lt-ltb, le-ltb}
use Rattle.format.specs.Tools.{pick, first}
use Rattle.format.specs.Signals.{BEYOND}
use Rattle.format.specs.Stored.{stored, rank_at}
use Rattle.format.specs.Runs.{Run, Span, run_at, runs_from, runs, spans_from, spans, run_rank_from, run_rank, run_position}
use Rattle.format.specs.PagedRuns.{plus, none, all_cells, stored_cells, position_at_place, rank_at_place, descent}
use Rattle.format.specs.Answers.{empty, given, refused, values_of}
use Rattle.format.specs.Lookups.{rank_in, position_in}
use Rattle.laws.proofs.Stored.{Rising, rising}
use Rattle.laws.proofs.Search.{rank_among, seek_from, Proper, along, among_head, among_later, rank-among, position_among, along-position}
use Rattle.laws.proofs.Tools.{cases}
use Rattle.laws.proofs.Positions.{rising-at, runs-back}
use Rattle.laws.proofs.Descent.{descent_finds, cells_add, stored_add}

-- runs in order: each ends past the one before, with no fewer empty cells, and has a stored cell
abbrev pub InOrder : ℕ → ℕ → List Run → Type 0
InOrder end v [] = Unit
InOrder end v (x ∷ xs) = (v ≤ x.empty) × (end + (x.empty - v) ≤ x.last) × InOrder (suc x.last) x.empty xs

in_order_from : (e v p r s B : ℕ) (ls : List ℕ) → e ≤ s → s ≤ p → p + e ≡ r + v + s → Rising (suc p) B ls → InOrder e v (runs_from p r ls)
unfolding runs_from run_at
in_order_from e v p r s B [] h k q o = (omega arith, omega arith, tt)
in_order_from e v p r s B (l ∷ ls) h k q o =
    cases (eqb l (suc p))
    (λ t. let m : l ≡ suc p = eqb-true l (suc p) t in rw t (in_order_from e v l (suc r) s B ls h (omega arith) (omega arith) o.2))
    (λ t. rw t (omega arith, omega arith, in_order_from (suc p) (p - r) l (suc r) l B ls o.0 (le_refl l) (omega arith) o.2))

pub in_order : (a B : ℕ) (ls : List ℕ) → Rising a B ls → InOrder 0 0 (runs ls)
unfolding runs
in_order a B [] o = tt
in_order a B (l ∷ ls) o = in_order_from 0 0 l 0 l B ls (omega arith) (le_refl l) (omega arith) o.2

-- ---- over any list of runs in order

pub proper_spans : (e v : ℕ) (xs : List Run) → InOrder e v xs → Proper (spans_from e v xs)
unfolding spans_from
proper_spans e v [] o = tt
proper_spans e v (x ∷ xs) o = let o0 = o.0 in let o1 = o.1 in (omega arith, proper_spans (suc x.last) x.empty xs o.2)

-- Arithmetic of one run: e and v are those of `runRankFrom`, l and y the run's pair.
module _ (e v l y : ℕ) (g : v ≤ e) (k : v ≤ y) (o : e + (y - v) ≤ l) where
  rest_of : (p : ℕ) → l < p → p - e - (suc l - e) ≡ p - suc l
  rest_of p h = omega arith

  below_end : y ≤ suc l
  below_end = omega arith

  end_of : (c : ℕ) → c ≡ e → c + (suc l - e) ≡ suc l
  end_of c h = omega arith

  empty_of : (m : ℕ) → m ≡ v → m + (y - v) ≡ y
  empty_of m h = omega arith

rank_of : (e v y p : ℕ) → v ≤ y → v ≤ e → e + (y - v) ≤ p → e - v + (p - e - (y - v)) ≡ p - y
rank_of e v y p k g h = omega arith

in_run : (e v y p : ℕ) (a : Span) → e ≤ p → v ≤ y → v ≤ e → a.cells ≡ e → a.empty ≡ v
    → pick (ltb (p - e) (y - v)) (empty (a.cells - a.empty)) (given (a.cells - a.empty + (p - e - (y - v))))
    ≡ pick (leb (e + (y - v)) p) (given (p - y)) (empty (e - v))
in_run e v y p a h k g c d =
    cases (leb (e + (y - v)) p)
    (λ t.
    let z = leb-true (e + (y - v)) p t in
    let u : y - v ≤ p - e = omega arith in
    rw (t, le-ltb (p - e) (y - v) u, c, d, rank_of e v y p k g z))
    (λ t.
    let z = leb-false (e + (y - v)) p t in
    let u : p - e < y - v = omega arith in
    rw (t, lt-ltb (p - e) (y - v) u, c, d))

-- kind 1's rule is the walk along the length pairs
pub run-rank : (e v p i : ℕ) (a : Span) (xs : List Run) → InOrder e v xs → e ≤ p → v ≤ e → a.cells ≡ e → a.empty ≡ v
    → rank_at_place (seek_from all_cells i (p - e) a (spans_from e v xs)) ≡ run_rank_from e v p xs
unfolding spans_from seek_from run_rank_from
run-rank e v p i a [] o h g c d = rw (c, d)
run-rank e v p i a (x ∷ xs) o h g c d =
    cases (leb p x.last)
    (λ t.
    let k = leb-true p x.last t in
    let u : p - e < suc x.last - e = omega arith in
    rw (t, lt-ltb (p - e) (suc x.last - e) u) (in_run e v x.empty p a h o.0 g c d))
    (λ t.
    let k = leb-false p x.last t in
    let u : suc x.last - e ≤ p - e = omega arith in
    rw (t, le-ltb (p - e) (suc x.last - e) u, rest_of e v x.last x.empty g o.0 o.1 p k)
    (run-rank (suc x.last) x.empty p (suc i) (plus a (record { cells = suc x.last - e; empty = x.empty - v })) xs o.2 k
    (below_end e v x.last x.empty g o.0 o.1) (end_of e v x.last x.empty g o.0 o.1 a.cells c)
    (empty_of e v x.last x.empty g o.0 o.1 a.empty d)))

-- ---- of a picture

rank-along : (E p : ℕ) (ws : List ℕ) → p < length ws → rank_in E ws p ≡ rank_at_place (seek_from all_cells 0 (p - 0) none (spans_from 0 0 (runs (stored E ws))))
unfolding spans
rank-along E p ws h =
    let r = rising E ws in
    let o = in_order 0 (length ws) (stored E ws) r in
    rank-among E p ws h
    ∙ ap (rank_among p 0) (sym (runs-back 0 (length ws) (stored E ws) r))
    ∙ along 0 p 0 none (spans_from 0 0 (runs (stored E ws))) (omega arith) (omega arith) (proper_spans 0 0 (runs (stored E ws)) o)

rank_seek : (E p : ℕ) (ws : List ℕ) → p < length ws → rank_in E ws p ≡ rank_at_place (seek_from all_cells 0 p none (spans (runs (stored E ws))))
unfolding spans
rank_seek E p ws h = rank-along E p ws h ∙ ap (λ (q : ℕ). rank_at_place (seek_from all_cells 0 q none (spans_from 0 0 (runs (stored E ws))))) (sub-zero p)

proper : (E : ℕ) (ws : List ℕ) → Proper (spans (runs (stored E ws)))
unfolding spans
proper E ws = proper_spans 0 0 (runs (stored E ws)) (in_order 0 (length ws) (stored E ws) (rising E ws))

pub kind_1-rank : (E p : ℕ) (ws : List ℕ) → p < length ws → rank_in E ws p ≡ run_rank (runs (stored E ws)) p
unfolding run_rank
kind_1-rank E p ws h =
    rank-along E p ws h ∙ run-rank 0 0 p 0 none (runs (stored E ws)) (in_order 0 (length ws) (stored E ws) (rising E ws)) (omega arith) (omega arith) refl refl

pub kind_5-rank : (E b p : ℕ) (ws : List ℕ) → 2 ≤ b → p < length ws → rank_in E ws p ≡ rank_at_place (descent all_cells b (spans (runs (stored E ws))) p)
kind_5-rank E b p ws g h = rank_seek E p ws h ∙ ap rank_at_place (sym (descent_finds all_cells cells_add refl b p (spans (runs (stored E ws))) g (proper E ws)))

-- ---- the position of a rank

-- Arithmetic of one run, as above.
ranks-sum : (e v l y : ℕ) → v ≤ e → v ≤ y → e + (y - v) ≤ l → e - v + (suc l - e - (y - v)) ≡ suc l - y
ranks-sum e v l y g k o = omega arith

module _ (e v l y r : ℕ) (g : v ≤ e) (k : v ≤ y) (o : e + (y - v) ≤ l) (h : e - v ≤ r) where
  in_ranks : r < suc l - y → r - (e - v) < suc l - e - (y - v)
  in_ranks t = omega arith

  past-ranks : suc l - y ≤ r → suc l - e - (y - v) ≤ r - (e - v)
  past-ranks t = omega arith

  place_of : r < suc l - y → e + (y - v) + (r - (e - v)) ≡ r + y
  place_of t = omega arith

  ranks-left : r - (e - v) - (suc l - e - (y - v)) ≡ r - (suc l - y)
  ranks-left =
      let s : e - v + (suc l - e - (y - v)) ≡ suc l - y = ranks-sum e v l y g k o in
      sym (sub-add-eq r (e - v) (suc l - e - (y - v))) ∙ ap (λ (z : ℕ). r - z) s

pub run-position : (e v r i : ℕ) (a : Span) (xs : List Run) → InOrder e v xs → v ≤ e → e - v ≤ r → a.cells ≡ e
    → position_at_place (seek_from stored_cells i (r - (e - v)) a (spans_from e v xs)) ≡ run_position xs r
unfolding spans_from seek_from run_position
run-position e v r i a [] o g h c = refl
run-position e v r i a (x ∷ xs) o g h c =
    cases (ltb r (suc x.last - x.empty))
    (λ t.
    let u = ltb-true r (suc x.last - x.empty) t in
    rw (
      t,
      lt-ltb (r - (e - v)) (suc x.last - e - (x.empty - v)) (in_ranks e v x.last x.empty r g o.0 o.1 h u),
      c,
      place_of e v x.last x.empty r g o.0 o.1 h u,
    ))
    (λ t.
    let u = ltb-false r (suc x.last - x.empty) t in
    rw (
      t,
      le-ltb (r - (e - v)) (suc x.last - e - (x.empty - v)) (past-ranks e v x.last x.empty r g o.0 o.1 h u),
      ranks-left e v x.last x.empty r g o.0 o.1 h,
    )
    (run-position (suc x.last) x.empty r (suc i) (plus a (record { cells = suc x.last - e; empty = x.empty - v })) xs o.2
    (below_end e v x.last x.empty g o.0 o.1) u (end_of e v x.last x.empty g o.0 o.1 a.cells c)))

position_seek : (E r : ℕ) (ws : List ℕ) → position_in E ws r ≡ position_at_place (seek_from stored_cells 0 r none (spans (runs (stored E ws))))
unfolding position_in position_among
position_seek E r ws =
    ap (position_among r) (sym (runs-back 0 (length ws) (stored E ws) (rising E ws))) ∙ along-position r 0 none (spans (runs (stored E ws)))

pub kind_1-position : (E r : ℕ) (ws : List ℕ) → position_in E ws r ≡ run_position (runs (stored E ws)) r
unfolding spans
kind_1-position E r ws =
    position_seek E r ws
    ∙ ap (λ (q : ℕ). position_at_place (seek_from stored_cells 0 q none (spans_from 0 0 (runs (stored E ws))))) (sym (sub-zero r))
    ∙ run-position 0 0 r 0 none (runs (stored E ws)) (in_order 0 (length ws) (stored E ws) (rising E ws)) (omega arith) (omega arith) refl

pub kind_5-position : (E b r : ℕ) (ws : List ℕ) → 2 ≤ b → position_in E ws r ≡ position_at_place (descent stored_cells b (spans (runs (stored E ws))) r)
kind_5-position E b r ws g =
    position_seek E r ws ∙ ap position_at_place (sym (descent_finds stored_cells stored_add refl b r (spans (runs (stored E ws))) g (proper E ws)))

-- ---- what kinds 1 and 5 share, over any list of runs in order

pub rank_shared : (b p : ℕ) (xs : List Run) → 2 ≤ b → InOrder 0 0 xs → rank_at_place (descent all_cells b (spans xs) p) ≡ run_rank xs p
unfolding spans run_rank
rank_shared b p xs g o =
    ap rank_at_place (descent_finds all_cells cells_add refl b p (spans_from 0 0 xs) g (proper_spans 0 0 xs o))
    ∙ ap (λ (q : ℕ). rank_at_place (seek_from all_cells 0 q none (spans_from 0 0 xs))) (sym (sub-zero p))
    ∙ run-rank 0 0 p 0 none xs o (omega arith) (omega arith) refl refl

pub position_shared : (b r : ℕ) (xs : List Run) → 2 ≤ b → InOrder 0 0 xs → position_at_place (descent stored_cells b (spans xs) r) ≡ run_position xs r
unfolding spans
position_shared b r xs g o =
    ap position_at_place (descent_finds stored_cells stored_add refl b r (spans_from 0 0 xs) g (proper_spans 0 0 xs o))
    ∙ ap (λ (q : ℕ). position_at_place (seek_from stored_cells 0 q none (spans_from 0 0 xs))) (sym (sub-zero r))
    ∙ run-position 0 0 r 0 none xs o (omega arith) (omega arith) refl

-- ---- L(r) is the position of rank r

among-at : (r k a B : ℕ) (ls : List ℕ) → Rising a B ls → r < length ls → rank_among (get_or ls r 0) k ls ≡ given (k + r)
among-at r k a B [] o h = absurd (omega arith)
among-at zero k a B (l ∷ ls) o h = among_head l k ls ∙ ap given (omega arith)
among-at (suc r) k a B (l ∷ ls) o h =
    let i = rising-at (suc l) B ls r o.2 (omega arith) in
    let ih = among-at r (suc k) (suc l) B ls o.2 (omega arith) in
    among_later (get_or ls r 0) k l ls (omega arith) ∙ ih ∙ ap given (omega arith)

pub rank-at : (E r : ℕ) (ws : List ℕ) → r < length (stored E ws) → rank_in E ws (get_or (stored E ws) r 0) ≡ given r
rank-at E r ws h =
    let o = rising E ws in
    let k : get_or (stored E ws) r 0 < length ws = below_get_or_at r 0 (length ws) (stored E ws) o h in
    rank-among E (get_or (stored E ws) r 0) ws k ∙ among-at r 0 0 (length ws) (stored E ws) o h ∙ ap given (omega arith)
  where
    below_get_or_at : (r a B : ℕ) (ls : List ℕ) → Rising a B ls → r < length ls → get_or ls r 0 < B
    below_get_or_at r a B [] o h = absurd (omega arith)
    below_get_or_at zero a B (l ∷ ls) o h = o.1
    below_get_or_at (suc r) a B (l ∷ ls) o h = below_get_or_at r (suc l) B ls o.2 (omega arith)

-- and as many stored cells stand before it
pub rank-counts : (E r : ℕ) (ws : List ℕ) → r < length (stored E ws) → rank_at E ws (get_or (stored E ws) r 0) ≡ r
unfolding rank_in
rank-counts E r ws h = counted (ltb p (length ws)) (eqb (get_or ws p 0) E) (ap values_of (rank-at E r ws h))
  where
    p : ℕ
    p = get_or (stored E ws) r 0

    counted : (s t : Bool) → values_of (pick s (pick t (empty (rank_at E ws p)) (given (rank_at E ws p))) (refused BEYOND)) ≡ r ∷ [] → rank_at E ws p ≡ r
    counted true true e = ap first e
    counted true false e = ap first e
    counted false t e = absurd (omega (arith, ap length e))
