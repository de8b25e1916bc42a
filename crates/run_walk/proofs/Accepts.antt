-- The check along runs, as the loop goes: it passes exactly for runs in strict order that end below cells and hold as many stored cells as there are words.
-- Assumes nothing.
use Rattle.std.proofs.Common.{◌≡◌, ℕ, zero, suc, ◌+◌, ◌-◌, ◌*◌, ◌≤◌, Bool, true, false, not, ◌||◌, eqb, ltb, leb, List, [], ◌∷◌, sym, refl, ap, ◌∙◌, zero-add, arith, ltb-false, ltb-true, le-ltb, lt-ltb, eq-eqb, ne_eqb, eqb-true, le-leb, leb-false, leb-true}
use borrow.Author.Tests.{eqb-false, not-true}
use Rattle.format.specs.Tools.{both}
use Rattle.format.specs.Runs.{Run}
use Rattle.laws.proofs.Tools.{cases, both_true, both_false, both_make}
use Rattle.laws.proofs.RunsBack.{least_empty, InOrder', last_end, last_empty}
use Rattle.wire.specs.declared.Pair.{Pair}
use Rattle.wire.specs.Wire.{field_pair}
use Rattle.rises.specs.Falls.{fallen, follows, pair_falls}
use Rattle.run_walk.proofs.Pairs.{unlike, pairs, pairs_cons, pairs_none}

-- the pair does not follow on: V is below the least, or no cell of the run is stored
unfoldable pub wrong : ℕ → ℕ → Run → Bool
wrong end v x = ltb x.empty (least_empty end + v) || ltb (x.last + v) (end + x.empty)

-- each pair follows on; at the end the last L + 1 is at most cells, and the last V with the words makes it up
unfoldable pub right_from : ℕ → ℕ → ℕ → ℕ → List Run → Bool
right_from cells words end v [] = both (leb end cells) (eqb end (v + words))
right_from cells words end v (x ∷ xs) = both (not (wrong end v x)) (right_from cells words (suc x.last) x.empty xs)

-- ---- what it says

either_false : (s t : Bool) → (s || t) ≡ false → (s ≡ false) × (t ≡ false)
either_false true t h = (h, absurd (unlike (sym h)))
either_false false t h = (refl, h)

pub record Right (C N end v : ℕ) (rs : List Run) : Type 0 where
  pub order : InOrder' end v rs
  pub cells : last_end end rs ≤ C
  pub words : last_end end rs ≡ last_empty v rs + N

pub right_true : (C N e v : ℕ) (rs : List Run) → right_from C N e v rs ≡ true → Right C N e v rs
unfolding right_from wrong
right_true C N e v [] h =
    let t = both_true (leb e C) (eqb e (v + N)) h in
    record { order = tt; cells = leb-true e C t.0; words = eqb-true e (v + N) t.1 }
right_true C N e v (x ∷ xs) h =
    let t = both_true (not (wrong e v x)) (right_from C N (suc x.last) x.empty xs) h in
    let w = either_false (ltb x.empty (least_empty e + v)) (ltb (x.last + v) (e + x.empty)) (not-true (wrong e v x) t.0) in
    let a = ltb-false x.empty (least_empty e + v) w.0 in
    let s = ltb-false (x.last + v) (e + x.empty) w.1 in
    let r = right_true C N (suc x.last) x.empty xs t.1 in
    record { order = (a, omega arith, r.order); cells = r.cells; words = r.words }

pub true_right : (C N e v : ℕ) (rs : List Run) → Right C N e v rs → right_from C N e v rs ≡ true
unfolding right_from wrong
true_right C N e v [] r = both_make (leb e C) (eqb e (v + N)) (le-leb e C r.cells) (eq-eqb e (v + N) r.words)
true_right C N e v (x ∷ xs) r =
    let a = r.order.0 in
    let s = r.order.1 in
    rw (le-ltb x.empty (least_empty e + v) a, le-ltb (x.last + v) (e + x.empty) (omega arith))
    (true_right C N (suc x.last) x.empty xs (record { order = r.order.2; cells = r.cells; words = r.words }))

-- ---- as the code tests it

-- past a run: the next pair is not wrong exactly where it follows
not_wrong : (x y : Pair) → not (wrong (suc x.first) x.second (record { last = y.first; empty = y.second })) ≡ follows x y
unfolding wrong follows
not_wrong x y =
    let l = x.first in
    let e = x.second in
    let m = y.first in
    let g = y.second in
    cases (ltb e g)
    (λ t.
    let k = ltb-true e g t in
    cases (ltb l m)
    (λ u.
    let h = ltb-true l m u in
    cases (ltb (m + e) (suc l + g))
    (λ w. let z = ltb-true (m + e) (suc l + g) w in rw (t, u, w, le-ltb g (1 + e) (omega arith), le-ltb (g - e) (m - l) (omega arith)))
    (λ w. let z = ltb-false (m + e) (suc l + g) w in rw (t, u, w, le-ltb g (1 + e) (omega arith), lt-ltb (g - e) (m - l) (omega arith))))
    (λ u. let h = ltb-false l m u in rw (u, le-ltb g (1 + e) (omega arith), lt-ltb (m + e) (suc l + g) (omega arith))))
    (λ t. let k = ltb-false e g t in rw (t, lt-ltb g (1 + e) (omega arith)) (sym (both_false (ltb l m))))

fallen_turn : (f t : Bool) (n : ℕ) → both f (both (eqb n 0) t) ≡ both (eqb (fallen f + n) 0) t
unfolding fallen
fallen_turn true t n = rw (zero-add n)
fallen_turn false t n = rw (ne_eqb (1 + n) 0 (λ e. omega arith))

-- at the last pair: it ends below cells, and its empty cells with the words make up its end
abbrev pub ends_by : ℕ → ℕ → Pair → Bool
ends_by C N y = both (leb (suc y.first) C) (eqb (suc y.first) (y.second + N))

after_next : (C N n at : ℕ) (b : List ℕ) → right_from C N (suc (field_pair at b).first) (field_pair at b).second (pairs (suc n) (at + 8) b)
    ≡ both (follows (field_pair at b) (field_pair (at + 8) b))
    (right_from C N (suc (field_pair (at + 8) b).first) (field_pair (at + 8) b).second (pairs n (at + 8 + 8) b))
unfolding right_from field_pair
after_next C N n at b =
    let r = right_from C N (suc (field_pair (at + 8) b).first) (field_pair (at + 8) b).second (pairs n (at + 8 + 8) b) in
    rw (pairs_cons n (at + 8) b) (ap (λ (t : Bool). both t r) (not_wrong (field_pair at b) (field_pair (at + 8) b)))

after : (C N n at : ℕ) (b : List ℕ) → right_from C N (suc (field_pair at b).first) (field_pair at b).second (pairs n (at + 8) b)
    ≡ both (eqb (pair_falls n at b) 0) (ends_by C N (field_pair (at + 8 * n) b))
unfolding right_from pair_falls
after C N zero at b =
    let z : at + 8 * 0 ≡ at = omega arith in
    rw (z, pairs_none (at + 8) b)
after C N (suc n) at b =
    let z : at + 8 * suc n ≡ at + 8 + 8 * n = omega arith in
    let f = follows (field_pair at b) (field_pair (at + 8) b) in
    rw z
    (after_next C N n at b ∙ ap (λ (t : Bool). both f t) (after C N n (at + 8) b)
    ∙ fallen_turn f (ends_by C N (field_pair (at + 8 + 8 * n) b)) (pair_falls n (at + 8) b))

pub right-none : (C N at : ℕ) (b : List ℕ) → right_from C N 0 0 (pairs 0 at b) ≡ eqb N 0
unfolding right_from
right-none C N at b =
    cases (eqb N 0) (λ t. rw (pairs_none at b, t, le-leb 0 C (omega arith)) (eq-eqb 0 (0 + N) (omega (arith, eqb-true N 0 t))))
    (λ t. rw (pairs_none at b, t, le-leb 0 C (omega arith)) (ne_eqb 0 (0 + N) (λ e. eqb-false N 0 t (omega (arith, e)))))

pub right-some : (C N n at : ℕ) (b : List ℕ) → right_from C N 0 0 (pairs (suc n) at b)
    ≡ both (leb (field_pair at b).second (field_pair at b).first) (both (eqb (pair_falls n at b) 0) (ends_by C N (field_pair (at + 8 * n) b)))
unfolding right_from wrong field_pair
right-some C N n at b =
    let l = (field_pair at b).first in
    let e = (field_pair at b).second in
    cases (leb e l)
    (λ t. rw (pairs_cons n at b, t, le-ltb e (least_empty 0 + 0) (omega arith), le-ltb (l + 0) (0 + e) (omega (arith, leb-true e l t))) (after C N n at b))
    (λ t. rw (pairs_cons n at b, t, le-ltb e (least_empty 0 + 0) (omega arith), lt-ltb (l + 0) (0 + e) (omega (arith, leb-false e l t))))
