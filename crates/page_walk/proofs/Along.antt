-- The walk along level 0 passes exactly good pairs, entry by entry and, as the code goes, page by page. Assumes nothing.
use Rattle.std.proofs.Common.{◌≡◌, ℕ, zero, suc, ◌+◌, ◌-◌, ◌*◌, ◌^◌, ◌<◌, ◌≤◌, Bool, true, false, ◌&&◌, eqb, ltb, leb, List, [], ◌∷◌, take, drop, sym, refl, ap, ◌∙◌, ap₂, add-zero, add_assoc, zero-add, arith, drop-drop, ltb-true, lt-ltb, eq-eqb, ne_eqb, eqb-true, le-leb, leb-true}
use Rattle.format.specs.declared.View.{View}
use Rattle.format.specs.Tools.{both}
use Rattle.format.specs.Bytes.{field}
use Rattle.format.specs.Runs.{Span}
use Rattle.format.specs.PagedRuns.{plus, less, sums_from, level, pairs_from, pairs_of}
use Rattle.laws.proofs.Tools.{both_true, both_make, both_false, and_three, and_four}
use Rattle.laws.proofs.Levels.{span_path}
use Rattle.laws.proofs.RunsBack.{least_empty}
use Rattle.wire.specs.declared.Pair.{Pair}
use Rattle.wire.specs.Wire.{field_pair}
use Rattle.rises.specs.Falls.{fallen, follows, pair_falls}
use Rattle.levels.specs.Levels.{span_of, entries}
use Rattle.levels.specs.Comparing.{Inside}
use Rattle.levels.proofs.Reading.{pairs_in, pairs_none, pairs_cons, entries_next}
use Rattle.levels.proofs.Bounded.{cells_of, empty_of}
use Rattle.page_walk.specs.declared.check.Pages.{Pages}
use Rattle.page_walk.specs.Passing.{pair_of, begins, ends_right, pages_right, runs_right, past_page}
use Rattle.page_walk.proofs.GoodPairs.{Good, good_moved}

-- ---- one entry, at the start of a page and within it

pub least-one : (n : ℕ) → 0 < n → least_empty n ≡ 1
least-one zero h = absurd (omega arith)
least-one (suc n) h = refl

begins_true : (y : Span) → begins y ≡ true → (0 < y.empty) × (y.empty < y.cells)
begins_true y h =
    let t = both_true (ltb 0 y.empty) _ h in
    (ltb-true 0 y.empty t.0, ltb-true y.empty y.cells t.1)

true_begins : (y : Span) → 0 < y.empty → y.empty < y.cells → begins y ≡ true
true_begins y h g = both_make (ltb 0 y.empty) (ltb y.empty y.cells) (lt-ltb 0 y.empty h) (lt-ltb y.empty y.cells g)

-- a pair that follows has more empty cells, and more of the others
follows_true : (a y : Span) → follows (pair_of a) (pair_of y) ≡ true
    → (a.cells < y.cells) × (a.empty < y.empty) × (y.empty - a.empty < y.cells - a.cells)
unfolding follows
follows_true a y h =
    let t = both_true (ltb a.cells y.cells) _ h in
    let u = both_true (ltb a.empty y.empty) _ t.1 in
    (ltb-true a.cells y.cells t.0, ltb-true a.empty y.empty u.0, ltb-true (y.empty - a.empty) (y.cells - a.cells) u.1)

true_follows : (a x : Span) → 0 < x.empty → x.empty < x.cells → follows (pair_of a) (pair_of (plus a x)) ≡ true
unfolding follows
true_follows a x h g =
    let y = plus a x in
    both_make (ltb a.cells y.cells) _ (lt-ltb a.cells y.cells (omega arith))
    (both_make (ltb a.empty y.empty) _ (lt-ltb a.empty y.empty (omega arith))
    (lt-ltb (y.empty - a.empty) (y.cells - a.cells) (omega arith)))

-- ---- good pairs are passed

pass_good : (C N b k c e : ℕ) (a : Span) (xs : List Span) → a.empty < a.cells → Good (c + a.cells) xs
    → pages_right C N b k c e a (sums_from b k a xs) ≡ ends_right C N (c + a.cells + cells_of xs) (e + a.empty + empty_of xs)
unfolding pages_right sums_from cells_of empty_of
pass_good C N b k c e a [] h g = rw (add-zero (c + a.cells), add-zero (e + a.empty))
pass_good C N b zero c e a (x ∷ xs) h g =
    let g0 = rw (least-one (c + a.cells) (omega arith)) at g.0 in
    rw (true_begins x g0 g.1)
    (pass_good C N b (b - 1) (c + a.cells) (e + a.empty) x xs g.1 g.2
    ∙ ap₂ (ends_right C N) (add_assoc (c + a.cells) x.cells (cells_of xs)) (add_assoc (e + a.empty) x.empty (empty_of xs)))
pass_good C N b (suc k) c e a (x ∷ xs) h g =
    let g0 = rw (least-one (c + a.cells) (omega arith)) at g.0 in
    let g1 = g.1 in
    rw (true_follows a x g0 g1)
    (pass_good C N b k c e (plus a x) xs (omega arith) (good_moved (c + a.cells + x.cells) (c + (a.cells + x.cells)) xs (omega arith) g.2)
    ∙ ap₂ (ends_right C N) (omega arith) (omega arith))

-- ---- what is passed are good pairs, with these entries

pub record Pairs (b k e : ℕ) (a : Span) (ys : List Span) : Type 0 where
  pub good : Good e (pairs_from b k a ys)
  pub sums : sums_from b k a (pairs_from b k a ys) ≡ ys

all-passed : (C N b k c e : ℕ) (a : Span) (ys : List Span) → a.empty < a.cells → pages_right C N b k c e a ys ≡ true → Pairs b k (c + a.cells) a ys
unfolding pages_right pairs_from sums_from
all-passed C N b k c e a [] l h = record { good = tt; sums = refl }
all-passed C N b zero c e a (y ∷ ys) l h =
    let t = both_true (begins y) _ h in
    let f = begins_true y t.0 in
    let i = all-passed C N b (b - 1) (c + a.cells) (e + a.empty) y ys f.1 t.1 in
    record { good = (rw (least-one (c + a.cells) (omega arith)) f.0, f.1, i.good); sums = rw i.sums }
all-passed C N b (suc k) c e a (y ∷ ys) l h =
    let t = both_true (follows (pair_of a) (pair_of y)) _ h in
    let f = follows_true a y t.0 in
    let f0 = f.0 in
    let f1 = f.1 in
    let f2 = f.2 in
    let i = all-passed C N b k c e y ys (omega arith) t.1 in
    let m = good_moved (c + y.cells) (c + a.cells + (y.cells - a.cells)) (pairs_from b k y ys) (omega arith) i.good in
    let p : plus a (less y a) ≡ y = span_path (omega arith) (omega arith) in
    let s = i.sums in
    record { good = (rw (least-one (c + a.cells) (omega arith)) (omega arith), f2, m); sums = rw (p, s) }

-- ---- level 0 as a whole

no_runs : (C N : ℕ) → eqb N 0 ≡ ends_right C N 0 0
no_runs C zero = rw (le-leb 0 C (omega arith))
no_runs C (suc n) = rw (le-leb 0 C (omega arith), ne_eqb (suc n) 0 (λ e. omega arith), ne_eqb 0 (0 + suc n) (λ e. omega arith))

pub passed_good : (b c w : ℕ) (xs : List Span) → Good 0 xs → runs_right b c w (level b xs) ≡ both (leb (cells_of xs) c) (eqb (cells_of xs) (empty_of xs + w))
unfolding runs_right level sums_from cells_of empty_of
passed_good b c w [] g = no_runs c w
passed_good b c w (x ∷ xs) g =
    let g1 = g.1 in
    rw (lt-ltb x.empty x.cells g1)
    (pass_good c w b (b - 1) 0 0 x xs g1 g.2 ∙ rw (zero-add x.cells, zero-add x.empty))

pub record LevelOf (b c w : ℕ) (ys : List Span) : Type 0 where
  pub good : Good 0 (pairs_of b ys)
  pub sums : level b (pairs_of b ys) ≡ ys
  pub cells : cells_of (pairs_of b ys) ≤ c
  pub words : cells_of (pairs_of b ys) ≡ empty_of (pairs_of b ys) + w

right_pairs : (b c w : ℕ) (ys : List Span) → runs_right b c w ys ≡ true → Good 0 (pairs_of b ys) × (level b (pairs_of b ys) ≡ ys)
unfolding runs_right level pairs_of pairs_from sums_from
right_pairs b c w [] h = (tt, refl)
right_pairs b c w (y ∷ ys) h =
    let t = both_true (ltb y.empty y.cells) _ h in
    let l = ltb-true y.empty y.cells t.0 in
    let i = all-passed c w b (b - 1) 0 0 y ys l t.1 in
    let s = i.sums in
    ((omega arith, l, i.good), rw s)

pub right-level : (b c w : ℕ) (ys : List Span) → runs_right b c w ys ≡ true → LevelOf b c w ys
right-level b c w ys h =
    let p = right_pairs b c w ys h in
    let s = p.1 in
    let e : both (leb (cells_of (pairs_of b ys)) c) (eqb (cells_of (pairs_of b ys)) (empty_of (pairs_of b ys) + w)) ≡ true
    = sym (passed_good b c w (pairs_of b ys) p.0) ∙ rw s h in
    let t = both_true (leb (cells_of (pairs_of b ys)) c) _ e in
    record {
      good = p.0;
      sums = s;
      cells = leb-true (cells_of (pairs_of b ys)) c t.0;
      words = eqb-true (cells_of (pairs_of b ys)) (empty_of (pairs_of b ys) + w) t.1;
    }

-- ---- page by page, as the code goes: all falls are counted, and those at the starts of pages

-- past a page, as code makes the tests
pub past_path : (s : Pages) (x y : Pair) (fall : ℕ) → fall ≡ fallen (follows x y)
    → ◌≡◌ {A = Pages}
    (record {
      falls = s.falls + fall;
      right = (s.right && ltb 0 y.second) && ltb y.second y.first;
      cells = s.cells + x.first;
      empty = s.empty + x.second;
    })
    (past_page s x y)
past_path s x y fall e =
    rw e
    (ap
    (λ (r : Bool). record { falls = s.falls + fallen (follows x y); right = r; cells = s.cells + x.first; empty = s.empty + x.second })
    (and_three s.right (ltb 0 y.second) (ltb y.second y.first)))

-- within a page: where an entry does not follow, a fall is left over
within_turn : (r t l : Bool) (all n p : ℕ) → n + (fallen t + p) ≤ all
    → both r (both (eqb all (n + (fallen t + p))) (both t l)) ≡ both r (both (eqb all (n + p)) l)
unfolding fallen
within_turn r true l all n p h = rw (zero-add p)
within_turn r false l all n p h = rw (ne_eqb all (n + p) (λ e. omega arith), both_false (eqb all (n + (1 + p))))

-- at the start of the next: the fall is counted
start_turn : (r t g l : Bool) (all n p : ℕ) → both r (both (eqb all (n + (fallen t + p))) (both g l)) ≡ both (both r g) (both (eqb all (n + fallen t + p)) l)
start_turn false t g l all n p = refl
start_turn true t true l all n p = rw (add_assoc n (fallen t) p)
start_turn true t false l all n p = both_false (eqb all (n + (fallen t + p)))

module _ (C N b : ℕ) (f : List ℕ) where
  pairs_next : (n at : ℕ) → pairs_in (suc n) (drop at f) ≡ span_of (field_pair at f) ∷ pairs_in n (drop (at + 8) f)
  unfolding field_pair field
  pairs_next n at = pairs_cons n (drop at f) ∙ rw (drop-drop 4 at f, drop-drop 8 at f)

  -- the entries behind the one at an offset, n of them and k in its page, give the whole; `all` falls are there
  pub record Left (whole : Bool) (all k n at : ℕ) (s : Pages) : Type 0 where
    pub rest : both s.right
        (both (eqb all (s.falls + pair_falls n at f)) (pages_right C N b k s.cells s.empty (span_of (field_pair at f)) (pairs_in n (drop (at + 8) f))))
        ≡ whole
    pub falls : s.falls + pair_falls n at f ≤ all

  module _ (whole : Bool) (all : ℕ) (s : Pages) where
    left-within : (k n at : ℕ) → Left whole all (suc k) (suc n) at s → Left whole all k n (at + 8) s
    unfolding pages_right pair_falls
    left-within k n at g =
        let h = g.falls in
        let r = rw (pairs_next n (at + 8)) at g.rest in
        record {
          rest = sym (within_turn s.right (follows (field_pair at f) (field_pair (at + 8) f)) _ all s.falls (pair_falls n (at + 8) f) h) ∙ r;
          falls = omega arith;
        }

    left_start : (n at : ℕ) → Left whole all 0 (suc n) at s → Left whole all (b - 1) n (at + 8) (past_page s (field_pair at f) (field_pair (at + 8) f))
    unfolding pages_right pair_falls
    left_start n at g =
        let h = g.falls in
        let r = rw (pairs_next n (at + 8)) at g.rest in
        record {
          rest = sym (start_turn s.right (follows (field_pair at f) (field_pair (at + 8) f)) _ _ all s.falls (pair_falls n (at + 8) f)) ∙ r;
          falls = omega arith;
        }

    left_on_lem : (m k n at : ℕ) → Left whole all (m + k) (m + n) at s → Left whole all k n (at + 8 * m) s
    left_on_lem zero k n at g =
        let z : at + 8 * 0 ≡ at = omega arith in
        rw z (rw (zero-add k, zero-add n) at g)
    left_on_lem (suc m) k n at g =
        let p : suc m + k ≡ suc (m + k) = omega arith in
        let q : suc m + n ≡ suc (m + n) = omega arith in
        let z : at + 8 * suc m ≡ at + 8 + 8 * m = omega arith in
        rw z (left_on_lem m k n (at + 8) (left-within (m + k) (m + n) at (rw (p, q) at g)))

  -- ---- the loop over the pages

  pub record Going (whole : Bool) (all end at left : ℕ) (s : Pages) : Type 0 where
    pub rest : Left whole all (b - 1) (left - 1) at s
    pub some : 0 < left
    pub page : 0 < b
    pub few : all ≤ 16777216
    pub place : at + 8 * left ≡ end
    pub cells : s.cells + left * 2 ^ 32 ≤ 16777216 * 2 ^ 32
    pub empty : s.empty + left * 2 ^ 32 ≤ 16777216 * 2 ^ 32

  module _ (whole : Bool) (all end at left : ℕ) (s : Pages) (g : Going whole all end at left s) where
    pub going_on : (x y : Pair) → b < left → x ≡ field_pair (at + 8 * b - 8) f → y ≡ field_pair (at + 8 * b) f
        → x.first < 2 ^ 32 → x.second < 2 ^ 32
        → Going whole all end (at + 8 * b) (left - b) (past_page s x y)
    going_on x y l ex ey cx cy =
        let i : left - 1 ≡ b - 1 + suc (left - b - 1) = omega arith in
        let j : b - 1 ≡ b - 1 + 0 = omega arith in
        let p : at + 8 * (b - 1) ≡ at + 8 * b - 8 = omega arith in
        let q : at + 8 * (b - 1) + 8 ≡ at + 8 * b = omega arith in
        let t = left_start whole all s (left - b - 1) (at + 8 * (b - 1)) (left_on_lem whole all s (b - 1) 0 (suc (left - b - 1)) at (rw (← i, ← j) g.rest)) in
        record {
          rest = rw (q, p, ← ex, ← ey) at t;
          some = omega arith;
          page = g.page;
          few = g.few;
          place = omega arith;
          cells = omega arith;
          empty = omega arith;
        }

    pub going_done : (x : Pair) → left ≤ b → x ≡ field_pair (at + 8 * (left - 1)) f
        → ((s.right && eqb all s.falls) && leb (s.cells + x.first) C) && eqb (s.cells + x.first) (s.empty + x.second + N) ≡ whole
    unfolding pages_right pair_falls
    going_done x l e =
        let c = s.cells + x.first in
        let i : left - 1 ≡ left - 1 + 0 = omega arith in
        let j : b - 1 ≡ left - 1 + (b - left) = omega arith in
        let t = left_on_lem whole all s (left - 1) (b - left) 0 at (rw (← i, ← j) g.rest) in
        and_four s.right (eqb all s.falls) (leb c C) (eqb c (s.empty + x.second + N))
        ∙ rw (pairs_none (drop (at + 8 * (left - 1) + 8) f), add-zero s.falls, ← e) at t.rest

-- ---- the loop's beginning

abbrev pub level_right : List ℕ → View → Bool
level_right f v = runs_right v.step v.cells v.words (take v.seconds (drop v.firsts (entries v.start f)))

module _ (f : List ℕ) (v : View) (i : Inside f v) where
  read : take v.seconds (drop v.firsts (entries v.start f)) ≡ pairs_in v.seconds (drop v.second f)
  read = let l = i.long in rw i.second (entries_next v.start f v.firsts v.seconds (omega arith))

  pub going_none : v.seconds ≡ 0 → eqb v.words 0 ≡ level_right f v
  unfolding runs_right
  going_none z = rw (read, z, pairs_none (drop v.second f))

  pub going_first : (x : Pair) (all : ℕ) → 0 < v.seconds → x ≡ field_pair v.second f
      → all ≡ pair_falls (v.seconds - 1) v.second f → all ≤ v.seconds - 1
      → Going v.cells v.words v.step f (level_right f v) all (v.second + 8 * v.seconds) v.second v.seconds
      (record { falls = 0; right = ltb x.second x.first; cells = 0; empty = 0 })
  unfolding runs_right
  going_first x all h e g k =
      let m = i.seconds in
      let n : v.seconds ≡ suc (v.seconds - 1) = omega arith in
      let l = read ∙ ap (λ (k : ℕ). pairs_in k (drop v.second f)) n ∙ pairs_next 0 0 0 f (v.seconds - 1) v.second in
      let t = eq-eqb all (0 + pair_falls (v.seconds - 1) v.second f) (omega arith) in
      record {
        rest = record { rest = rw (e, t, l); falls = omega arith };
        some = h;
        page = omega (arith, i.low);
        few = omega arith;
        place = refl;
        cells = omega arith;
        empty = omega arith;
      }
