-- Kind 5: along the entries of level 0. What stands ahead of the cursor, that each step keeps it, and the walk. Assumes nothing.
use Rattle.std.proofs.Common.{◌≡◌, ℕ, suc, ◌+◌, ◌-◌, ◌*◌, ◌^◌, ◌<◌, ◌≤◌, ltb, List, [], ◌∷◌, length, refl, ap, ◌∙◌, arith, ltb-false, ltb-true, le-ltb, lt-ltb}
use Rattle.format.specs.declared.View.{View}
use Rattle.format.specs.Tools.{Below}
use Rattle.format.specs.Runs.{Span, runs, spans}
use Rattle.format.specs.PagedRuns.{none, plus, sums_from, level, flat_spans, paged_parts, pages_kind}
use Rattle.laws.proofs.Tools.{cases}
use Rattle.laws.proofs.Bounds.{below-level}
use Rattle.laws.proofs.Levels.{none-plus}
use Rattle.laws.proofs.Stored.{Rising}
use Rattle.wire.specs.declared.Pair.{Pair}
use Rattle.wire.specs.Wire.{pair_at, add32}
use Rattle.parts.specs.declared.Cursor.{Cursor}
use Rattle.parts.specs.Cursor.{along_run, before}
use Rattle.parts.specs.Holds.{Holds}
use Rattle.parts.specs.Walks.{Walks, GoesAlong, StepsAlong}
use Rattle.parts.proofs.Entries.{Entries, first-pair, rest_pairs, all-entries}
use Rattle.parts.proofs.Steps.{add32-small, add32-back, upper, kept-walk}
use Rattle.parts.proofs.RunWalk.{Fit, Along, along-run, none_left, enter_run, all_fit, all-along}
use Rattle.page_walk.specs.Steps.{page_of, entered_by, entered, next_in, next}
use Rattle.page_walk.proofs.Allowed.{page-step}
use Rattle.page_walk.proofs.GoodPairs.{Good, good_runs}

pub in_along : (b : List ℕ) (second step : ℕ) → GoesAlong (next_in b second step)
unfolding next_in
in_along b second step c h = rw (lt-ltb _ _ h)

pub next-along : StepsAlong next
unfolding next
next-along b v = in_along b v.second v.step

pub page-next : (step : ℕ) (c : Cursor) → (page_of step c).next ≡ c.next
unfolding page_of
page-next step c = cases (ltb c.used step) (λ t. rw t) (λ t. rw t)

-- where the run ends, with the next entry x
pub next-entered : (b : List ℕ) (v : View) (c p : Cursor) (x : Pair) → c.last ≤ c.at → p ≡ page_of v.step c → x ≡ pair_at (v.second + 8 * p.next) b
    → entered_by x p ≡ next b v c
unfolding next next_in entered
next-entered b v c p x h e f = rw (le-ltb c.at c.last h, f, e)

-- the entry that was read last, of the run that ends before e
pub record Read (b : List ℕ) (w : View) (c : Cursor) (e : ℕ) (a : Span) : Type 0 where
  pub some : 1 ≤ c.next
  pub cell : 1 ≤ e
  pub pair : pair_at (w.second + 8 * (c.next - 1)) b ≡ record { first = a.cells; second = a.empty }

-- a is the sum of the page's pairs so far, and base and empty say what stands before the page, while entries of the page are left
pub record Ahead (b : List ℕ) (w : View) (B : ℕ) (c : Cursor) (ls : List ℕ) : Type 0 where
  pub e : ℕ
  pub v : ℕ
  pub xs : List Span
  pub a : Span
  pub fit : Fit B e xs
  pub good : Good e xs
  pub along : Along B c e v xs ls
  pub at-fits : c.at < 2 ^ 32
  pub base-fits : c.base < 2 ^ 32
  pub cells : c.used < w.step → add32 c.base 1 + a.cells ≡ e
  pub empty : c.used < w.step → c.empty + a.empty ≡ v
  pub read : c.used < w.step → Read b w c e a
  pub count : c.next + length xs ≡ w.seconds
  pub entries : Entries b 4 w.second (2 * c.next) (flat_spans (sums_from w.step (w.step - c.used) a xs))

module _ (b : List ℕ) (w : View) (B : ℕ) (small : B < 2 ^ 32) (c : Cursor) (p : ℕ) (ls : List ℕ) (e v : ℕ) where
  -- The next entry, of the pair x, in the page of q; a is the sum of the page's pairs before it.
  enter_entry : (q : Cursor) (a x : Span) (xs : List Span) → c.last ≤ c.at → Fit B e (x ∷ xs) → Good e (x ∷ xs) → Along B c e v (x ∷ xs) (p ∷ ls)
      → q.rank ≡ c.rank → q.next ≡ c.next → q.base < 2 ^ 32 → add32 q.base 1 + a.cells ≡ e → q.empty + a.empty ≡ v → c.next + length (x ∷ xs) ≡ w.seconds
      → Entries b 4 w.second (2 * q.next) (flat_spans (plus a x ∷ sums_from w.step (w.step - q.used) (plus a x) xs))
      → ((entered b w.second q).at ≡ p) × Ahead b w B (entered b w.second q) ls
  unfolding entered entered_by flat_spans
  enter_entry q a x xs h f g o qr qn qb qc qe n es =
      let f0 = f.0 in
      let f1 = f.1 in
      let l = o.next_low in
      let r : upper c + v ≡ e = let r = o.run in omega arith in
      let ru : add32 q.rank 1 ≡ upper c = ap (λ (i : ℕ). add32 i 1) qr in
      let t : pair_at (w.second + 8 * q.next) b ≡ record { first = a.cells + x.cells; second = a.empty + x.empty }
      = first-pair b w.second q.next (a.cells + x.cells) (a.empty + x.empty) _ es in
      let m : add32 q.next 1 ≡ suc c.next = rw qn (add32-small c.next 1 (omega arith) ∙ omega arith) in
      let s : add32 q.empty (a.empty + x.empty) ≡ v + x.empty = add32-small q.empty (a.empty + x.empty) (omega arith) ∙ omega arith in
      let z : add32 (upper c) (v + x.empty) ≡ e + x.empty = add32-small (upper c) (v + x.empty) (omega arith) ∙ omega arith in
      let k : add32 q.base (a.cells + x.cells) ≡ e + x.cells - 1
      = add32-back q.base (a.cells + x.cells) (add32 q.base 1) qb refl (omega arith) (omega arith) ∙ omega arith in
      let y = enter_run B small c e v x xs p ls h f o (entered b w.second q) ru (rw (t, ru, s) z) (rw t k) m in
      let at : (entered b w.second q).at ≡ e + x.empty = rw (t, ru, s) z in
      let i : suc c.next - 1 ≡ q.next = omega arith in (
        y.0,
        record {
          e = e + x.cells;
          v = v + x.empty;
          xs = xs;
          a = plus a x;
          fit = f.2;
          good = g.2;
          along = y.1;
          at-fits = rw at (omega arith);
          base-fits = qb;
          cells = λ z. omega arith;
          empty = λ z. omega arith;
          read = λ z. record { some = rw m (omega arith); cell = omega arith; pair = rw (m, i) t };
          count = rw m (omega arith);
          entries = rw (m, ← qn) (rest_pairs b w.second q.next (a.cells + x.cells) (a.empty + x.empty) _ es);
        },
      )

  -- where the run ends: the next entry of the page, or the first of the next page
  next_entry : (xs : List Span) (a : Span) → c.last ≤ c.at → Fit B e xs → Good e xs → Along B c e v xs (p ∷ ls) → c.at < 2 ^ 32 → c.base < 2 ^ 32
      → (c.used < w.step → add32 c.base 1 + a.cells ≡ e) → (c.used < w.step → c.empty + a.empty ≡ v)
      → c.next + length xs ≡ w.seconds → Entries b 4 w.second (2 * c.next) (flat_spans (sums_from w.step (w.step - c.used) a xs))
      → ((entered b w.second (page_of w.step c)).at ≡ p) × Ahead b w B (entered b w.second (page_of w.step c)) ls
  unfolding page_of sums_from
  next_entry [] a h f g o fa fb uc ue m es = absurd (none_left B small c e v p ls h o)
  next_entry (x ∷ xs) a h f g o fa fb uc ue m es =
      cases (ltb c.used w.step)
      (λ t.
      let u = ltb-true c.used w.step t in
      let k : w.step - c.used ≡ suc (w.step - (c.used + 1)) = omega arith in
      rw t (enter_entry _ a x xs h f g o refl refl fb (uc u) (ue u) m (rw k at es)))
      (λ t.
      let u = ltb-false c.used w.step t in
      let k : w.step - c.used ≡ 0 = omega arith in
      let n : upper c + v ≡ e = let n = o.run in omega arith in
      let ce : add32 c.at 1 + 0 ≡ e = let hr = o.here in omega arith in
      let em : c.at - c.rank + 0 ≡ v = let oe = o.empties in omega arith in
      rw t (enter_entry _ none x xs h f g o refl refl fa ce em m (rw (none-plus x) (rw k at es))))

pub turn : (b : List ℕ) (w : View) (B : ℕ) → B < 2 ^ 32 → (c : Cursor) (p : ℕ) (ls : List ℕ) → Ahead b w B c (p ∷ ls)
    → ((next b w c).at ≡ p) × Ahead b w B (next b w c) ls
unfolding next next_in
turn b w B small c p ls a =
    cases (ltb c.at c.last)
    (λ t.
    let h = ltb-true c.at c.last t in
    let y = along-run B small c a.e a.v a.xs p ls h a.along in
    rw t (y.0, kept h y.1))
    (λ t.
    let h = ltb-false c.at c.last t in
    rw t (next_entry b w B small c p ls a.e a.v a.xs a.a h a.fit a.good a.along a.at-fits a.base-fits a.cells a.empty a.count a.entries))
  where
    kept : c.at < c.last → Along B (along_run c) a.e a.v a.xs ls → Ahead b w B (along_run c) ls
    kept h y =
        let f = a.along.last_fits in
        unfold along_run in
        record {
          e = a.e;
          v = a.v;
          xs = a.xs;
          a = a.a;
          fit = a.fit;
          good = a.good;
          along = y;
          at-fits = omega arith;
          base-fits = a.base-fits;
          cells = a.cells;
          empty = a.empty;
          read = λ z. let r = a.read z in record { some = r.some; cell = r.cell; pair = r.pair };
          count = a.count;
          entries = a.entries;
        }

-- before rank 0 all stand ahead
begin : (b : List ℕ) (w : View) (B : ℕ) (ls : List ℕ) → Rising 0 B ls → w.step ≤ 64 → length (spans (runs ls)) ≡ w.seconds
    → Entries b 4 w.second 0 (flat_spans (level w.step (spans (runs ls)))) → Ahead b w B before ls
unfolding level
begin b w B ls rising h n es =
    let k : w.step - 4294967295 ≡ 0 = omega arith in
    record {
      e = 0;
      v = 0;
      xs = spans (runs ls);
      a = none;
      fit = all_fit B ls rising;
      good = good_runs B ls rising;
      along = all-along B ls rising;
      at-fits = omega arith;
      base-fits = omega arith;
      cells = λ z. absurd (omega arith);
      empty = λ z. absurd (omega arith);
      read = λ z. absurd (omega arith);
      count = omega arith;
      entries = rw k es;
    }

pub held_ahead : (b : List ℕ) (v : View) (ls : List ℕ) → Holds (pages_kind v.width v.step) b v ls → Ahead b v v.cells before ls
unfolding pages_kind paged_parts
held_ahead b v ls h =
    let c = h.counted in
    let m = c.cells-most in
    let i = c.inside in
    let u = (page-step v.width v.step c.allowed).1 in
    let xs = flat_spans (level v.step (spans (runs ls))) in
    let g : Below (256 ^ 4) xs = below-level v.step 0 v.cells (256 ^ 4) ls (omega arith) h.rising in
    begin b v v.cells ls h.rising u h.second-count (all-entries b 4 v.second (8 * v.seconds) xs (omega arith) g h.second)

pub walks : Walks pages_kind next
walks =
    record {
      rank = λ b v c.
          unfold next next_in along_run entered entered_by page_of in
          cases (ltb c.at c.last)
          (λ t. rw t)
          (λ t. rw t (cases (ltb c.used v.step) (λ u. rw u) (λ u. rw u)));
      walk = λ b v ls h.
          let m = h.counted.cells-most in
          kept-walk (next b v) (Ahead b v v.cells) (turn b v v.cells (omega arith)) ls before (held_ahead b v ls h);
    }
