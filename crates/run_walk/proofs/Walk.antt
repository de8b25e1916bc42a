-- The cursor's walk: each step keeps what stands ahead of it, so that it stands at the stored positions. Assumes nothing.
use Rattle.std.proofs.Common.{◌≡◌, ℕ, suc, ◌+◌, ◌-◌, ◌*◌, ◌^◌, ◌<◌, ◌≤◌, ltb, List, [], ◌∷◌, refl, ◌∙◌, subst, subst₂, arith, ltb-false, ltb-true, lt-ltb}
use Rattle.format.specs.declared.View.{View}
use Rattle.format.specs.Runs.{Run, runs, spans_from, spans, flat_runs, runs_kind}
use Rattle.laws.proofs.Tools.{cases}
use Rattle.laws.proofs.Ranks.{InOrder, in_order}
use Rattle.wire.specs.Wire.{pair_at, add32}
use Rattle.parts.specs.declared.Cursor.{Cursor}
use Rattle.parts.specs.Cursor.{along_run, before}
use Rattle.parts.specs.Holds.{Holds}
use Rattle.parts.specs.Walks.{Walks, StepsAlong}
use Rattle.parts.proofs.Steps.{add32-small, upper, kept-walk}
use Rattle.parts.proofs.Entries.{Entries, first-pair, rest_pairs}
use Rattle.parts.proofs.RunWalk.{Fit, Along, along-run, none_left, enter_run, all_fit, all-along}
use Rattle.run_walk.specs.Steps.{entered, next}
use Rattle.run_walk.proofs.Body.{held}

-- along a run
pub next-along : StepsAlong next
unfolding next
next-along b v c h = rw (lt-ltb c.at c.last h)

-- the runs rs stand ahead of the cursor, after e cells of which v are empty
record Ahead (b : List ℕ) (w : View) (B : ℕ) (c : Cursor) (ls : List ℕ) : Type 0 where
  e : ℕ
  v : ℕ
  rs : List Run
  order : InOrder e v rs
  fit : Fit B e (spans_from e v rs)
  along : Along B c e v (spans_from e v rs) ls
  entries : Entries b 4 w.start (2 * c.next) (flat_runs rs)

module _ (b : List ℕ) (w : View) (B : ℕ) (small : B < 2 ^ 32) (c : Cursor) (p : ℕ) (ls : List ℕ) where
  -- the next run
  enters : (e v : ℕ) (rs : List Run) → c.last ≤ c.at → InOrder e v rs → Fit B e (spans_from e v rs) → Along B c e v (spans_from e v rs) (p ∷ ls)
      → Entries b 4 w.start (2 * c.next) (flat_runs rs) → ((entered b w c).at ≡ p) × Ahead b w B (entered b w c) ls
  unfolding entered spans_from flat_runs
  enters e v [] h o f a es = absurd (none_left B small c e v p ls h a)
  enters e v (x ∷ xs) h o f a es =
      let o0 = o.0 in
      let o1 = o.1 in
      let f1 = f.1 in
      let l = a.next_low in
      let n : upper c + v ≡ e = let n = a.run in omega arith in
      let t : pair_at (w.start + 8 * c.next) b ≡ record { first = x.last; second = x.empty }
      = first-pair b w.start c.next x.last x.empty (flat_runs xs) es in
      let m : add32 c.next 1 ≡ suc c.next = add32-small c.next 1 (omega arith) ∙ omega arith in
      let q : add32 (upper c) x.empty ≡ e + (x.empty - v) = add32-small (upper c) x.empty (omega arith) ∙ omega arith in
      let g : e + (suc x.last - e) ≡ suc x.last = omega arith in
      let u : v + (x.empty - v) ≡ x.empty = omega arith in
      let y = enter_run B small c e v _ _ p ls h f a (entered b w c) refl (rw t q) (rw t (omega arith)) m in (
        y.0,
        record {
          e = suc x.last;
          v = x.empty;
          rs = xs;
          order = o.2;
          fit = subst (λ (i : ℕ). Fit B i (spans_from (suc x.last) x.empty xs)) g f.2;
          along = subst₂ (λ (i j : ℕ). Along B (entered b w c) i j (spans_from (suc x.last) x.empty xs) ls) g u y.1;
          entries = rw m (rest_pairs b w.start c.next x.last x.empty (flat_runs xs) es);
        },
      )

  turn : Ahead b w B c (p ∷ ls) → ((next b w c).at ≡ p) × Ahead b w B (next b w c) ls
  unfolding next
  turn a =
      cases (ltb c.at c.last)
      (λ t.
      let y = along-run B small c a.e a.v (spans_from a.e a.v a.rs) p ls (ltb-true c.at c.last t) a.along in
      rw t (y.0, record { e = a.e; v = a.v; rs = a.rs; order = a.order; fit = a.fit; along = y.1; entries = unfold along_run in a.entries }))
      (λ t. rw t (enters a.e a.v a.rs (ltb-false c.at c.last t) a.order a.fit a.along a.entries))

-- before rank 0 all stand ahead
begin : (b : List ℕ) (v : View) (ls : List ℕ) → Holds (runs_kind v.width v.step) b v ls → Ahead b v v.cells before ls
unfolding spans
begin b v ls h =
    record {
      e = 0;
      v = 0;
      rs = runs ls;
      order = in_order 0 v.cells ls h.rising;
      fit = all_fit v.cells ls h.rising;
      along = all-along v.cells ls h.rising;
      entries = held b v ls h;
    }

pub walks : Walks runs_kind next
walks =
    record {
      rank = λ b v c. unfold next along_run entered in cases (ltb c.at c.last) (λ t. rw t) (λ t. rw t);
      walk = λ b v ls h.
          let m = h.counted.cells-most in
          kept-walk (next b v) (Ahead b v v.cells) (turn b v v.cells (omega arith)) ls before (begin b v ls h);
    }
