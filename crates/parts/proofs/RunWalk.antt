-- Along runs: what stands ahead of a cursor, over any list of length pairs, and that each step keeps it. What kinds 1 and 5 share. Assumes nothing.
use Rattle.std.proofs.Common.{◌≡◌, ℕ, suc, ◌+◌, ◌-◌, ◌^◌, ◌<◌, ◌≤◌, List, [], ◌∷◌, ◌++◌, sym, refl, ◌∙◌, subst, arith}
use Rattle.format.specs.Tools.{Below, range}
use Rattle.format.specs.Runs.{Run, Span, runs, spans_from, spans, positions_from, flat_runs}
use Rattle.laws.proofs.Stored.{Rising}
use Rattle.laws.proofs.Bounds.{below-runs}
use Rattle.laws.proofs.Positions.{runs-back}
use Rattle.laws.proofs.Ranks.{InOrder, in_order}
use Rattle.parts.specs.declared.Cursor.{Cursor}
use Rattle.wire.specs.Wire.{add32}
use Rattle.parts.specs.Cursor.{along_run, before}
use Rattle.parts.proofs.Steps.{add32-small, upper}

-- each pair has a stored cell, and all end by B, where the first begins at e
abbrev pub Fit : ℕ → ℕ → List Span → Type 0
Fit B e [] = Unit
Fit B e (x ∷ xs) = (x.empty < x.cells) × (e + x.cells ≤ B) × Fit B (e + x.cells) xs

-- The run at c ends before e, with v empty cells up to there; the pairs xs come after it. Before the first run e and v are 0.
pub record Along (B : ℕ) (c : Cursor) (e v : ℕ) (xs : List Span) (ls : List ℕ) : Type 0 where
  pub end : e ≤ B
  pub last_fits : c.last < 2 ^ 32
  pub here : add32 c.at 1 ≡ upper c + v
  pub run : upper c + v + (c.last - c.at) ≡ e
  pub empties : c.at - c.rank ≡ v
  pub next_low : c.next ≤ upper c
  pub list : range (upper c + v) (c.last - c.at) ++ positions_from e xs ≡ ls

module _ (B : ℕ) (small : B < 2 ^ 32) (c : Cursor) (e v : ℕ) where
  -- a cell of the run is left
  pub along-run : (xs : List Span) (p : ℕ) (ls : List ℕ) → c.at < c.last → Along B c e v xs (p ∷ ls)
      → ((along_run c).at ≡ p) × Along B (along_run c) e v xs ls
  unfolding along_run range
  along-run xs p ls h a =
      let o = a.end in
      let f = a.last_fits in
      let n = a.run in
      let l = a.next_low in
      let t : c.at + 1 ≡ upper c + v = sym (add32-small c.at 1 (omega arith)) ∙ a.here in
      let r : add32 (upper c) 1 ≡ suc (upper c) = add32-small (upper c) 1 (omega arith) ∙ omega arith in
      let k : c.last - c.at ≡ suc (c.last - (c.at + 1)) = omega arith in
      let ps : (upper c + v) ∷ (range (suc (upper c + v)) (c.last - (c.at + 1)) ++ positions_from e xs) ≡ p ∷ ls = rw k at a.list in
      let m : suc (upper c) + v ≡ suc (upper c + v) = omega arith in (
        t ∙ (cc),
        record {
          end = o;
          last_fits = f;
          here = rw r (add32-small (c.at + 1) 1 (omega arith) ∙ omega arith);
          run = rw r (omega arith);
          empties = omega arith;
          next_low = rw r (omega arith);
          list = rw (r, m) (cc);
        },
      )

  -- none is left: not the last pair either
  pub none_left : (p : ℕ) (ls : List ℕ) → c.last ≤ c.at → Along B c e v [] (p ∷ ls) → ⊥
  unfolding range positions_from
  none_left p ls h a =
      let k : c.last - c.at ≡ 0 = omega arith in
      let t : [] ≡ p ∷ ls = rw k at a.list in
      let z : ◌≡◌ {A = ℕ} 0 1 = cc in
      omega arith

  -- the next pair: the cursor d at the first stored cell of its run
  pub enter_run : (x : Span) (xs : List Span) (p : ℕ) (ls : List ℕ) → c.last ≤ c.at → Fit B e (x ∷ xs) → Along B c e v (x ∷ xs) (p ∷ ls)
      → (d : Cursor) → d.rank ≡ upper c → d.at ≡ e + x.empty → d.last ≡ e + x.cells - 1 → d.next ≡ suc c.next
      → (d.at ≡ p) × Along B d (e + x.cells) (v + x.empty) xs ls
  unfolding range positions_from
  enter_run x xs p ls h f a d dr da dl dn =
      let f0 = f.0 in
      let f1 = f.1 in
      let o = a.end in
      let l = a.next_low in
      let k : c.last - c.at ≡ 0 = omega arith in
      let n : upper c + v ≡ e = let n = a.run in omega arith in
      let s : x.cells - x.empty ≡ suc (x.cells - x.empty - 1) = omega arith in
      let ps : (e + x.empty) ∷ (range (suc (e + x.empty)) (x.cells - x.empty - 1) ++ positions_from (e + x.cells) xs) ≡ p ∷ ls = rw (k, s) at a.list in
      let r : upper d ≡ suc (upper c) = rw dr (add32-small (upper c) 1 (omega arith) ∙ omega arith) in
      let m : suc (upper c) + (v + x.empty) ≡ suc (e + x.empty) = omega arith in
      let g : d.last - d.at ≡ x.cells - x.empty - 1 = rw (dl, da) (omega arith) in (
        da ∙ (cc),
        record {
          end = f1;
          last_fits = rw dl (omega arith);
          here = rw (da, r, m) (add32-small (e + x.empty) 1 (omega arith) ∙ omega arith);
          run = rw (g, r) (omega arith);
          empties = rw (da, dr) (omega arith);
          next_low = rw (dn, r) (omega arith);
          list = rw (g, r, m) (cc);
        },
      )

-- ---- before the first run all stand ahead

fit_runs : (B e v : ℕ) (rs : List Run) → InOrder e v rs → Below B (flat_runs rs) → Fit B e (spans_from e v rs)
unfolding spans_from flat_runs
fit_runs B e v [] o f = tt
fit_runs B e v (x ∷ xs) o f =
    let o1 = o.1 in
    let f0 = f.0 in
    let g : suc x.last ≡ e + (suc x.last - e) = omega arith in
    let rest = fit_runs B (suc x.last) x.empty xs o.2 f.1.1 in
    (omega arith, omega arith, subst (λ (i : ℕ). Fit B i (spans_from (suc x.last) x.empty xs)) g rest)

module _ (B : ℕ) (ls : List ℕ) (rising : Rising 0 B ls) where
  pub all_fit : Fit B 0 (spans (runs ls))
  unfolding spans
  all_fit = fit_runs B 0 0 (runs ls) (in_order 0 B ls rising) (below-runs 0 B ls rising)

  pub all-along : Along B before 0 0 (spans (runs ls)) ls
  unfolding add32 range
  all-along =
      record {
        end = omega arith;
        last_fits = omega arith;
        here = refl;
        run = refl;
        empties = refl;
        next_low = omega arith;
        list = runs-back 0 B ls rising;
      }
