-- Length pairs, each with a stored cell and, but for the first, with empty cells before it, are those of the runs of their positions. Assumes nothing.
use Rattle.std.proofs.Common.{◌≡◌, ℕ, suc, ◌+◌, ◌-◌, ◌<◌, ◌≤◌, List, [], ◌∷◌, length, refl, subst, ap₂, arith}
use Rattle.format.specs.Runs.{Run, Span, runs, spans_from, spans, positions_from}
use Rattle.laws.proofs.Stored.{Rising}
use Rattle.laws.proofs.Levels.{span_path}
use Rattle.laws.proofs.RunsBack.{least_empty, InOrder', last_end, last_empty, weaker, runs_again, rising_again, length_again, runs-ordered}
use Rattle.levels.proofs.Bounded.{cells_of, empty_of}

-- pairs past so many cells
abbrev pub Good : ℕ → List Span → Type 0
Good e [] = Unit
Good e (x ∷ xs) = (least_empty e ≤ x.empty) × (x.empty < x.cells) × Good (e + x.cells) xs

pub good_moved : (e f : ℕ) (xs : List Span) → e ≡ f → Good e xs → Good f xs
good_moved e f xs h g = subst (λ (n : ℕ). Good n xs) h g

-- ---- the runs of good pairs

-- `e` is the L before + 1, v the V before
unfoldable pub runs_of : ℕ → ℕ → List Span → List Run
runs_of e v [] = []
runs_of e v (x ∷ xs) = record { last = e + (x.cells - 1); empty = v + x.empty } ∷ runs_of (suc (e + (x.cells - 1))) (v + x.empty) xs

next_good : (e : ℕ) (x : Span) (xs : List Span) → x.empty < x.cells → Good (e + x.cells) xs → Good (suc (e + (x.cells - 1))) xs
next_good e x xs h g = good_moved (e + x.cells) (suc (e + (x.cells - 1))) xs (omega arith) g

spans_of : (e v : ℕ) (xs : List Span) → Good e xs → spans_from e v (runs_of e v xs) ≡ xs
unfolding spans_from runs_of
spans_of e v [] g = refl
spans_of e v (x ∷ xs) g =
    let g1 = g.1 in
    let c : suc (e + (x.cells - 1)) - e ≡ x.cells = omega arith in
    let d : v + x.empty - v ≡ x.empty = omega arith in
    ap₂ (λ (y : Span) (l : List Span). y ∷ l) (span_path c d) (spans_of (suc (e + (x.cells - 1))) (v + x.empty) xs (next_good e x xs g1 g.2))

order_of : (e v : ℕ) (xs : List Span) → Good e xs → InOrder' e v (runs_of e v xs)
unfolding runs_of
order_of e v [] g = tt
order_of e v (x ∷ xs) g =
    let g0 = g.0 in
    let g1 = g.1 in
    (omega arith, omega arith, order_of (suc (e + (x.cells - 1))) (v + x.empty) xs (next_good e x xs g1 g.2))

end_of : (e v : ℕ) (xs : List Span) → Good e xs → last_end e (runs_of e v xs) ≡ e + cells_of xs
unfolding runs_of cells_of
end_of e v [] g = omega arith
end_of e v (x ∷ xs) g =
    let g1 = g.1 in
    let i = end_of (suc (e + (x.cells - 1))) (v + x.empty) xs (next_good e x xs g1 g.2) in
    omega arith

empties_of : (e v : ℕ) (xs : List Span) → last_empty v (runs_of e v xs) ≡ v + empty_of xs
unfolding runs_of empty_of
empties_of e v [] = omega arith
empties_of e v (x ∷ xs) = let i = empties_of (suc (e + (x.cells - 1))) (v + x.empty) xs in omega arith

module _ (xs : List Span) (g : Good 0 xs) where
  same-spans : spans (runs_of 0 0 xs) ≡ xs
  unfolding spans
  same-spans = spans_of 0 0 xs g

  pub pairs_again : spans (runs (positions_from 0 xs)) ≡ xs
  pairs_again =
      let e : runs (positions_from 0 (spans (runs_of 0 0 xs))) ≡ runs_of 0 0 xs = runs_again (runs_of 0 0 xs) (order_of 0 0 xs g) in
      let f : runs (positions_from 0 xs) ≡ runs_of 0 0 xs = rw same-spans at e in
      rw f same-spans

  pub pairs_rising : (B : ℕ) → cells_of xs ≤ B → Rising 0 B (positions_from 0 xs)
  pairs_rising B h =
      let r = rising_again B (runs_of 0 0 xs) (weaker 0 0 (runs_of 0 0 xs) (order_of 0 0 xs g)) (rw (end_of 0 0 xs g) (omega arith)) in
      rw same-spans at r

  pub pairs_length : length (positions_from 0 xs) + empty_of xs ≡ cells_of xs
  pairs_length =
      let n = length_again (runs_of 0 0 xs) (weaker 0 0 (runs_of 0 0 xs) (order_of 0 0 xs g)) in
      let m = rw (same-spans, end_of 0 0 xs g, empties_of 0 0 xs) at n in
      omega arith

-- ---- the pairs of runs in strict order are good

good_spans : (e v : ℕ) (rs : List Run) → InOrder' e v rs → Good e (spans_from e v rs)
unfolding spans_from
good_spans e v [] o = tt
good_spans e v (x ∷ rs) o =
    let o0 = o.0 in
    let o1 = o.1 in
    let m : suc x.last ≡ e + (suc x.last - e) = omega arith in (
      omega arith,
      omega arith,
      good_moved (suc x.last) (e + (suc x.last - e)) (spans_from (suc x.last) x.empty rs) m
          (good_spans (suc x.last) x.empty rs o.2),
    )

pub good_runs : (B : ℕ) (ls : List ℕ) → Rising 0 B ls → Good 0 (spans (runs ls))
unfolding spans
good_runs B ls r = good_spans 0 0 (runs ls) (runs-ordered 0 B ls r)
