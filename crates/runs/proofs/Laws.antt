-- The encoder puts out the parts of kind 1. Assumes nothing.
use Rattle.std.proofs.Common.{◌≡◌, ℕ, suc, ◌/◌, Bool, true, false, not, eqb, List, [], ◌∷◌, ◌++◌, length, sym, refl, ◌∙◌, ap₂, append-nil, arith}
use Rattle.format.specs.Tools.{pick, unless}
use Rattle.format.specs.Bytes.{bytes_of}
use Rattle.format.specs.Runs.{Run, run_at, runs_from, runs, flat_runs, run_parts, runs_kind}
use Rattle.laws.proofs.Bytes.{length-bytes_of}
use Rattle.laws.proofs.Positions.{length-flat_runs}
use Rattle.stores.specs.Put.{pair}
use Rattle.stores.proofs.Laws.{pair_cons}
use Rattle.parts.specs.declared.Encoder.{Encoder}
use Rattle.parts.specs.Encoder.{begun, unchanged, run_ends, taken_by, taken_all_by, ended_by, firsts_by, seconds_by}
use Rattle.parts.specs.Codes.{Codes, sizes_in}
use Rattle.parts.proofs.Outright.{outright}
use Rattle.parts.proofs.Taking.{if_suc, run_ends_lem, no_seconds, same_fit, rank-all, first-all, second-all}
use Rattle.run_pairs.specs.Coding.{run_pair, runs_coder, coder}
use Rattle.run_pairs.proofs.Adds.{run-pair, keeps}

-- a run's pair where it ends
flat_unless : (t : Bool) (x : Run) (xs : List Run)
    → bytes_of 4 (flat_runs (unless t x xs)) ≡ pick (not t) (pair x.last x.empty) [] ++ bytes_of 4 (flat_runs xs)
unfolding flat_runs
flat_unless true x xs = refl
flat_unless false x xs = pair_cons x.last x.empty (flat_runs xs)

flat_one : (x : Run) → bytes_of 4 (flat_runs (x ∷ [])) ≡ pair x.last x.empty
unfolding flat_runs
flat_one x = pair_cons x.last x.empty [] ∙ (unfold bytes_of in append-nil (pair x.last x.empty))

firsts_from : (e : Encoder) (r : ℕ) (ls : List ℕ) → e.rank ≡ suc r → firsts_by runs_coder e ls ≡ bytes_of 4 (flat_runs (runs_from e.last r ls))
unfolding firsts_by runs_coder taken_by runs_from run_at
firsts_from e r [] h =
    if_suc e.rank r [] (run_pair e) h ∙ run-pair e r h ∙ sym (flat_one (run_at e.last r))
firsts_from e r (p ∷ ls) h =
    let n : (taken_by runs_coder e p).rank ≡ suc (suc r) = omega arith in
    ap₂ (λ (x y : List ℕ). x ++ y)
    (ap₂ (λ (t : Bool) (x : List ℕ). pick t x []) (run_ends_lem e r p h) (run-pair e r h))
    (firsts_from (taken_by runs_coder e p) (suc r) ls n)
    ∙ sym (flat_unless (eqb p (suc e.last)) (run_at e.last r) (runs_from p (suc r) ls))

firsts : (f g : ℕ) (ls : List ℕ) → firsts_by runs_coder (begun f g) ls ≡ bytes_of 4 (flat_runs (runs ls))
unfolding firsts_by runs_coder taken_by begun run_ends runs
firsts f g [] = unfold flat_runs bytes_of in refl
firsts f g (p ∷ ls) = firsts_from (taken_by runs_coder (begun f g) p) 0 ls refl

seconds : (f g : ℕ) (ls : List ℕ) → seconds_by runs_coder (begun f g) ls ≡ []
unfolding runs_coder
seconds f g ls = no_seconds runs_coder (begun f g) ls (λ e p. refl) (λ e. refl)

-- the sizes after the end
same-sizes : (e : Encoder) (ls : List ℕ) → e.rank ≡ length ls → e.first ≡ length (bytes_of 4 (flat_runs (runs ls))) → e.second ≡ 0
    → runs_coder.sizes e ≡ sizes_in (length ls) (run_parts ls)
unfolding runs_coder run_parts sizes_in
same-sizes e ls r f s =
    let l = length-bytes_of 4 (flat_runs (runs ls)) in
    let n : length (bytes_of 4 (flat_runs (runs ls))) / 8 ≡ length (runs ls) = omega (arith, length-flat_runs (runs ls)) in
    rw (r, f, s, n)

sized : (ls : List ℕ) → runs_coder.sizes (ended_by runs_coder (taken_all_by runs_coder (begun 0 0) ls)) ≡ sizes_in (length ls) (run_parts ls)
unfolding begun ended_by
sized ls =
    let r = rank-all runs_coder (begun 0 0) ls in
    same-sizes (ended_by runs_coder (taken_all_by runs_coder (begun 0 0) ls)) ls (omega arith)
    (first-all runs_coder (begun 0 0) ls ∙ rw (firsts 0 0 ls) (omega arith))
    (second-all runs_coder (begun 0 0) ls ∙ rw (seconds 0 0 ls))

pub codes : (w l : ℕ) → (runs_kind w l).allowed ≡ true → Codes (coder w l) (runs_kind w l)
unfolding runs_kind runs_coder unchanged begun run_parts
codes w l a =
    record {
      keeps = keeps;
      fits = λ f g ls. same_fit runs_coder (begun f g) ls (λ e p. refl);
      out = λ B ls h r. outright (coder w l) (runs_kind w l) B ls (λ z start d. refl) (λ f g. firsts f g ls) (λ f g. seconds f g ls) (λ u. sized ls);
    }
