-- The kinds whose sizes follow from a count: of the ranks, or of the runs. Assumes nothing.
use Prim.Native.Nat.{ℕ, ◌*◌, ◌/◌, ◌≤◌}
use mathlib.Core.Path.{◌≡◌, refl, sym, ap, subst, ◌∙◌}
use mathlib.Core.Logic.{◌⊎◌, inl, inr, ⊎_elim}
use mathlib.Core.Bool.{Bool, true, false}
use mathlib.Core.List.{List}
use native.Mathlib.Omega.{arith}
use lib.ListN.{length}
use lib.Dec.{eqb}
use borrow.Author.Tests.{eq-eqb, ne_eqb, eqb-true}
use Rattle.format.specs.declared.Setting.{Setting}
use Rattle.format.specs.declared.View.{View}
use Rattle.format.specs.Tools.{pick}
use Rattle.format.specs.Kinds.{codec, codec_of, setting_allowed}
use Rattle.format.specs.Runs.{runs, spans, runs_kind, run_parts}
use Rattle.format.specs.Positions.{positions_kind, position_parts}
use Rattle.format.specs.PagedRuns.{upper_entries, pages_kind, paged_parts}
use Rattle.laws.proofs.Tools.{both_true}
use Rattle.laws.proofs.Stored.{Rising}
use Rattle.laws.proofs.Bounds.{length-spans_from}
use Rattle.laws.proofs.Settings.{setting}
use Rattle.laws.proofs.Parts.{known}
use Rattle.parts.specs.declared.Sizes.{Sizes}
use Rattle.parts.specs.Walks.{GoesAlong}
use Rattle.parts.specs.Codes.{sizes_in}
use Rattle.parts.specs.Holds.{Holds, kind_of}
use Rattle.run_pairs.specs.Coding.{runs_coder}
use Rattle.run_walk.proofs.Walk as run-walk
use Rattle.positions.specs.Coding as positions
use Rattle.page_entries.specs.Coding as paged
use Rattle.page_walk.proofs.Walk as page-walk
use Rattle.kinds.specs.Steps.{next_by, next_of, stores_runs, runs_of}
use Rattle.kinds.specs.Coding.{coder, sized_by_ranks, counted_by}

-- ---- the runs of a file, by its view

module _ (b : List ℕ) (v : View) (ls : List ℕ) (h : Holds (kind_of v) b v ls) where
  by_firsts : v.kind ≡ 1 → v.firsts ≡ length (runs ls)
  unfolding runs_kind run_parts
  by_firsts e = sym h.first_count_lem ∙ ap (λ (k : ℕ). ((codec_of k v.width v.step).parts v.cells ls).first_count) e

  by_seconds : v.kind ≡ 5 → v.seconds ≡ length (runs ls)
  unfolding pages_kind paged_parts spans
  by_seconds e =
      sym h.second-count
      ∙ ap (λ (k : ℕ). ((codec_of k v.width v.step).parts v.cells ls).second_count) e
      ∙ length-spans_from 0 0 (runs ls)

  pub run-count : stores_runs v.kind → runs_of v ≡ length (runs ls)
  run-count s =
      ⊎_elim (λ k. rw (eq-eqb v.kind 1 k) (by_firsts k)) (λ k. rw (ne_eqb v.kind 1 (λ z. omega arith)) (by_seconds k)) s

-- ---- along a run

pub next-along : (b : List ℕ) (v : View) → stores_runs v.kind → GoesAlong (next_of b v)
unfolding next_of
next-along b v s c h =
    ⊎_elim (λ e. ap (λ (k : ℕ). next_by k b v c) e ∙ run-walk.next-along b v c h) (λ e. ap (λ (k : ℕ). next_by k b v c) e ∙ page-walk.next-along b v c h) s

-- ---- the sizes by the counts

-- a kind whose sizes follow from n ranks and m runs
pub record ByCount (s : Setting) (ls : List ℕ) (n m : ℕ) : Type 0 where
  pub allowed : setting_allowed s ≡ true
  pub kind : sized_by_ranks s.kind ⊎ stores_runs s.kind
  pub ranks : n ≡ length ls
  pub runs : stores_runs s.kind → m ≡ length (runs ls)

module _ (s : Setting) (ls : List ℕ) (n m : ℕ) (a : setting_allowed s ≡ true) (p : n ≡ length ls) where
  pub by_ranks : sized_by_ranks s.kind → ByCount s ls n m
  by_ranks k = record { allowed = a; kind = inl k; ranks = p; runs = λ h. absurd (⊎_elim (λ e. omega arith) (λ e. omega arith) h) }

  pub by_runs : stores_runs s.kind → m ≡ length (runs ls) → ByCount s ls n m
  by_runs k q = record { allowed = a; kind = inr k; ranks = p; runs = λ h. q }

-- the positions fit, and the sizes are those of the encoder by the counts
pub record Follows (s : Setting) (B : ℕ) (ls : List ℕ) (n m : ℕ) : Type 0 where
  pub fits : (codec s).unfit ls ≡ false
  pub sizes : (coder s).sizes (counted_by s.kind n m) ≡ sizes_in (length ls) ((codec s).parts B ls)

eight : (n k : ℕ) → n ≡ k → 8 * n / 8 ≡ k
eight n k e = omega arith

four : (n k : ℕ) → n ≡ k → 4 * n / 4 ≡ k
four n k e = omega arith

abbrev sizes_of : ℕ → ℕ → ℕ → ℕ → ℕ → Sizes
sizes_of w f g x y = record { words = w; firsts = f; seconds = g; first = x; second = y }

same-sizes : {w v f e g h x z y u : ℕ} → w ≡ v → f ≡ e → g ≡ h → x ≡ z → y ≡ u → sizes_of w f g x y ≡ sizes_of v e h z u
same-sizes a b c d e = rw (a, b, c, d, e)

module _ (B : ℕ) (ls : List ℕ) (most : B ≤ 16777216) (rise : Rising 0 B ls) (n m : ℕ) where
  abbrev Following : Setting → Type 0
  Following s = ByCount s ls n m → Follows s B ls n m

  runs_follow : (w l : ℕ) → Following (setting 1 w l)
  unfolding counted_by codec coder runs_kind run_parts runs_coder sizes_in
  runs_follow w l h =
      let k = known B ls most rise (setting 1 w l) h.allowed refl in
      let r = h.runs (inl refl) in
      record {
        fits = refl;
        sizes = same-sizes h.ranks (eight m (length (runs ls)) r) refl (ap (λ (x : ℕ). 8 * x) r ∙ sym k.first-size) refl;
      }

  positions_follow : (w l : ℕ) → Following (setting 2 w l)
  unfolding counted_by codec coder positions_kind position_parts positions.coder sizes_in
  positions_follow w l h =
      let k = known B ls most rise (setting 2 w l) h.allowed refl in
      let r = h.ranks in
      record {
        fits = refl;
        sizes = same-sizes r (four n (length ls) r) refl (ap (λ (x : ℕ). 4 * x) r ∙ sym k.first-size) refl;
      }

  pages_follow : (w b : ℕ) → Following (setting 5 w b)
  unfolding counted_by codec coder pages_kind paged_parts paged.coder paged.pages_coder sizes_in
  pages_follow w b h =
      let k = known B ls most rise (setting 5 w b) h.allowed refl in
      let xs = spans (runs ls) in
      let r : m ≡ length xs = h.runs (inr refl) ∙ sym (length-spans-runs ls) in
      let q = eight m (length xs) r in
      let u = eqb-true _ _ (both_true _ _ k.allowed).0 in
      let c : upper_entries b (8 * m / 8) ≡ upper_entries b (length xs) = ap (upper_entries b) q in
      record {
        fits = refl;
        sizes =
            same-sizes h.ranks (c ∙ sym u) q (ap (λ (x : ℕ). 8 * x) (c ∙ sym u) ∙ sym k.first-size)
            (ap (λ (x : ℕ). 8 * x) r ∙ sym k.second-size);
      }
    where
      length-spans-runs : (ls : List ℕ) → length (spans (runs ls)) ≡ length (runs ls)
      length-spans-runs ls = unfold spans in length-spans_from 0 0 (runs ls)

  pub follows : (s : Setting) → ByCount s ls n m → Follows s B ls n m
  follows s h =
      ⊎_elim (λ e. of 2 e positions_follow) (λ r. ⊎_elim (λ e. of 1 e runs_follow) (λ e. of 5 e pages_follow) r) h.kind
    where
      of : (k : ℕ) → s.kind ≡ k → ((w l : ℕ) → Following (setting k w l)) → Follows s B ls n m
      of k e f = subst (λ (x : ℕ). Following (setting x s.width s.step)) (sym e) (f s.width s.step) h

-- no number of it is large
module _ (k n m : ℕ) (a : n ≤ 16777216) (b : m ≤ 16777216) where
  pub counted-small : ((counted_by k n m).rank ≤ 16777216) × ((counted_by k n m).first ≤ 268435456) × ((counted_by k n m).second ≤ 134217728)
  unfolding counted_by
  counted-small = (a, chosen (eqb k 2) (omega arith) (chosen (eqb k 5) (omega arith) (omega arith)), chosen (eqb k 2) (omega arith) (chosen (eqb k 5) (omega arith) (omega arith)))
    where
      chosen : (t : Bool) {x y z : ℕ} → x ≤ z → y ≤ z → pick t x y ≤ z
      chosen true h l = h
      chosen false h l = l

-- as the code makes it
module _ (k n m : ℕ) where
  pub counted-ranks : k ≡ 2 → record { rank = n; last = 0; left = 0; base = 0; cells = 0; empty = 0; first = 4 * n; second = 0; fits = true } ≡ counted_by k n m
  unfolding counted_by
  counted-ranks e = rw (eq-eqb k 2 e)

  pub counted-second : (k ≡ 2 → ⊥) → k ≡ 5
      → record { rank = n; last = 0; left = 0; base = 0; cells = 0; empty = 0; first = 0; second = 8 * m; fits = true } ≡ counted_by k n m
  unfolding counted_by
  counted-second h e = rw (ne_eqb k 2 h, eq-eqb k 5 e)

  pub counted-first : (k ≡ 2 → ⊥) → (k ≡ 5 → ⊥)
      → record { rank = n; last = 0; left = 0; base = 0; cells = 0; empty = 0; first = 8 * m; second = 0; fits = true } ≡ counted_by k n m
  unfolding counted_by
  counted-first h e = rw (ne_eqb k 2 h, ne_eqb k 5 e)
