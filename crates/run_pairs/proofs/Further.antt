-- Positions after the first: where a run ends before one, and the encoder after all of them. Assumes nothing.
use Prim.Native.Nat.{ℕ, suc, ◌+◌, ◌-◌, ◌*◌, ◌≤◌, ◌<◌}
use mathlib.Core.Path.{◌≡◌, refl, sym, ap, ◌∙◌}
use mathlib.Core.Bool.{not}
use mathlib.Core.List.{List, [], ◌∷◌}
use native.Mathlib.Nat.{add-zero}
use native.Mathlib.Omega.{arith}
use lib.ListN.{length, get_or}
use lib.Dec.{eqb, leb}
use borrow.Author.Tests.{eqb-true, eqb-false, le-leb, lt-leb}
use Rattle.laws.proofs.Tools.{cases}
use Rattle.laws.proofs.Stored.{Rising, rising-length}
use Rattle.parts.specs.declared.Encoder.{Encoder}
use Rattle.parts.specs.Encoder.{run_ends, taken_by, taken_all_by}
use Rattle.parts.specs.Ready.{passed, moved}
use Rattle.parts.specs.Batch.{Along}
use Rattle.rises.specs.Falls.{fallen}
use Rattle.rises.specs.Far.{far_after, far}
use Rattle.parts.proofs.Taking.{ends_later}
use Rattle.parts.proofs.Taken.{along_head}
use Rattle.run_pairs.specs.Coding.{runs_coder, further}
use Rattle.run_pairs.proofs.Adds.{taken-pair, taken_none, keeps}

-- ---- one more

module _ (e : Encoder) (q : ℕ) (some : 1 ≤ e.rank) (above : e.last < q) where
  -- a run ends before a position that is further than one cell from the last
  pub ends-far : run_ends e q ≡ not (leb (q - e.last) 1)
  ends-far =
      sym (ends_later e q (λ z. omega arith))
      ∙ cases (eqb q (e.last + 1))
      (λ t. let z = eqb-true q (e.last + 1) t in rw (t, le-leb (q - e.last) 1 (omega arith)))
      (λ t. let z = eqb-false q (e.last + 1) t in rw (t, lt-leb (q - e.last) 1 (omega arith)))

  taken-further : taken_by runs_coder e q ≡ further e 1 q (fallen (leb (q - e.last) 1))
  unfolding moved further fallen
  taken-further =
      cases (leb (q - e.last) 1)
      (λ t. rw t (sym (taken_none e q (rw t at ends-far)) ∙ (let z : e.first ≡ e.first + 8 * 0 = omega arith in rw (← z))))
      (λ t. rw t (sym (taken-pair e q (rw t at ends-far))))

-- ---- all

further-none : (e : Encoder) → e ≡ further e 0 e.last 0
unfolding further
further-none e = let z : e.first + 8 * 0 ≡ e.first = omega arith in rw (add-zero e.rank, z)

further_more : (e : Encoder) (q f n l c : ℕ) → further (further e 1 q f) n l c ≡ further e (suc n) l (f + c)
unfolding further
further_more e q f n l c =
    let r : e.rank + 1 + n ≡ e.rank + suc n = omega arith in
    let z : e.first + 8 * f + 8 * c ≡ e.first + 8 * (f + c) = omega arith in
    rw (r, z)

all-further : (B : ℕ) (e : Encoder) (ls : List ℕ) → 1 ≤ e.rank → Rising (suc e.last) B ls
    → taken_all_by runs_coder e ls ≡ further e (length ls) (get_or (e.last ∷ ls) (length ls) 0) (far_after 1 e.last ls)
unfolding taken_all_by far_after further
all-further B e [] some r = further-none e
all-further B e (q ∷ ls) some r =
    let f = fallen (leb (q - e.last) 1) in
    ap (λ (x : Encoder). taken_all_by runs_coder x ls) (taken-further e q some r.0)
    ∙ all-further B (further e 1 q f) ls (omega arith) r.2
    ∙ further_more e q f (length ls) (get_or (q ∷ ls) (length ls) 0) (far_after 1 q ls)

-- by the encoder after the first position, the last position and the number of run ends
pub taken-far : (e : Encoder) (ls : List ℕ) → (length ls ≡ 0 → ⊥) → Along e ls → (x : Encoder) → x ≡ taken_by runs_coder e (get_or ls 0 0) → (c : ℕ) → c ≡ far 1 ls
    → further x (length ls - 1) (get_or ls (length ls - 1) 0) c ≡ taken_all_by runs_coder e ls
unfolding taken_all_by taken_by far
taken-far e [] h a x q c f = absurd (h refl)
taken-far e (p ∷ ls) h a x q c f =
    let n : suc (length ls) - 1 ≡ length ls = omega arith in
    rw (n, q, f) (sym (all-further 16777216 (taken_by runs_coder e p) ls (omega arith) a.rising.2))

-- no number wraps
pub further-fits : (e : Encoder) (ls : List ℕ) → (length ls ≡ 0 → ⊥) → Along e ls → (x : Encoder) → x ≡ taken_by runs_coder e (get_or ls 0 0)
    → (x.rank + (length ls - 1) ≤ 16777216) × (x.first ≤ 8589934592) × (length ls ≤ 16777216)
unfolding taken_by
further-fits e [] h a x q = absurd (h refl)
further-fits e (p ∷ ls) h a x q =
    let n = rising-length (passed e) 16777216 (p ∷ ls) a.sound.passed-most a.rising in
    let m = a.sound.empty-most in
    let s = keeps e p (along_head e p ls a) in
    let f = s.first-most in
    let g = s.empty-most in
    let t = s.passed-most in
    rw q (omega arith, omega arith, omega arith)
