-- For the encoder's code: what a position adds by the test that the code makes, and the encoder after it. Assumes nothing.
use Prim.Native.Nat.{ℕ, suc, ◌+◌, ◌-◌}
use mathlib.Core.Path.{◌≡◌, refl, ap, ◌∙◌}
use mathlib.Core.Bool.{true, false}
use mathlib.Core.List.{List, []}
use native.Mathlib.Nat.{add-zero}
use native.Mathlib.Omega.{arith}
use lib.ListN.{length}
use Rattle.stores.specs.Put.{pair}
use Rattle.stores.proofs.Laws.{length-pair}
use Rattle.parts.specs.declared.Encoder.{Encoder}
use Rattle.parts.specs.Encoder.{unchanged, run_ends, taken_by}
use Rattle.parts.specs.Ready.{Keeps, moved}
use Rattle.parts.proofs.Taking.{pick-most, taken-moved}
use Rattle.parts.proofs.Sounds.{sound_by}
use Rattle.parts.proofs.Grown.{Lengthens}
use Rattle.run_pairs.specs.Coding.{run_pair, runs_coder}

pub length_run : (e : Encoder) → length (run_pair e) ≡ 8
unfolding run_pair
length_run e = length-pair e.last (e.last + 1 - e.rank)

-- by the rank of the last position
pub run-pair : (e : Encoder) (r : ℕ) → e.rank ≡ suc r → run_pair e ≡ pair e.last (e.last - r)
unfolding run_pair
run-pair e r h = let n : e.last + 1 - e.rank ≡ e.last - r = omega arith in ap (pair e.last) n

module _ (e : Encoder) (p : ℕ) where
  -- a run ends before p
  pub first-pair : run_ends e p ≡ true → runs_coder.first e p ≡ run_pair e
  unfolding runs_coder
  first-pair t = rw t

  pub taken-pair : run_ends e p ≡ true → moved e p (e.first + 8) e.second ≡ taken_by runs_coder e p
  unfolding runs_coder
  taken-pair t =
      taken-moved e p runs_coder (e.first + 8) e.second refl (ap (λ (n : ℕ). e.first + n) (ap length (first-pair t) ∙ length_run e)) (add-zero e.second)

  -- none does
  pub first-none : run_ends e p ≡ false → runs_coder.first e p ≡ []
  unfolding runs_coder
  first-none t = rw t

  pub taken_none : run_ends e p ≡ false → moved e p e.first e.second ≡ taken_by runs_coder e p
  unfolding runs_coder
  taken_none t =
      taken-moved e p runs_coder e.first e.second refl (ap (λ (x : List ℕ). e.first + length x) (first-none t) ∙ add-zero e.first) (add-zero e.second)

pub lengthens : Lengthens runs_coder
unfolding runs_coder
lengthens = record { first = first-none; second = λ e p t. refl; on = taken_none }

pub keeps : Keeps runs_coder
unfolding runs_coder unchanged
keeps =
    sound_by runs_coder
    (λ e p n.
    let s = n.sound in
    record {
      first = pick-most (run_ends e p) (run_pair e) 8 (omega (arith, length_run e));
      second = omega arith;
      base = omega arith;
      cells = omega arith;
      empty = omega arith;
    })
