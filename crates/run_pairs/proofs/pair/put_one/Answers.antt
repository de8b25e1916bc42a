-- `run_pairs::pair::put_one` meets its contract. Assumes nothing.
use mathlib.Core.Path.{◌≡◌, refl, sym, ap, ◌∙◌}
use mathlib.Core.Bool.{true, false}
use native.Mathlib.Omega.{arith}
use lib.ListN.{length}
use Rattle.parts.specs.Encoder.{run_ends}
use Rattle.parts.proofs.Taking.{put_first, put-none}
use Rattle.run_pairs.specs.Coding.{run_pair, runs_coder}
use Rattle.run_pairs.proofs.Adds.{length_run, first-pair, taken-pair, first-none, taken_none}
use Rattle.run_pairs.proofs.pair.put_one.Goals as goal

-- `run_pairs::pair::put_one` meets its contract. Assumes nothing.
pub returns-then-not-run_ends : goal.returns-then-not-run_ends
unfolding runs_coder
returns-then-not-run_ends c =
    let a = c.args in
    let t : run_ends a.e a.p ≡ false = sym c.run_ends.ensures ∙ c.if-not-run_ends.true in
    (c.move_on.ensures ∙ taken_none a.e a.p t, put-none runs_coder a.dst.now a.e a.p (first-none a.e a.p t) refl)

pub put_pair-requires : goal.put_pair-requires
put_pair-requires c =
    let a = c.args in
    let t : run_ends a.e a.p ≡ true = sym c.run_ends.ensures ∙ c.if-not-run_ends.false in
    let n : length (runs_coder.first a.e a.p) ≡ 8 = ap length (first-pair a.e a.p t) ∙ length_run a.e in
    let r = c.requires.1.first in
    omega arith

pub returns : goal.returns
unfolding run_pair runs_coder
returns c =
    let a = c.args in
    let t : run_ends a.e a.p ≡ true = sym c.run_ends.ensures ∙ c.if-not-run_ends.false in (
      c.move_on-2.ensures ∙ taken-pair a.e a.p t,
      c.put_pair.ensures
          ∙ put_first runs_coder a.dst.now a.e a.p (run_pair a.e) (first-pair a.e a.p t) refl,
    )

pub overflow_add-e : goal.overflow_add-e
overflow_add-e c = omega arith

pub overflow_sub-e : goal.overflow_sub-e
overflow_sub-e c = omega arith

pub overflow_add-e-2 : goal.overflow_add-e-2
overflow_add-e-2 c = omega arith
