use Prim.Native.Nat.{ℕ, ◌+◌, ◌*◌, ◌≤◌, ◌<◌}
use mathlib.Core.Path.{◌≡◌, refl, sym, ap, ◌∙◌}
use mathlib.Core.List.{List}
use native.Mathlib.Omega.{arith}
use lib.ListN.{length, get_or, drop}
use Rattle.laws.proofs.Bounds.{below_get_or}
use Rattle.stores.specs.Put.{put}
use Rattle.stores.proofs.Laws.{length-put}
use Rattle.parts.proofs.Places.{rising-below}
use Rattle.run_pairs.specs.Coding.{end_pairs}
use Rattle.run_pairs.proofs.Ends.{rising-far, ends_turn, ends-done}
use Rattle.run_pairs.proofs.batch.put_pairs.Goals.{In-loop-t}
use Rattle.run_pairs.proofs.batch.put_pairs.Goals as goal

pub loop-t-init : goal.loop-t-init
loop-t-init c = let a = c.args in let z : a.at + 8 * 0 ≡ a.at = omega arith in (refl, rw z)

-- an end is the index of a position, which is not below its rank
there : (c : In-loop-t) → get_or c.args.ends.now c.loop-t.t 0
    < length c.args.ps.now
there c =
    below_get_or (length c.args.ps.now) c.args.ends.now c.loop-t.t (omega arith) c.requires.2

ranked : (c : In-loop-t)
    → c.args.rank + get_or c.args.ends.now c.loop-t.t 0
    ≤ get_or c.args.ps.now (get_or c.args.ends.now c.loop-t.t 0) 0
ranked c =
    rising-far c.args.rank 16777216 c.args.ps.now (get_or c.args.ends.now c.loop-t.t 0) c.requires.1 (there c)

pub overflow_add-rank : goal.overflow_add-rank
overflow_add-rank c =
    let r = ranked (goal.at.overflow_add-rank c).In-loop-t in
    let b = rising-below c.args.rank 16777216 c.args.ps.now (get_or c.args.ends.now c.loop-t.t 0) c.requires.1 (there (goal.at.overflow_add-rank c).In-loop-t) in
    record { fits = omega arith }

pub loop-t-preserved : goal.loop-t-preserved
loop-t-preserved c =
    let a = c.args in
    let l = c.loop-t in
    let o = c.put_pair in (
      ap length o.ensures ∙ length-put l.dst _ _ ∙ l.invariant.0,
      ap (λ (d : List ℕ). put d (a.at + 8 * (l.t + 1)) (end_pairs a.rank a.ps.now (drop (l.t + 1) a.ends.now))) o.ensures
          ∙ ends_turn a.rank a.at a.ps.now a.ends.now l.dst l.t c.loop-t-test.true
          ∙ l.invariant.1,
    )

pub returns : goal.returns
returns c =
    let a = c.args in
    let l = c.loop-t in
    sym (ends-done a.rank a.at a.ps.now a.ends.now l.dst l.t c.loop-t-test.false) ∙ l.invariant.1

pub bounds-ps-end : goal.bounds-ps-end
bounds-ps-end c = there (goal.at.bounds-ps-end c).In-loop-t

pub overflow_sub-last : goal.overflow_sub-last
overflow_sub-last c = ranked (goal.at.overflow_sub-last c).In-loop-t
