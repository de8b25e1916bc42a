-- `all_empty` meets its contract: what was seen so far, and the rest of the group, give the answer. Assumes nothing.
use Prim.Native.Nat.{ℕ, ◌+◌, ◌-◌}
use mathlib.Core.Path.{◌≡◌, ap, ◌∙◌}
use native.Mathlib.Omega.{arith}
use lib.ListN.{take, drop}
use Rattle.stored_cells.proofs.Stored.{empties, all_turn, all_end}
use Rattle.stored_cells.proofs.all_empty.Goals as goal

pub loop-word-preserved : goal.loop-word-preserved
loop-word-preserved c =
    let l = c.loop-word in
    all_turn c.args.empty _ l.word-index l.same c.loop-word-test.true ∙ l.invariant

pub returns : goal.returns
returns c =
    let a = c.args in
    let l = c.loop-word in
    let e : a.from + 16 - a.from ≡ 16 = omega arith in
    all_end a.empty _ l.word-index l.same c.loop-word-test.false ∙ l.invariant ∙ ap (λ (n : ℕ). empties a.empty (take n (drop a.from a.words.now))) e
