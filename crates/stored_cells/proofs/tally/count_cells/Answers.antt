use Prim.Native.Nat.{◌<◌}
use mathlib.Core.Path.{◌∙◌}
use native.Mathlib.Omega.{arith}
use lib.ListN.{length}
use Rattle.stored_cells.proofs.Stored.{flag_most}
use Rattle.stored_cells.proofs.Tallied.{one-flag, begin_flag, counted_none, counted-first, counted_turn, counted-end}
use Rattle.stored_cells.proofs.tally.count_cells.Goals as goal

pub returns-then-words-eq0 : goal.returns-then-words-eq0
returns-then-words-eq0 c = let a = c.args in counted_none a.empty a.words.now c.if-words-eq0.true

pub loop-i-init : goal.loop-i-init
loop-i-init c =
    let a = c.args in
    let h : 0 < length a.words.now = omega (arith, c.if-words-eq0.false) in
    counted-first a.empty a.words.now c.from-stored.result h (c.from-stored.ensures ∙ one-flag a.empty _)

pub overflow_add-stored : goal.overflow_add-stored
overflow_add-stored c =
    let h = c.loop-i.invariant.some in
    record { fits = omega (arith, c.from-stored-in-loop-i.ensures, flag_most) }

pub overflow_add-runs : goal.overflow_add-runs
overflow_add-runs c =
    let h = c.loop-i.invariant.fewer in
    record { fits = omega (arith, c.from-runs.ensures, flag_most) }

pub loop-i-preserved : goal.loop-i-preserved
loop-i-preserved c =
    let a = c.args in
    let l = c.loop-i in
    let x = c.from-stored-in-loop-i in
    let y = c.from-runs in
    counted_turn a.empty a.words.now l.i l.stored l.runs x.result y.result (omega arith) (x.ensures ∙ one-flag a.empty _) (y.ensures ∙ begin_flag a.empty _ _)
    l.invariant

pub returns : goal.returns
returns c =
    let a = c.args in
    let l = c.loop-i in
    counted-end a.empty a.words.now l.i l.stored l.runs (omega arith) l.invariant
