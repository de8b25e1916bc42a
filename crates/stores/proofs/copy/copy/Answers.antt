-- Each turn copies a byte. Assumes nothing.
use Prim.Native.Nat.{◌+◌}
use mathlib.Core.Path.{refl, sym, ◌∙◌}
use native.Mathlib.Omega.{arith}
use lib.ListN.{get_or, length-set}
use Rattle.stores.proofs.Copied.{copy_start, copy_turn, copy_end}
use Rattle.stores.proofs.copy.copy.Goals as goal

pub loop-i-init : goal.loop-i-init
loop-i-init c =
    let a = c.args in
    (omega arith, refl, copy_start a.dst.now a.src.now a.at a.from a.n)

pub loop-i-preserved : goal.loop-i-preserved
loop-i-preserved c =
    let a = c.args in
    let l = c.loop-i in (
      omega arith,
      length-set l.dst (a.at + l.i) (get_or a.src.now (a.from + l.i) 0) ∙ l.invariant.1,
      copy_turn l.dst a.src.now a.at a.from a.n l.i c.requires.0 (omega arith) ∙ l.invariant.2,
    )

pub returns : goal.returns
returns c =
    let a = c.args in
    let l = c.loop-i in
    sym (copy_end l.dst a.src.now a.at a.from a.n l.i (omega arith)) ∙ l.invariant.2
