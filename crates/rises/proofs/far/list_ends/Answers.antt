use Rattle.std.proofs.Common.{◌-◌, sym, refl, ◌∙◌, arith, length-set}
use Rattle.laws.proofs.Stored.{rising-length}
use Rattle.laws.proofs.Positions.{rising_le}
use Rattle.rises.proofs.Falls.{raised, not-less}
use Rattle.rises.proofs.Ends.{ends_begin, ends_turn, ends-end}
use Rattle.rises.proofs.far.list_ends.Goals as goal

pub loop-i-init : goal.loop-i-init
loop-i-init c = let a = c.args in (omega arith, omega arith, omega arith, refl, ends_begin a.ps.now a.out.now)

pub overflow_cast-out : goal.overflow_cast-out
overflow_cast-out c =
    let n = rising-length 0 16777216 c.args.ps.now (omega arith) c.requires.0 in
    record { fits = omega arith }

pub overflow_sub-ps : goal.overflow_sub-ps
overflow_sub-ps c =
    let l = c.loop-i in
    rising_le 0 16777216 c.args.ps.now (l.i - 1) l.i c.requires.0 (omega arith) c.loop-i-test.true

pub loop-i-preserved : goal.loop-i-preserved
loop-i-preserved c =
    let a = c.args in
    let l = c.loop-i in
    let m = raised _ _ _ c.from-listed.ensures (not-less _ _) in (
      omega arith,
      omega arith,
      omega arith,
      length-set l.out l.listed (l.i - 1) ∙ l.invariant.3,
      ends_turn a.ps.now l.out l.listed l.i c.from-listed.result l.invariant.0 c.loop-i-test.true (omega arith)
          m.0
          ∙ l.invariant.4,
    )

pub returns : goal.returns
returns c =
    let a = c.args in
    let l = c.loop-i in
    (sym (ends-end a.ps.now l.out l.listed l.i l.invariant.0 c.loop-i-test.false) ∙ l.invariant.4, omega arith, l.invariant.3)
