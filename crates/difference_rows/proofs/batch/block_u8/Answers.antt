-- 16 ranks: one by one, or by their differences where none is a jump. Assumes nothing.
use Rattle.std.proofs.Common.{◌≡◌, suc, ◌+◌, ◌-◌, true, sym, ◌∙◌, arith}
use Rattle.wire.specs.Wire.{add32}
use Rattle.differences.specs.Walk.{plain}
use Rattle.parts.proofs.Batches.{stand, stand_first}
use Rattle.difference_rows.specs.Steps.{next_at}
use Rattle.difference_rows.proofs.Filled.{fill_begin, fill_turn, fill_end, stand_next}
use Rattle.difference_rows.proofs.batch.block_u8.Goals.{Else-not-no_jump}
use Rattle.difference_rows.proofs.batch.block_u8.Goals as goal

pub loop-k-init : goal.loop-k-init
loop-k-init c = let a = c.args in rw (stand_first a.c) (fill_begin (next_at 1 a.start a.second a.file.now) a.c 0 16 a.out.now)

-- no jump is among the differences
no_jump : (c : Else-not-no_jump)
    → let a = c.args in plain 1 a.second a.file.now a.c.rank 16 ≡ true
no_jump c = sym c.no_jump.ensures ∙ c.if-not-no_jump.false

pub loop-k-preserved : goal.loop-k-preserved
unfolding add32
loop-k-preserved c =
    let a = c.args in
    let l = c.loop-k in
    let h = c.loop-k-test.true in
    let e : 16 - l.k ≡ suc (16 - (l.k + 1)) = omega arith in
    let s = stand_next 1 a.start a.second a.file.now a.c 16 l.k l.at c.requires.0 (no_jump (goal.at.loop-k-preserved c).Else-not-no_jump) h c.difference-at.ensures.0 in
    fill_turn (next_at 1 a.start a.second a.file.now) a.c 0 16 a.out.now (stand a.c l.k l.at) l.k _ l.out l.invariant _ e s

pub returns : goal.returns
returns c =
    let a = c.args in
    let l = c.loop-k in
    let e : l.k ≡ 16 = omega arith in
    let z = fill_end (next_at 1 a.start a.second a.file.now) a.c 0 16 a.out.now (stand a.c l.k l.at) l.k _ l.out l.invariant (omega arith) in
    rw e at z
