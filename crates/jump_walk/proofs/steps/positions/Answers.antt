-- The positions, by whether all differences are there, and by the width. Assumes nothing.
use Rattle.std.proofs.Common.{◌≡◌, arith}
use Rattle.wire.proofs.Laws.{other_width}
use Rattle.difference_rows.specs.Steps.{next_at}
use Rattle.difference_rows.proofs.Filled.{filled_batch}
use Rattle.jump_walk.proofs.Walks.{next-at}
use Rattle.jump_walk.proofs.steps.positions.Goals.{Else-v-eq1}
use Rattle.jump_walk.proofs.steps.positions.Goals as goal

-- The positions, by whether all differences are there, and by the width. Assumes nothing.
two : (c : Else-v-eq1) → c.args.v.width ≡ 2
two c =
    let z = c.all_there.ensures (c.if-not-all_there.false) in
    other_width _ z.narrow z.wide c.if-v-eq1.false

pub along_u8-requires : goal.along_u8-requires
along_u8-requires c =
    rw c.if-v-eq1.true at (c.all_there.ensures (c.if-not-all_there.false))

pub returns-then-v-eq1 : goal.returns-then-v-eq1
returns-then-v-eq1 c =
    let a = c.args in
    rw (← next-at a.file.now a.v c.if-v-eq1.true (omega arith) (omega arith))
    (filled_batch (next_at 1 a.v.start a.v.second a.file.now) a.c a.out.now c.along_u8.ensures)

pub along_u16-requires : goal.along_u16-requires
along_u16-requires c =
    rw (two (goal.at.along_u16-requires c).Else-v-eq1) at (c.all_there.ensures (c.if-not-all_there.false))

pub returns : goal.returns
returns c =
    let a = c.args in
    rw (← next-at a.file.now a.v (two (goal.at.returns c).Else-v-eq1) (omega arith) (omega arith))
    (filled_batch (next_at 2 a.v.start a.v.second a.file.now) a.c a.out.now c.along_u16.ensures)
