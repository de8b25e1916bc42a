-- Over a group at once. Assumes nothing.
use Rattle.std.proofs.Common.{◌≡◌, ◌+◌, ◌-◌, ◌^◌, ◌<◌, lt_trans, arith}
use Rattle.differences.specs.Walk.{walked, Room}
use Rattle.difference_rows.proofs.Follows.{reached}
use Rattle.jump_walk.proofs.Way.{leap_over}
use Rattle.jump_walk.proofs.steps.leap.Goals.{After-walk-place, Else-not-all_there, Else-v-rank}
use Rattle.jump_walk.proofs.steps.leap.Goals as goal

-- Over a group at once. Assumes nothing.
small : (c : Else-v-rank) → let a = c.args in (a.v.words < 2 ^ 32) × (a.p < 2 ^ 32)
small c = (omega arith, omega arith)

-- the differences of the group are there
room : (c : Else-not-all_there) → let a = c.args in Room a.v.width a.v.second a.file.now (a.c.rank + 128)
room c = c.all_there.ensures (c.if-not-all_there.false)

-- the walk goes to the end of the group
gone : (c : After-walk-place) → c.walk-place.result.rank ≡ c.args.c.rank + 128
gone c = c.walk-place.ensures.all

there : (c : After-walk-place)
    → let a = c.args in
    c.walk-place.result.reached ≡ walked a.v.width a.v.start a.v.second a.file.now a.c.rank 128 (reached a.c)
there c =
    let a = c.args in
    let e : a.c.rank + 128 - a.c.rank ≡ 128 = omega arith in
    rw (gone c, e) at c.walk-place.ensures.there

-- its jumps are fewer than the words
few : (c : After-walk-place) → c.walk-place.result.reached.taken < 2 ^ 32
few c =
    let m = c.walk-place.ensures.within.taken in
    let g = gone c in
    let h = c.if-v-rank.false in
    let q : c.args.v.words < 2 ^ 32 = omega arith in
    omega arith

pub returns : goal.returns
returns c =
    let a = c.args in
    let q = small (goal.at.returns c).Else-v-rank in
    leap_over a.file.now a.v a.p a.c 128 (room (goal.at.returns c).Else-not-all_there) c.if-v-rank.false q.0 q.1 c.requires (there (goal.at.returns c).After-walk-place) (few (goal.at.returns c).After-walk-place) c.if-p-at.false

pub overflow_cast-c-2 : goal.overflow_cast-c-2
overflow_cast-c-2 c = record { fits = lt_trans c.if-p-at.false (small (goal.at.overflow_cast-c-2 c).Else-v-rank).1 }
