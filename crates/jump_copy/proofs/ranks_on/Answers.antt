use Prim.Native.Nat.{◌+◌, ◌<◌}
use Rattle.std.proofs.Common.{None}
use native.Mathlib.Omega.{arith}
use lib.ListN.{length}
use Rattle.jump_copy.proofs.Rows.{Stands}
use Rattle.jump_copy.proofs.Ranks.{reached_below, reached_stands, walk-room, walk-within, walk-taken, walk-position, walk_steps}
use Rattle.jump_copy.proofs.ranks_on.Goals.{Start}
use Rattle.jump_copy.proofs.ranks_on.Goals as goal

-- the cursor stands at a rank, and so many more are below the words
here : (c : Start) → Stands c.args.file.now c.args.v c.requires.0.0 c.requires.1.rank c.args.c
here c = reached_stands c.args.file.now c.args.v c.requires.0.0 c.requires.0.1 c.args.c (c.args.n + 1) c.requires.1 (omega arith)

below : (c : Start) → c.requires.1.rank + c.args.n < length c.requires.0.0
below c =
    let k = reached_below c.args.file.now c.args.v c.requires.0.0 c.requires.0.1 c.args.c (c.args.n + 1) c.requires.1 (omega arith) in
    omega arith

pub walk-place-requires : goal.walk-place-requires
walk-place-requires c =
    let a = c.args in (
      walk-room a.file.now a.v c.requires.0.0 c.requires.0.1 a.c c.requires.1.rank (here (goal.at.walk-place-requires c).Start) a.n (below (goal.at.walk-place-requires c).Start),
      omega arith,
      walk-within a.file.now a.v c.requires.0.0 c.requires.0.1 a.c c.requires.1.rank (here (goal.at.walk-place-requires c).Start) a.n (below (goal.at.walk-place-requires c).Start),
    )

pub overflow_add-c : goal.overflow_add-c
overflow_add-c c =
    let a = c.args in
    let k = (walk-room a.file.now a.v c.requires.0.0 c.requires.0.1 a.c c.requires.1.rank (here (goal.at.overflow_add-c c).Start) a.n (below (goal.at.overflow_add-c c).Start)).rank in
    record { fits = omega arith }

pub overflow_cast-c : goal.overflow_cast-c
overflow_cast-c c =
    let a = c.args in
    record { fits = walk-position a.file.now a.v c.requires.0.0 c.requires.0.1 a.c c.requires.1.rank (here (goal.at.overflow_cast-c c).Start) a.n (below (goal.at.overflow_cast-c c).Start) c.walk-place.result None c.walk-place.ensures c.walk-place.ensures.all }

pub overflow_cast-c-2 : goal.overflow_cast-c-2
overflow_cast-c-2 c =
    let a = c.args in
    record { fits = walk-taken a.file.now a.v c.requires.0.0 c.requires.0.1 a.c c.requires.1.rank (here (goal.at.overflow_cast-c-2 c).Start) a.n (below (goal.at.overflow_cast-c-2 c).Start) c.walk-place.result None c.walk-place.ensures c.walk-place.ensures.all }

pub returns : goal.returns
returns c =
    let a = c.args in
    walk_steps a.file.now a.v c.requires.0.0 c.requires.0.1 a.c c.requires.1.rank (here (goal.at.returns c).Start) a.n (below (goal.at.returns c).Start) c.walk-place.result None c.walk-place.ensures c.walk-place.ensures.all
