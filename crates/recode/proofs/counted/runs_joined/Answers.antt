use native.Mathlib.Omega.{arith}
use lib.ListN.{drop}
use Rattle.format.specs.Accepted.{positions_of}
use Rattle.recode.proofs.RunEdits.{joint-there, joint-none}
use Rattle.recode.proofs.counted.runs_joined.Goals as goal

pub rank_begins-requires : goal.rank_begins-requires
rank_begins-requires c = (c.requires.0, c.requires.1)

pub returns-in_default : goal.returns-in_default
returns-in_default c =
    let g = c.args in
    let y = c.rank_begins.ensures in
    rw c.in_default.is (joint-none g.end _ (drop g.after (positions_of g.file.now)) y.0 y.1)

pub overflow_add-p : goal.overflow_add-p
overflow_add-p c = let h = c.requires.2 c.in-Some.p c.in-Some.is in omega arith

pub rank_begins-requires-2 : goal.rank_begins-requires-2
rank_begins-requires-2 c = (c.requires.0, c.requires.1)

pub returns : goal.returns
returns c =
    let g = c.args in
    let x = c.run_begins.ensures in
    let y = c.rank_begins-2.ensures in
    rw c.in-Some.is (joint-there g.end c.in-Some.p.0 _ _ (drop g.after (positions_of g.file.now)) x.0 y.0 x.1 y.1)
