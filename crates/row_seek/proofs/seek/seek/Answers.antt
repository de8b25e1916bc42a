-- Where the cursor stands below p, the ranks after it are sought. Assumes nothing.
use Prim.Native.Nat.{◌-◌}
use mathlib.Core.Path.{◌≡◌, refl, sym, ◌∙◌}
use mathlib.Core.Bool.{true, false}
use native.Mathlib.Omega.{arith}
use Rattle.kinds.specs.Steps.{by_walk, stores_runs}
use Rattle.kinds.proofs.None.{never}
use Rattle.kinds.proofs.Walks.{climbs}
use Rattle.row_seek.proofs.Seeking.{reached_between, reached_walk}
use Rattle.row_seek.proofs.seek.seek.Goals.{Else-by_walk, Else-stores_runs, Then-by_walk}
use Rattle.row_seek.proofs.seek.seek.Goals as goal

-- Where the cursor stands below p, the ranks after it are sought. Assumes nothing.
-- the kind is sought by a walk
by_walk_lem : (c : Then-by_walk) → by_walk c.args.v.kind ≡ true
by_walk_lem c = sym c.by_walk.ensures ∙ c.if-by_walk.true

pub seek-requires : goal.seek-requires
seek-requires c =
    (by_walk_lem c, climbs c.args.file.now c.args.v c.requires.0 c.args.c (c.requires.2.ahead (by_walk_lem c)))

pub returns-then-by_walk : goal.returns-then-by_walk
returns-then-by_walk c =
    let a = c.args in
    rw c.seek.ensures
    (reached_walk a.file.now a.v c.requires.0 (by_walk_lem (goal.at.returns-then-by_walk c).Then-by_walk) (a.v.words - a.c.rank) a.c a.p.0 c.requires.2
    (omega arith))

-- it is not
not-by-walk : (c : Else-by_walk) → by_walk c.args.v.kind ≡ false
not-by-walk c = sym c.by_walk.ensures ∙ c.if-by_walk.false

pub along_runs-requires : goal.along_runs-requires
along_runs-requires c =
    (c.requires.0, c.stores_runs.ensures.0 c.if-stores_runs.true, c.requires.1, c.requires.2, c.if-v-c.false, c.if-p-c.false)

-- the kind stores no runs
no_runs : (c : Else-stores_runs) → stores_runs c.args.v.kind → ⊥
no_runs c h = never (sym c.if-stores_runs.false ∙ c.stores_runs.ensures.1 h)

pub gallop-requires : goal.gallop-requires
gallop-requires c =
    let more = c.if-v-c.false in
    (c.requires.0, more, rw (← c.requires.2.at more) c.if-p-c.false)

pub returns : goal.returns
returns c =
    let r = c.narrowed-g in
    reached_between c.args.file.now c.args.v c.requires.0 _ r.result _ (not-by-walk (goal.at.returns c).Else-by_walk) (no_runs (goal.at.returns c).Else-stores_runs) r.ensures.0 r.ensures.1 refl refl

pub returns-then-stores_runs : goal.returns-then-stores_runs
returns-then-stores_runs c = c.along_runs.ensures
