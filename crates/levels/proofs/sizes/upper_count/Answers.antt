-- `upper_count` meets its contract: what is counted, with the entries above the level, is all. Assumes nothing.
use mathlib.Core.Path.{◌≡◌}
use Prim.Native.Nat.{◌+◌}
use native.Mathlib.Omega.{arith}
use Rattle.format.specs.Tools.{up_to}
use Rattle.format.specs.PagedRuns.{upper_entries}
use Rattle.laws.proofs.Bounds.{up_to_half, upper_entries_le}
use Rattle.laws.proofs.Accumulation.{one_more_entries, no_more_entries}
use Rattle.levels.proofs.sizes.upper_count.Goals.{In-loop-level}
use Rattle.levels.proofs.sizes.upper_count.Goals as goal

-- the entries counted so far, with those of the next level and those above it
turn : (c : In-loop-level)
    → c.loop-level.entries + up_to c.loop-level.level c.args.b
    + upper_entries c.args.b (up_to c.loop-level.level c.args.b)
    ≡ upper_entries c.args.b c.args.v
turn c =
    let l = c.loop-level in
    let i = l.invariant.1 in
    omega (arith, one_more_entries c.args.b l.level c.requires.0 c.loop-level-test.true)

pub overflow_add-entries : goal.overflow_add-entries
overflow_add-entries c =
    let m = upper_entries_le c.args.b c.args.v c.requires.0 in
    let t = turn (goal.at.overflow_add-entries c).In-loop-level in
    let e = c.pages-level.ensures in
    record { fits = omega arith }

pub loop-level-smaller : goal.loop-level-smaller
loop-level-smaller c =
    omega (arith, c.pages-level.ensures, up_to_half c.loop-level.level c.args.b c.requires.0, c.loop-level-test.true)

pub loop-level-preserved : goal.loop-level-preserved
loop-level-preserved c = let l = loop-level-smaller c in (omega arith, rw c.pages-level.ensures (turn (goal.at.loop-level-preserved c).In-loop-level))

pub returns : goal.returns
returns c =
    let l = c.loop-level in
    let i = l.invariant.1 in
    let m = upper_entries_le c.args.b c.args.v c.requires.0 in
    let e = no_more_entries c.args.b l.level c.loop-level-test.false in
    (omega arith, omega arith)
