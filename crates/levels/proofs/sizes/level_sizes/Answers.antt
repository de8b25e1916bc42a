-- `level_sizes` meets its contract. The loop's invariant is `Storing`; each level is smaller than the one below. Assumes nothing.
use Rattle.levels.proofs.LevelSizes.{storing_first, room-left, less-above, storing_next, stored-all}
use Rattle.levels.proofs.sizes.level_sizes.Goals as goal

pub loop-size-init : goal.loop-size-init
loop-size-init c =
    storing_first c.args.step c.args.seconds c.args.sizes.now c.requires.3 c.requires.2

pub bounds-sizes-count : goal.bounds-sizes-count
bounds-sizes-count c =
    room-left _ _ _ _ _ _ c.requires.0 c.loop-size.invariant c.loop-size-test.true

pub loop-size-smaller : goal.loop-size-smaller
loop-size-smaller c =
    rw c.pages-size.ensures (less-above _ _ _ _ _ _ c.requires.0 c.loop-size.invariant c.loop-size-test.true)

pub loop-size-preserved : goal.loop-size-preserved
loop-size-preserved c =
    rw c.pages-size.ensures
    (storing_next _ _ _ _ _ _ c.requires.0 c.loop-size.invariant c.loop-size-test.true)

pub returns : goal.returns
returns c = stored-all _ _ _ _ _ _ c.requires.0 c.loop-size.invariant c.loop-size-test.false
