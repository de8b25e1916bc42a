use Rattle.std.proofs.Common.{◌∙◌, lt-ltb}
use Rattle.wire.specs.Wire.{add32}
use Rattle.parts.specs.Cursor.{along_run}
use Rattle.page_walk.specs.Steps.{next_in, next}
use Rattle.page_walk.proofs.Walk.{next-entered}
use Rattle.paged_runs.proofs.steps.next.Goals as goal

pub returns-then-c : goal.returns-then-c
unfolding next next_in along_run add32
returns-then-c c = rw (lt-ltb _ _ c.if-c.true)

pub returns : goal.returns
returns c =
    c.enter.ensures
    ∙ next-entered _ _ _ _ _ c.if-c.false c.page_of-p.ensures c.load_pair.ensures
