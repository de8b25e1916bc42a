use mathlib.Core.Path.{ap, ◌∙◌}
use Rattle.kinds.specs.Steps.{next_of, start_of}
use Rattle.kinds.proofs.steps.start.Goals as goal

pub returns : goal.returns
unfolding start_of
returns c = let a = c.args in c.next.ensures ∙ ap (next_of a.file.now a.v) c.before_first.ensures
