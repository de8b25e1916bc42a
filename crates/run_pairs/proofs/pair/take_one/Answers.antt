-- `run_pairs::pair::take_one` meets its contract. Assumes nothing.
use mathlib.Core.Path.{sym, ◌∙◌}
use Rattle.run_pairs.proofs.Adds.{taken-pair, taken_none}
use Rattle.run_pairs.proofs.pair.take_one.Goals as goal

-- `run_pairs::pair::take_one` meets its contract. Assumes nothing.
pub returns-then-run_ends : goal.returns-then-run_ends
returns-then-run_ends c =
    let a = c.args in
    c.move_on.ensures ∙ taken-pair a.e a.p (sym c.run_ends.ensures ∙ c.if-run_ends.true)

pub returns : goal.returns
returns c =
    let a = c.args in
    c.move_on-2.ensures ∙ taken_none a.e a.p (sym c.run_ends.ensures ∙ c.if-run_ends.false)
