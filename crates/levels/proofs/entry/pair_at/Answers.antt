-- `pair_at` meets its contract. Assumes nothing.
use native.Mathlib.Omega.{arith}
use Rattle.levels.proofs.Reading.{entry_at}
use Rattle.levels.proofs.entry.pair_at.Goals as goal

-- `pair_at` meets its contract. Assumes nothing.
pub returns : goal.returns
returns c =
    let a = c.args in
    let x = c.get_pair.ensures in
    (rw (entry_at a.start a.file.now a.number (omega arith), x.0), x.1, x.2)
