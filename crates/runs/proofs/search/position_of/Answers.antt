-- `runs::search::position_of` meets its contract. Assumes nothing.
use Rattle.std.proofs.Common.{◌≡◌, ap, arith}
use Rattle.wire.specs.declared.Pair.{Pair}
use Rattle.run_search.specs.Before.{empty_at}
use Rattle.runs.proofs.Lookup.{position}
use Rattle.runs.proofs.search.position_of.Goals as goal

-- `runs::search::position_of` meets its contract. Assumes nothing.
pub returns : goal.returns
returns c =
    let a = c.args in
    let j = c.run_with-j in
    let y : c.run.result.second ≡ empty_at a.file.now a.v.start j.result = ap (λ (x : Pair). x.second) c.run.ensures in
    record { right = λ ls h k. let q = position a.file.now a.v ls h a.r.0 j.result j.ensures k in omega arith }
