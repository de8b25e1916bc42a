-- `runs::search::run_of` meets its contract. Assumes nothing.
use Rattle.std.proofs.Common.{◌≡◌, ap, arith}
use Rattle.wire.specs.declared.Pair.{Pair}
use Rattle.run_search.specs.Before.{last_at, empty_at}
use Rattle.runs.proofs.Lookup.{run_part}
use Rattle.runs.proofs.search.run_of.Goals as goal

-- `runs::search::run_of` meets its contract. Assumes nothing.
pub returns : goal.returns
returns c =
    let a = c.args in
    let j = c.run_with-j in
    let x = c.run-pair in
    let l : x.result.first ≡ last_at a.file.now a.v.start j.result = ap (λ (x : Pair). x.first) x.ensures in
    let y : x.result.second ≡ empty_at a.file.now a.v.start j.result = ap (λ (x : Pair). x.second) x.ensures in
    record { right = λ ls h k. run_part a.file.now a.v ls h a.r.0 j.result j.ensures k _ (omega arith) (rw l at c.cells_up_to.ensures) }
