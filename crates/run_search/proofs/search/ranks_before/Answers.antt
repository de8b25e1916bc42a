-- `run_search::search::ranks_before` meets its contract. Assumes nothing.
use Prim.Native.Nat.{◌-◌}
use mathlib.Core.Path.{◌≡◌, ap}
use native.Mathlib.Omega.{arith}
use Rattle.wire.specs.declared.Pair.{Pair}
use Rattle.run_search.specs.Before.{last_at, empty_at}
use Rattle.run_search.proofs.Before.{first-ranks, later_ranks}
use Rattle.run_search.proofs.search.ranks_before.Goals as goal

-- `run_search::search::ranks_before` meets its contract. Assumes nothing.
pub returns-then-j-eq0 : goal.returns-then-j-eq0
returns-then-j-eq0 c = let a = c.args in first-ranks a.file.now a.start a.j c.if-j-eq0.true

pub returns : goal.returns
returns c =
    let a = c.args in
    let x = c.run-before in
    let l : x.result.first ≡ last_at a.file.now a.start (a.j - 1) = ap (λ (p : Pair). p.first) x.ensures in
    let y : x.result.second ≡ empty_at a.file.now a.start (a.j - 1) = ap (λ (p : Pair). p.second) x.ensures in
    let r = later_ranks a.file.now a.start a.j c.if-j-eq0.false in
    omega arith
