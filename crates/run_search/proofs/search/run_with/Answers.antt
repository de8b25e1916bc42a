use Rattle.std.proofs.Common.{suc, ◌-◌, ◌∙◌, rules}
use Rattle.run_search.proofs.Before.{ranks_by, ranks_test, run_as}
use Rattle.run_search.proofs.search.run_with.Goals as goal

pub returns : goal.returns
returns c =
    let a = c.args in
    run_as _ _ _ _ _ _ _ (ranks_by a.file.now a.start) (c.last_run.ensures (λ y. suc y.first - y.second) a.r (λ y r f s t. search rules ∙ ranks_test y.first y.second a.r))
