use Rattle.std.proofs.Common.{suc, ◌∙◌, rules}
use Rattle.run_search.proofs.Before.{cells_by, cells_test, run_as}
use Rattle.run_search.proofs.search.run_at.Goals as goal

pub returns : goal.returns
returns c =
    let a = c.args in
    run_as _ _ _ _ _ _ _ (cells_by a.file.now a.start) (c.last_run.ensures (λ y. suc y.first) a.p (λ y r f s t. search rules ∙ cells_test y.first a.p))
