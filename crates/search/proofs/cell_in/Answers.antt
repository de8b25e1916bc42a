use Rattle.std.proofs.lemmas.Result.{err_from_is_err_and}
use Rattle.search.proofs.Cells.{cell-searched, cell-empty}
use Rattle.search.proofs.cell_in.Goals as goal

pub returns-in_err-rank : goal.returns-in_err-rank
returns-in_err-rank c =
    let g = c.args in
    let p = err_from_is_err_and c.from_residual.result c.from_residual.ensures.1 in
    let s = rw c.in_err-rank.was at c.rank_in.ensures in
    rw (p.1, p.2) (cell-searched g.file.now g.v g.p.0 _ s)

pub returns-in_default : goal.returns-in_default
returns-in_default c =
    let g = c.args in
    cell-empty g.file.now g.v g.p.0 _ c.in_default.not-Rank (rw c.in_ok-rank.was at c.rank_in.ensures)

pub returns : goal.returns
returns c =
    let g = c.args in
    rw c.load_u32.ensures.0 (cell-searched g.file.now g.v g.p.0 _ (rw (c.in_ok-rank.was, c.in-Rank.is) at c.rank_in.ensures))
