-- `past_page` meets its contract. Assumes nothing.
use Rattle.page_walk.proofs.Along.{past_path}
use Rattle.page_walk.proofs.check.past_page.Goals as goal

-- `past_page` meets its contract. Assumes nothing.
pub returns : goal.returns
returns c =
    let a = c.args in
    rw (c.from.ensures, c.from-2.ensures) (past_path a.s a.x a.y _ c.fall.ensures.0)
