-- `pages` meets its contract. Assumes nothing.
use native.Mathlib.Omega.{arith}
use Rattle.laws.proofs.Bounds.{up_to_le}
use Rattle.levels.proofs.Shares.{by_share, share_fits}
use Rattle.levels.proofs.sizes.pages.Goals as goal

-- `pages` meets its contract. Assumes nothing.
pub overflow_mul-result : goal.overflow_mul-result
overflow_mul-result c =
    let s = c.requires in
    rw s.3 (record { fits = omega (arith, share_fits c.from.result c.args.step s.0 (omega arith)) })

pub returns : goal.returns
returns c =
    let s = c.requires in
    rw (s.3, c.from.ensures) (by_share _ _ s.0 s.1 (omega arith))

pub overflow_cast-result : goal.overflow_cast-result
overflow_cast-result c =
    let a = c.args in
    record { fits = omega (arith, returns c, up_to_le a.size a.step (omega arith)) }
