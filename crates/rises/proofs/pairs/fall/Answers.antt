use Rattle.std.proofs.Common.{arith}
use Rattle.rises.proofs.Falls.{follows-not, raised}
use Rattle.rises.proofs.pairs.fall.Goals as goal

pub returns : goal.returns
returns c =
    let a = c.args in
    raised _ _ _ c.from.ensures (follows-not a.x a.y _ _ (omega arith) (omega arith) (omega arith) (omega arith))
