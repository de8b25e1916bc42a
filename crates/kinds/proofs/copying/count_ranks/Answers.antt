use Rattle.kinds.proofs.Jumping.{some_held, asks_reached, asks_along, gives_walk}
use Rattle.kinds.proofs.copying.count_ranks.Goals as goal

pub take_ranks-requires : goal.take_ranks-requires
take_ranks-requires c =
    let a = c.args in
    let p = c.requires in
    let b = a.file.now in (
      some_held b a.v p.2 p.1.0,
      asks_reached b a.v a.s p.1 a.c a.e a.n p.3,
      asks_along b a.v a.s p.1 a.c a.e a.n p.4,
    )

pub returns : goal.returns
returns c =
    let a = c.args in
    gives_walk a.file.now a.v a.s c.requires.1 a.c a.e a.n _ c.take_ranks.ensures
