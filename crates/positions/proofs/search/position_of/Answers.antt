use Rattle.std.proofs.Common.{◌∙◌}
use Rattle.positions.proofs.Held.{entry_at}
use Rattle.positions.proofs.search.position_of.Goals as goal

pub returns : goal.returns
returns c =
    let a = c.args in
    record { right = λ ls h k. c.from.ensures ∙ c.load_u32.ensures.0 ∙ entry_at a.file.now a.v ls h a.r.0 k }
