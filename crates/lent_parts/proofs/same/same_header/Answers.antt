use mathlib.Core.Path.{sym, ◌∙◌}
use Rattle.lent_parts.proofs.Common.{count_differs, count_agrees}
use Rattle.lent_parts.proofs.same.same_header.Goals as goal

pub returns-then-get_u8 : goal.returns-then-get_u8
returns-then-get_u8 c =
    let a = c.args in
    count_differs a.first.now a.second.now (λ e. c.if-get_u8.true (c.get_u8.ensures.0 ∙ e ∙ sym c.get_u8-2.ensures.0))

pub returns : goal.returns
returns c =
    let a = c.args in
    count_agrees a.first.now a.second.now c.same_numbers.result (sym c.get_u8.ensures.0 ∙ c.if-get_u8.false ∙ c.get_u8-2.ensures.0) c.same_numbers.ensures
