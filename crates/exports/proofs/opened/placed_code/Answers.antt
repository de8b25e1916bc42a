use Rattle.std.specs.Prelude.{Err}
use Rattle.format.specs.declared.Refusal.TheVariants as rf
use Rattle.format.specs.Signals.{BEYOND}
use Rattle.format.specs.Answers.{refused}
use Rattle.search.specs.Searched.{position_from}
use Rattle.search.proofs.Places.{position_past, position-found}
use Rattle.c_values.proofs.Coded.{position_coded}
use Rattle.exports.proofs.opened.placed_code.Goals as goal

pub returns-then-v-r : goal.returns-then-v-r
returns-then-v-r c = record { answer = refused BEYOND; right = position_past _ _ _ c.if-v-r.true; code = position_coded (Err rf.Beyond) _ c.position_code.ensures }

pub returns : goal.returns
returns c =
    let at = c.placed_position.result in
    record {
      answer = position_from at _;
      right = position-found _ _ _ at c.if-v-r.false c.placed_position.ensures;
      code = c.found_code.ensures;
    }
