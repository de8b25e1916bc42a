use Rattle.std.specs.Prelude.{Err}
use Rattle.format.specs.declared.Refusal.TheVariants as rf
use Rattle.format.specs.Signals.{BEYOND}
use Rattle.format.specs.File.{WholeHeader}
use Rattle.format.specs.Answers.{refused, position_says}
use Rattle.format.specs.Lookups.{position_answer}
use Rattle.format.specs.Opened.{view_of, Free, beyond}
use Rattle.c_values.proofs.Coded.{position_coded}
use Rattle.exports.proofs.Answered.{short-refused, position_unchecked_lem}
use Rattle.exports.proofs.opened.ra_opened_position.Goals.{Else-not-whole_header}
use Rattle.exports.proofs.opened.ra_opened_position.Goals as goal

pub returns-then-not-whole_header : goal.returns-then-not-whole_header
returns-then-not-whole_header c =
    let g = c.args in
    let b = g.file.now in
    record {
      answer = refused BEYOND;
      right = short-refused b (position_answer b g.number) (Free (view_of b).cells) (c.whole_header.ensures.short (c.if-not-whole_header.true)) beyond;
      code = position_coded (Err rf.Beyond) _ c.position_code.ensures;
    }

whole : (c : Else-not-whole_header) → WholeHeader c.args.file.now
whole c = c.whole_header.ensures.there (c.if-not-whole_header.false)

pub placed_code-requires : goal.placed_code-requires
placed_code-requires c = c.placed_by_rank.ensures c.if-placed_by_rank.true

pub returns-then-placed_by_rank : goal.returns-then-placed_by_rank
returns-then-placed_by_rank c =
    let g = c.args in
    let p = c.placed_code.ensures in
    record {
      answer = p.answer;
      right = position_unchecked_lem g.file.now _ c.read_view-v.ensures (whole (goal.at.returns-then-placed_by_rank c).Else-not-whole_header) g.number p.answer p.right;
      code = p.code;
    }

pub returns : goal.returns
returns c =
    let g = c.args in
    record {
      answer = position_says c.position_in.result;
      right =
          position_unchecked_lem g.file.now _ c.read_view-v.ensures (whole (goal.at.returns c).Else-not-whole_header) g.number
          (position_says c.position_in.result)
          c.position_in.ensures;
      code = position_coded _ _ c.position_code-2.ensures;
    }

pub read_view-v-requires : goal.read_view-v-requires
read_view-v-requires c = whole c
