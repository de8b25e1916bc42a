use Rattle.std.specs.Prelude.{Err}
use Rattle.format.specs.declared.Refusal.TheVariants as rf
use Rattle.format.specs.Signals.{BEYOND}
use Rattle.format.specs.File.{WholeHeader}
use Rattle.format.specs.Answers.{refused, rank_says}
use Rattle.format.specs.Accepted.{words_count}
use Rattle.format.specs.Lookups.{rank_answer}
use Rattle.format.specs.Opened.{Free, beyond}
use Rattle.c_values.proofs.Coded.{rank_coded}
use Rattle.exports.proofs.Answered.{short-refused, rank_unchecked_lem}
use Rattle.exports.proofs.opened.ra_opened_rank.Goals.{Else-not-whole_header}
use Rattle.exports.proofs.opened.ra_opened_rank.Goals as goal

pub returns-then-not-whole_header : goal.returns-then-not-whole_header
returns-then-not-whole_header c =
    let g = c.args in
    let b = g.file.now in
    record {
      answer = refused BEYOND;
      right = short-refused b (rank_answer b g.place) (Free (words_count b)) (c.whole_header.ensures.short (c.if-not-whole_header.true)) beyond;
      code = rank_coded (Err rf.Beyond) _ c.rank_code.ensures;
    }

whole : (c : Else-not-whole_header) → WholeHeader c.args.file.now
whole c = c.whole_header.ensures.there (c.if-not-whole_header.false)

pub returns : goal.returns
returns c =
    let g = c.args in
    record {
      answer = rank_says c.rank_in-answer.result;
      right =
          rank_unchecked_lem g.file.now _ c.read_view-v.ensures (whole (goal.at.returns c).Else-not-whole_header) g.place
          (rank_says c.rank_in-answer.result)
          c.rank_in-answer.ensures;
      code = rank_coded _ _ c.rank_code-2.ensures;
    }

pub read_view-v-requires : goal.read_view-v-requires
read_view-v-requires c = whole c
