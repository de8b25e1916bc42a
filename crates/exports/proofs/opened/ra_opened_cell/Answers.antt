use Rattle.std.specs.Prelude.{Err}
use Rattle.format.specs.declared.Refusal.TheVariants as rf
use Rattle.format.specs.Signals.{BEYOND}
use Rattle.format.specs.File.{WholeHeader}
use Rattle.format.specs.Answers.{refused, cell_says}
use Rattle.format.specs.Lookups.{cell_answer}
use Rattle.format.specs.Opened.{FreeWord, beyond}
use Rattle.c_values.proofs.Coded.{cell_coded}
use Rattle.exports.proofs.Answered.{short-refused, cell_unchecked_lem}
use Rattle.exports.proofs.opened.ra_opened_cell.Goals.{Else-not-whole_header}
use Rattle.exports.proofs.opened.ra_opened_cell.Goals as goal

pub returns-then-not-whole_header : goal.returns-then-not-whole_header
returns-then-not-whole_header c =
    let g = c.args in
    let b = g.file.now in
    record {
      answer = refused BEYOND;
      right = short-refused b (cell_answer b g.place) FreeWord (c.whole_header.ensures.short (c.if-not-whole_header.true)) beyond;
      code = cell_coded (Err rf.Beyond) _ c.cell_code.ensures;
    }

whole : (c : Else-not-whole_header) → WholeHeader c.args.file.now
whole c = c.whole_header.ensures.there (c.if-not-whole_header.false)

pub returns : goal.returns
returns c =
    let g = c.args in
    record {
      answer = cell_says c.cell_in.result;
      right =
          cell_unchecked_lem g.file.now _ c.read_view.ensures (whole (goal.at.returns c).Else-not-whole_header) g.place
          (cell_says c.cell_in.result)
          c.cell_in.ensures;
      code = cell_coded _ _ c.cell_code-2.ensures;
    }

pub read_view-requires : goal.read_view-requires
read_view-requires c = whole c
