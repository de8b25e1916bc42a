use native.Mathlib.Omega.{arith}
use Rattle.parts.proofs.Seen.{seen}
use Rattle.recode.proofs.Recoding.{recode_laid, second-small, parts_apart, words_fit, all-out, recode_file}
use Rattle.recode.proofs.put_recoded.Goals as goal

pub put_header-requires : goal.put_header-requires
put_header-requires c =
    let g = c.args in
    let w = c.requires in
    let l = recode_laid g.file.now g.v w.0 g.x g.word w.1 g.s g.dst.now g.z w.2 in
    (l.long, l.fitting)

pub put_parts-requires : goal.put_parts-requires
put_parts-requires c =
    let g = c.args in
    let w = c.requires in (
      w.0,
      w.1.edit,
      w.2.allowed,
      parts_apart g.file.now g.v w.0 g.x g.word w.1 g.s g.dst.now g.z w.2 _ c.read_dimensions.ensures _ c.put_header.ensures,
      omega arith,
      second-small g.file.now g.v w.0 g.x g.word w.1 g.s g.dst.now g.z w.2,
    )

pub put_words-requires : goal.put_words-requires
put_words-requires c =
    let g = c.args in
    let w = c.requires in
    (w.0, w.1.edit, words_fit g.file.now g.v w.0 g.x g.word w.1 g.s g.dst.now g.z w.2 _ c.read_dimensions.ensures _ c.put_header.ensures _ c.put_parts.ensures)

pub put_derived-requires : goal.put_derived-requires
put_derived-requires c =
    let g = c.args in
    let w = c.requires in (
      w.2.allowed,
      omega arith,
      rw (all-out g.file.now g.v w.0 g.x g.word w.1 g.s g.dst.now g.z w.2 _ c.read_dimensions.ensures _ c.put_header.ensures _ c.put_parts.ensures _ c.put_words.ensures)
          (recode_laid g.file.now g.v w.0 g.x g.word w.1 g.s g.dst.now g.z w.2).derivable,
    )

pub returns : goal.returns
returns c =
    let g = c.args in
    let w = c.requires in
    recode_file g.file.now g.v w.0 g.x g.word w.1 g.s g.dst.now g.z w.2 _ c.read_dimensions.ensures _ c.put_header.ensures _ c.put_parts.ensures _ c.put_words.ensures _
    c.put_derived.ensures

pub read_dimensions-requires : goal.read_dimensions-requires
read_dimensions-requires c = (seen _ _ c.requires.0).header.right.long
