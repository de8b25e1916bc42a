use mathlib.Core.Path.{sym, ◌∙◌}
use Rattle.laws.proofs.Tools.{some_is, not_some}
use Rattle.exports.proofs.BoxCalls.{low_corner, high_corner, same-boxed}
use Rattle.exports.proofs.boxes.put_words.Goals as goal

pub returns-in_default : goal.returns-in_default
returns-in_default c =
    let a = c.args in
    low_corner a.file.now a.low.now a.high.now a.dst.now _ c.corner_refused.ensures (not_some _ _ _ c.as_four.ensures c.in_default.not-Some)

pub returns-in_default-as_four : goal.returns-in_default-as_four
returns-in_default-as_four c =
    let a = c.args in
    high_corner a.file.now a.low.now a.high.now a.dst.now _ c.corner_refused-in_default-as_four.ensures (not_some _ _ _ c.as_four-2.ensures c.in_default-as_four.not-Some)

pub returns : goal.returns
returns c =
    let a = c.args in
    let e = some_is _ _ _ (sym c.in-Some.is ∙ c.as_four.ensures) in
    let f = some_is _ _ _ (sym c.in-Some-as_four.is ∙ c.as_four-2.ensures) in
    same-boxed a.file.now _ _ a.low.now a.high.now a.dst.now e.1 f.1 _ _ c.box_words.ensures
