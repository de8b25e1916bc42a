use mathlib.Core.Path.{subst}
use native.Mathlib.Omega.{arith}
use Rattle.std.specs.Prelude.{Ok}
use Rattle.format.specs.declared.RankAnswer.{RankAnswer}
use Rattle.format.specs.Answers.{rank_says}
use Rattle.search.specs.Searched.{RankSearched}
use Rattle.writing.proofs.Writing.{place-answer, below-place, empty-there, stored_there, edit-empty, edit-stored, rank-small}
use Rattle.writing.proofs.write.edit_of.Goals as goal

pub returns-in_default : goal.returns-in_default
returns-in_default c =
    let g = c.args in
    let w = c.requires in
    let f = c.find-found in
    let r = c.rank_answer-answer in
    let s = place-answer g.file.now g.v w.0 g.p g.word w.1 f.result f.ensures r.result r.ensures in
    let a = empty-there g.file.now g.v w.0 g.p g.word w.1 r.result c.in_default.not-Rank s in
    edit-empty g.file.now g.v w.0 g.p g.word w.1 a _
    (below-place g.file.now g.v w.0 g.p g.word w.1 f.result f.ensures) _ c.then_some-added.ensures

pub overflow_add-result : goal.overflow_add-result
overflow_add-result c =
    let g = c.args in
    let w = c.requires in
    let f = c.find-found in
    let r = c.rank_answer-answer in
    let s = place-answer g.file.now g.v w.0 g.p g.word w.1 f.result f.ensures r.result r.ensures in
    let h = rank-small g.file.now g.v g.p.0 _ (subst (λ (a : RankAnswer). RankSearched g.file.now g.v g.p.0 (rank_says (Ok a))) c.in-Rank.is s) in
    let k = c.ranges in
    omega arith

pub returns : goal.returns
returns c =
    let g = c.args in
    let w = c.requires in
    let f = c.find-found in
    let r = c.rank_answer-answer in
    let s = place-answer g.file.now g.v w.0 g.p g.word w.1 f.result f.ensures r.result r.ensures in
    let t = subst (λ (a : RankAnswer). RankSearched g.file.now g.v g.p.0 (rank_says (Ok a))) c.in-Rank.is s in
    edit-stored g.file.now g.v w.0 g.p g.word w.1 _ (stored_there g.file.now g.v w.0 g.p g.word w.1 _ t) _ c.then_some-added.ensures
