-- A walk from a place on, group by group. Assumes nothing.
use native.Mathlib.Nat.{le_refl, sub_self}
use native.Mathlib.Omega.{arith}
use Rattle.std.proofs.Common.{rules}
use Rattle.std.proofs.lemmas.Option.{MatchOption-at_some}
use Rattle.differences.proofs.Walked.{walked_start, walked_further}
use Rattle.differences.proofs.walk.walk.Goals as goal

pub loop-r-init : goal.loop-r-init
loop-r-init c =
    let a = c.args in
    let f = a.from in (
      le_refl _,
      c.requires.1,
      rw (sub_self f.rank) (walked_start a.width a.start a.second a.file.now f.rank f.reached),
      c.requires.2,
      λ x e h. absurd (omega arith),
    )

pub loop-r-preserved : goal.loop-r-preserved
loop-r-preserved c =
    let a = c.args in
    let l = c.loop-r in
    let i = l.invariant in
    let i0 = i.0 in
    let m = c.next_group-m.ensures.0 in
    let w = c.walk_group-next.ensures in (
      omega arith,
      omega arith,
      walked_further a.width a.start a.second a.file.now a.from.rank l.r _ a.from.reached i0 i.2 w.0,
      w.1,
      λ x e h. let q = MatchOption-at_some _ _ x e c.is_some_and.ensures in search rules,
    )
