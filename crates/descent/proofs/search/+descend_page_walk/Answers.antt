-- `page_walk` and `descend` meet their contracts. Assumes nothing.
use Rattle.std.proofs.Common.{◌≡◌, ◌-◌, ◌*◌, ◌<◌, min, get_or, refl, ◌∙◌, arith}
use Rattle.levels.specs.Levels.{span_of}
use Rattle.descent.proofs.CheckSteps.{none-in_one, same-in_one, walk_none, descent-page, found_leaf, found_below, page-entries, page_down_lem, page-fits}
use Rattle.descent.proofs.search.+descend_page_walk.Goals as goal

-- ---- to the page below

pub descend-returns-then-size-first : goal.descend-returns-then-size-first
descend-returns-then-size-first t c =
    let a = c.args in
    let e = c.size_at-size.ensures.0 in
    let h = c.if-size-first.true in
    let z : min a.step (get_or a.sizes.now (a.level - 1) 0 - a.entry * a.step) ≡ 0 = omega (arith, e) in
    none-in_one (descent-page _ _ _ c.args.asked _ _ _ _ _ _ _ c.requires.some ∙ walk_none _ _ _ c.args.asked _ _ _ _ _ _ _ (omega (arith, z)))

pub descend-page_walk-requires : goal.descend-page_walk-requires
descend-page_walk-requires t c =
    let a = c.args in
    let f = c.requires in
    let e = c.size_at-size.ensures.0 in
    let l = c.if-size-first.false in
    let h : a.entry * a.step < get_or a.sizes.now (a.level - 1) 0 = omega (arith, e) in
    (omega (arith, f.some), rw (c.min-left.ensures, e) (page-fits _ _ _ _ _ _ _ _ f h))

pub descend-returns : goal.descend-returns
descend-returns t c =
    rw (descent-page _ _ _ c.args.asked _ _ _ _ _ _ _ c.requires.some)
    (rw (c.min-left.ensures, c.size_at-size.ensures.0) at c.page_walk.ensures)

-- ---- along a page

pub page_walk-returns-then-left-k : goal.page_walk-returns-then-left-k
page_walk-returns-then-left-k t c = none-in_one (walk_none _ _ _ c.args.asked _ _ _ _ _ _ _ (rw (c.entries_passed-k.ensures.0, c.for_rank-stored.ensures) at c.if-left-k.true))

pub page_walk-returns-then-level-eq0 : goal.page_walk-returns-then-level-eq0
page_walk-returns-then-level-eq0 t c =
    let n = c.entries_passed-k in
    let x = c.entry_before-c in
    let y = c.pair_at-y in
    let e = c.from-then-level-eq0.ensures in
    same-in_one _ _ _
    (found_leaf _ _ _ c.args.asked _ _ _ _ _ _ _ n.result (span_of x.result) (span_of y.result) (rw c.for_rank-stored.ensures at n.ensures.0) c.if-left-k.false
    (page-entries _ _ _ _ _ _ _ _ _ c.requires) x.ensures.0 y.ensures.0 c.if-level-eq0.true)
    (e ∙ rw (c.count.ensures, c.from.ensures, c.for_rank-stored.ensures) at c.answer.ensures, omega arith)

pub page_walk-descend-requires : goal.page_walk-descend-requires
page_walk-descend-requires t c =
    let e = c.size_at.ensures in
    let l = c.if-level-eq0.false in
    (omega arith, rw (e.0, c.from.ensures) (page_down_lem _ _ _ _ _ _ _ _ _ c.requires _ _ c.if-left-k.false (omega (arith, l)) (rw e.0 at e.1) c.entry_before-c.ensures.2))

pub page_walk-returns : goal.page_walk-returns
page_walk-returns t c =
    let n = c.entries_passed-k in
    let x = c.entry_before-c in
    let l = c.if-level-eq0.false in
    same-in_one _ _ _
    (found_below _ _ _ c.args.asked _ _ _ _ _ _ _ n.result (span_of x.result) _ (rw c.for_rank-stored.ensures at n.ensures.0) c.if-left-k.false
    (page-entries _ _ _ _ _ _ _ _ _ c.requires) x.ensures.0 refl (omega (arith, l)))
    (rw (c.size_at.ensures.0, c.count.ensures, c.from.ensures, c.for_rank-stored.ensures) at c.descend.ensures)
