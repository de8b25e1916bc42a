use Rattle.std.proofs.Common.{arith, rules}
use Rattle.laws.proofs.Tools.{and_both}
use Rattle.parts.specs.Ready.{passed}
use Rattle.base_groups.proofs.Adds.{taken_group}
use Rattle.base_groups.proofs.Grouped.{next-first, Sized, sized}
use Rattle.base_groups.proofs.coding.take_group.Goals.{After-with_base-e}
use Rattle.base_groups.proofs.coding.take_group.Goals as goal

-- the numbers do not wrap
small : (c : After-with_base-e) → let a = c.args in Sized a.width c.with_base-e.result a.ps.now
small c =
    let a = c.args in
    sized a.step a.e a.ps.now c.requires.0 a.width c.with_base-e.result c.requires.2 c.with_base-e.ensures

pub bounds-ps-0 : goal.bounds-ps-0
bounds-ps-0 c = let s = c.requires.0.some in omega arith

pub with_base-e-requires : goal.with_base-e-requires
with_base-e-requires c = next-first c.args.step c.args.e c.args.ps.now c.requires.0

pub overflow_sub-last : goal.overflow_sub-last
overflow_sub-last c = let s = c.requires.0.some in search rules

pub bounds-ps-n : goal.bounds-ps-n
bounds-ps-n c = let s = c.requires.0.some in omega arith

pub overflow_cast-result : goal.overflow_cast-result
overflow_cast-result c = let z = (small (goal.at.overflow_cast-result c).After-with_base-e).ranks in search rules

pub overflow_add-result : goal.overflow_add-result
overflow_add-result c = let z = (small (goal.at.overflow_add-result c).After-with_base-e).ranks in search rules

pub overflow_cast-result-2 : goal.overflow_cast-result-2
overflow_cast-result-2 c = let z = (small (goal.at.overflow_cast-result-2 c).After-with_base-e).ranks in search rules

pub overflow_sub-result : goal.overflow_sub-result
overflow_sub-result c = let z = (small (goal.at.overflow_sub-result c).After-with_base-e).left in search rules

pub overflow_mul-result : goal.overflow_mul-result
overflow_mul-result c =
    let z = small (goal.at.overflow_mul-result c).After-with_base-e in
    let n = z.ranks in
    let b = z.bytes in
    search rules

pub overflow_add-result-2 : goal.overflow_add-result-2
overflow_add-result-2 c =
    let z = small (goal.at.overflow_add-result-2 c).After-with_base-e in
    let n = z.ranks in
    let b = z.bytes in
    let s = z.second in
    search rules

pub overflow_sub-result-2 : goal.overflow_sub-result-2
overflow_sub-result-2 c = let z = (small (goal.at.overflow_sub-result-2 c).After-with_base-e).base in search rules

pub returns : goal.returns
returns c =
    let a = c.args in
    let o = c.requires.0 in
    rw (c.limit.ensures, and_both c.with_base-e.result.fits _, c.with_base-e.ensures)
    (taken_group a.width a.step a.e a.ps.now (passed a.e) 16777216 c.requires.3 o.some o.served o.along.rising)
