-- The numbers of the merged dimension are no more than the cells. Assumes nothing.
use native.Mathlib.Omega.{arith}
use Rattle.box_region.specs.Region.{Four}
use Rattle.box_region.proofs.Regions.{row-few, row_low, row-high, merged_same}
use borrow.Author.Rules.{rules}
use Rattle.box_region.proofs.region.merged.Goals.{Start}
use Rattle.box_region.proofs.region.merged.Goals as goal

-- The numbers of the merged dimension are no more than the cells. Assumes nothing.
four : (c : Start) → Four c.args.r
four c = (search rules, search rules, search rules)

pub overflow_mul-result : goal.overflow_mul-result
overflow_mul-result c =
    let k = row-few c.args.r (four (goal.at.overflow_mul-result c).Start) c.requires.0 in
    record { fits = omega arith }

pub overflow_mul-result-2 : goal.overflow_mul-result-2
overflow_mul-result-2 c =
    let k = row-few c.args.r (four (goal.at.overflow_mul-result-2 c).Start) c.requires.0 in
    let l = row_low c.args.r (four (goal.at.overflow_mul-result-2 c).Start) c.requires.0 in
    let h = row-high c.args.r (four (goal.at.overflow_mul-result-2 c).Start) c.requires.0 in
    record { fits = omega arith }

pub overflow_mul-result-3 : goal.overflow_mul-result-3
overflow_mul-result-3 c =
    let k = row-few c.args.r (four (goal.at.overflow_mul-result-3 c).Start) c.requires.0 in
    let h = row-high c.args.r (four (goal.at.overflow_mul-result-3 c).Start) c.requires.0 in
    record { fits = omega arith }

pub overflow_add-result : goal.overflow_add-result
overflow_add-result c =
    let k = row-few c.args.r (four (goal.at.overflow_add-result c).Start) c.requires.0 in
    let h = row-high c.args.r (four (goal.at.overflow_add-result c).Start) c.requires.0 in
    record { fits = omega arith }

pub returns : goal.returns
returns c =
    merged_same c.args.r (four (goal.at.returns c).Start) c.requires.0 c.requires.1 c.requires.2
