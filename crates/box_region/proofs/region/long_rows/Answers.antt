-- The cells stay the same. Assumes nothing.
use native.Mathlib.Omega.{arith}
use Rattle.box_region.proofs.Regions.{last-inside, same-placed, same_start, same_again}
use borrow.Author.Rules.{rules}
use Rattle.box_region.proofs.region.long_rows.Goals as goal

pub loop-init : goal.loop-init
loop-init c = same_start c.args.r (search rules, search rules, search rules) c.requires

pub overflow_sub-e : goal.overflow_sub-e
overflow_sub-e c =
    let l = c.loop in
    let k = last-inside l.r l.invariant.four (same-placed c.args.r l.r c.requires l.invariant) in
    omega arith

pub merged-r-requires : goal.merged-r-requires
merged-r-requires c =
    let l = c.loop in
    let z = c.if-l-ne0.false in
    (same-placed c.args.r l.r c.requires l.invariant, z, omega arith)

pub loop-preserved : goal.loop-preserved
loop-preserved c =
    let l = c.loop in
    same_again c.args.r l.r _ l.invariant c.merged-r.ensures
