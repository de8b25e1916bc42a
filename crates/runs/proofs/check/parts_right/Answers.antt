-- `runs::check::parts_right` meets its contract. Assumes nothing.
use Rattle.std.proofs.Common.{arith}
use Rattle.laws.proofs.Bounds.{below_elements}
use Rattle.run_walk.proofs.Body.{inside, no_parts, parts_by}
use Rattle.runs.proofs.check.parts_right.Goals as goal

-- `runs::check::parts_right` meets its contract. Assumes nothing.
pub returns-then-v-eq0 : goal.returns-then-v-eq0
returns-then-v-eq0 c =
    let b = c.args.file.now in
    no_parts b c.args.v (below_elements 256 b (λ i. omega (arith, c.type_inv.file i))) c.requires
    c.if-v-eq0.true

pub get_pair-first-requires : goal.get_pair-first-requires
get_pair-first-requires c =
    let l = (inside c.args.file.now c.args.v c.requires).long in
    let n = c.if-v-eq0.false in
    omega arith

pub get_pair-last-requires : goal.get_pair-last-requires
get_pair-last-requires c =
    let l = (inside c.args.file.now c.args.v c.requires).long in
    let n = c.if-v-eq0.false in
    omega arith

pub pair_falls-requires : goal.pair_falls-requires
pair_falls-requires c =
    let l = (inside c.args.file.now c.args.v c.requires).long in
    let n = c.if-v-eq0.false in
    omega arith

pub returns : goal.returns
returns c =
    let b = c.args.file.now in
    let n = c.if-v-eq0.false in
    parts_by b c.args.v (below_elements 256 b (λ i. omega (arith, c.type_inv.file i))) c.requires (omega arith)
    c.get_pair-first.result c.get_pair-last.result c.pair_falls.result c.get_pair-first.ensures.0 c.get_pair-last.ensures.0
    c.pair_falls.ensures.0
