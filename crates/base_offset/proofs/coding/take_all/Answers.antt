use Rattle.std.proofs.Common.{sym, ◌∙◌, arith}
use Rattle.base_groups.proofs.Rule.{allows}
use Rattle.base_groups.proofs.Encoded.{keeps}
use Rattle.base_groups.proofs.Grouped.{Front, front, one-base, measure_group, measured_all}
use Rattle.base_offset.proofs.coding.take_all.Goals.{After-split_at}
use Rattle.base_offset.proofs.coding.take_all.Goals as goal

-- the positions of one turn
turned : (c : After-split_at)
    → let s = c.split_at.result in Front c.args.step c.loop-rest.e c.served.result c.loop-rest.rest.now s.0.now s.1.now
turned c =
    front _ _ _ _ _ _ (allows _ _ c.requires.0).step-least (sym c.is_empty.ensures ∙ c.loop-rest-test.true) c.served.ensures c.split_at.ensures.front_len
    c.split_at.ensures.by_index.0

pub take_group-e-requires : goal.take_group-e-requires
take_group-e-requires c =
    let a = allows _ _ c.requires.0 in
    (one-base c.args.width c.args.step _ _ _ _ _ _ _ (turned (goal.at.take_group-e-requires c).After-split_at) c.loop-rest.invariant, a.width-least, a.width-most, a.step-least)

pub loop-rest-smaller : goal.loop-rest-smaller
loop-rest-smaller c =
    let s = (turned (goal.at.loop-rest-smaller c).After-split_at).some in
    let b = c.split_at.ensures.back_len in
    omega arith

pub loop-rest-preserved : goal.loop-rest-preserved
loop-rest-preserved c =
    let a = allows _ _ c.requires.0 in
    measure_group c.args.width c.args.step _ _ _ _ _ _ _ (turned (goal.at.loop-rest-preserved c).After-split_at) (keeps c.args.width c.args.step a.width-most)
    c.loop-rest.invariant c.take_group-e.result c.take_group-e.ensures

pub returns : goal.returns
returns c = measured_all c.args.width c.args.step _ _ _ _ (sym c.is_empty.ensures ∙ c.loop-rest-test.false) c.loop-rest.invariant
