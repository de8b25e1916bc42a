use Rattle.std.proofs.Common.{sym, ◌∙◌, arith}
use Rattle.base_groups.proofs.Rule.{allows}
use Rattle.base_groups.proofs.Encoded.{keeps}
use Rattle.base_groups.proofs.Grouped.{Front, front, one-base, group_room, write_group, written_all}
use Rattle.base_offset.proofs.coding.put_all.Goals.{After-split_at}
use Rattle.base_offset.proofs.coding.put_all.Goals as goal

-- the positions of one turn
turned : (c : After-split_at)
    → let s = c.split_at.result in Front c.args.step c.loop-rest.e c.served.result c.loop-rest.rest.now s.0.now s.1.now
turned c =
    front _ _ _ _ _ _ (allows _ _ c.requires.0).step-least (sym c.is_empty.ensures ∙ c.loop-rest-test.true) c.served.ensures c.split_at.ensures.front_len
    c.split_at.ensures.by_index.0

pub put_group-e-requires : goal.put_group-e-requires
put_group-e-requires c =
    let t = turned (goal.at.put_group-e-requires c).After-split_at in
    let i = c.loop-rest.invariant in
    let a = allows _ _ c.requires.0 in (
      one-base c.args.width c.args.step _ _ _ _ _ _ _ t i.measured,
      group_room c.args.width c.args.step _ _ _ _ _ _ _ _ _ t i,
      a.width-least,
      a.width-most,
      a.step-least,
    )

pub loop-rest-smaller : goal.loop-rest-smaller
loop-rest-smaller c =
    let s = (turned (goal.at.loop-rest-smaller c).After-split_at).some in
    let b = c.split_at.ensures.back_len in
    omega arith

pub loop-rest-preserved : goal.loop-rest-preserved
loop-rest-preserved c =
    let a = allows _ _ c.requires.0 in
    let o = c.put_group-e in
    write_group c.args.width c.args.step _ _ _ _ _ _ _ _ _ (turned (goal.at.loop-rest-preserved c).After-split_at) c.loop-rest.invariant
    (keeps c.args.width c.args.step a.width-most) o.result o.new.dst o.ensures

pub returns : goal.returns
returns c = written_all c.args.width c.args.step _ _ _ _ _ _ (sym c.is_empty.ensures ∙ c.loop-rest-test.false) c.loop-rest.invariant
