use Rattle.std.proofs.Common.{◌≡◌, ◌-◌, sym, ◌∙◌, arith}
use Rattle.offsets.proofs.Widths.{entries_fit}
use Rattle.base_groups.proofs.Known.{Known, known}
use Rattle.base_groups.proofs.Turn.{firsts-some, turn_start, turn_end, group_there, turn_bad, turn_on}
use Rattle.base_groups.proofs.check.groups_right.Goals.{Start}
use Rattle.base_groups.proofs.check.groups_right.Goals as goal

know : (c : Start) → Known c.args.file.now c.args.v
know c = known c.args.file.now c.args.v c.requires.0

pub overflow_mul-stride : goal.overflow_mul-stride
overflow_mul-stride c =
    let e = c.entry_size.ensures.1 in
    let m = entries_fit c.entry_size.result c.args.v.step e (omega arith) in
    record { fits = omega arith }

pub get_u32-base-requires : goal.get_u32-base-requires
get_u32-base-requires c =
    let k = know (goal.at.get_u32-base-requires c).Start in
    let f = firsts-some c.requires.0 c.requires.1 in
    let t = k.there in
    let p = k.second-place in
    omega arith

pub overflow_sub-more : goal.overflow_sub-more
overflow_sub-more c = firsts-some c.requires.0 c.requires.1

pub loop-i-init : goal.loop-i-init
loop-i-init c = rw c.get_u32-base.ensures.0 (turn_start c.requires.0 c.requires.1)

pub ends_right-requires : goal.ends_right-requires
ends_right-requires c =
    let l = c.loop-i in
    rw c.entry_size.ensures.0
    ((know (goal.at.ends_right-requires c).Start).rule.step-least, group_there c.requires.0 l.invariant _ (omega arith) c.get_u32-next.ensures.0)

pub returns-then-not-ends_right : goal.returns-then-not-ends_right
returns-then-not-ends_right c =
    let e = rw c.entry_size.ensures.0 at c.ends_right.ensures in
    turn_bad c.requires.0 c.loop-i.invariant _ (omega arith) c.get_u32-next.ensures.0 (sym e ∙ c.if-not-ends_right.true)

pub loop-i-preserved : goal.loop-i-preserved
loop-i-preserved c =
    let e = rw c.entry_size.ensures.0 at c.ends_right.ensures in
    turn_on c.requires.0 c.loop-i.invariant _ c.loop-i-test.true c.get_u32-next.ensures.0 (sym e ∙ c.if-not-ends_right.false)

pub returns : goal.returns
returns c =
    let l = c.loop-i in
    let i : l.i ≡ c.args.v.firsts - 1 = omega arith in
    let e = rw c.entry_size.ensures.0 at c.ends_right-2.ensures in
    e ∙ turn_end c.requires.0 (rw i at l.invariant) (omega arith)
