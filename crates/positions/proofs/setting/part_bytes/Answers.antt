use Rattle.std.proofs.Common.{refl, arith, eq-eqb, ne_eqb}
use Rattle.format.specs.Positions.{positions_kind}
use Rattle.parts.proofs.Sizing.{sized-where}
use Rattle.positions.proofs.setting.part_bytes.Goals as goal
use Rattle.positions.proofs.setting.part_bytes.Goals.{else-v, then-v}

pub returns : goal.returns
unfolding positions_kind
returns c =
    let v = c.args.v in
    rw c.then_some.ensures
    (sized-where (positions_kind v.width v.step) v c.if-v.right _
    (elim c.if-v.branch [ then-v w ↦ rw (w.right-is, eq-eqb v.firsts v.words w.if-v.true) | else-v w ↦ rw (w.right-is, ne_eqb v.firsts v.words w.if-v.false) ])
    refl refl (omega arith) (omega arith))
