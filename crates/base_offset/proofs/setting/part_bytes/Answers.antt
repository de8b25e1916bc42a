use mathlib.Core.Path.{refl}
use native.Mathlib.Omega.{arith}
use Rattle.format.specs.BaseOffset.{based_kind}
use Rattle.offsets.proofs.Widths.{entries_fit}
use Rattle.parts.proofs.Sizing.{sized-where}
use Rattle.base_groups.proofs.Rule.{allows}
use Rattle.base_offset.proofs.setting.part_bytes.Goals as goal

pub counts_right-requires : goal.counts_right-requires
counts_right-requires c = let a = allows _ _ c.requires.0 in (omega arith, omega arith, omega arith)

pub overflow_mul-v-2 : goal.overflow_mul-v-2
overflow_mul-v-2 c =
    let v = c.args.v in
    let a = allows v.width v.step c.requires.0 in
    let m = entries_fit v.width v.seconds a.width-most (omega arith) in
    record { fits = omega arith }

pub returns : goal.returns
unfolding based_kind
returns c =
    let v = c.args.v in
    let m = entries_fit v.width v.seconds (allows v.width v.step c.requires.0).width-most (omega arith) in
    rw c.then_some.ensures (sized-where (based_kind v.width v.step) v c.counts_right.result _ c.counts_right.ensures refl refl (omega arith) (omega arith))
