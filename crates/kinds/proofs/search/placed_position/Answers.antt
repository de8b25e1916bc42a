use Rattle.std.proofs.Common.{rules, ◌≡◌, ⊎_elim}
use Rattle.kinds.specs.declared.kind.Kind.TheVariants as kind
use Rattle.kinds.proofs.Told.{other_told, none_told}
use Rattle.kinds.proofs.At.{view-placed}
use Rattle.kinds.proofs.search.placed_position.Goals.{In_default, in_default-via-in-Ok+in_default, in_default-via-in_default}
use Rattle.kinds.proofs.search.placed_position.Goals as goal

-- in the last arm the kind is not 2
other : (c : In_default) → c.args.v.kind ≡ 2 → ⊥
other c = elim c.in_default.branch [
  | in_default-via-in-Ok+in_default w ↦ (other_told c.try_from.ensures w.in_default.is kind.Positions (search rules))
  | in_default-via-in_default w ↦ (none_told c.try_from.ensures w.in_default.is kind.Positions)
]

pub returns-in_default : goal.returns-in_default
returns-in_default c =
    let e = ⊎_elim (λ e. absurd (other (goal.at.returns-in_default c).In_default e)) (λ e. e) c.requires.0 in
    view-placed _ 3 e _ _ _ c.position_of-in_default.ensures
