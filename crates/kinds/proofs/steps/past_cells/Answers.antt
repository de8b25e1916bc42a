use Rattle.std.proofs.Common.{rules, ◌≡◌, ⊎_elim}
use Rattle.kinds.specs.declared.kind.Kind.TheVariants as kind
use Rattle.kinds.proofs.Told.{told, other_told, none_told}
use Rattle.std.proofs.Common.{ℕ, ◌+◌, sym, ap, ◌∙◌}
use Rattle.parts.specs.Cursor.{stepped_as}
use Rattle.kinds.specs.Steps.{next_by, next_of, stepped_by}
use Rattle.kinds.proofs.steps.past_cells.Goals.{In_default, in_default-via-in-Ok+in_default, in_default-via-in_default}
use Rattle.kinds.proofs.steps.past_cells.Goals as goal

-- in the last arm the kind is not 1
other : (c : In_default) → c.args.v.kind ≡ 1 → ⊥
other c = elim c.in_default.branch [
  | in_default-via-in-Ok+in_default w ↦ (other_told c.try_from.ensures w.in_default.is kind.Runs (search rules))
  | in_default-via-in_default w ↦ (none_told c.try_from.ensures w.in_default.is kind.Runs)
]

pub returns-in-Ok-Runs : goal.returns-in-Ok-Runs
unfolding stepped_by next_of
returns-in-Ok-Runs c =
    let a = c.args in
    let e = told c.in-Ok-Runs.ensures c.in-Ok-Runs.field-0-is in
    c.past.ensures ∙ ap (λ (n : ℕ). stepped_as (next_by n a.file.now a.v) a.c (a.k + 1)) (sym e)

pub returns-in_default : goal.returns-in_default
unfolding stepped_by next_of
returns-in_default c =
    let a = c.args in
    let e = ⊎_elim (λ e. absurd (other (goal.at.returns-in_default c).In_default e)) (λ e. e) c.requires.0 in
    c.past-in_default.ensures ∙ ap (λ (n : ℕ). stepped_as (next_by n a.file.now a.v) a.c (a.k + 1)) (sym e)
