use Rattle.std.proofs.Common.{rules, ◌≡◌, ⊎_elim}
use Rattle.kinds.specs.declared.kind.Kind.TheVariants as kind
use Rattle.kinds.proofs.Told.{told, other_told, none_told}
use Rattle.kinds.proofs.At.{setting-allowed, setting-room, setting-put}
use Rattle.kinds.proofs.coding.put_run.Goals.{In_default, in_default-via-in-Ok+in_default, in_default-via-in_default}
use Rattle.kinds.proofs.coding.put_run.Goals as goal

-- in the last arm the kind is not 1
other : (c : In_default) → c.args.s.kind ≡ 1 → ⊥
other c = elim c.in_default.branch [
  | in_default-via-in-Ok+in_default w ↦ (other_told c.try_from.ensures w.in_default.is kind.Runs (search rules))
  | in_default-via-in_default w ↦ (none_told c.try_from.ensures w.in_default.is kind.Runs)
]

-- of the kinds that store runs, it is 5
five : (c : In_default) → c.args.s.kind ≡ 5
five c = ⊎_elim (λ e. absurd (other c e)) (λ e. e) c.requires.1

pub put_run-requires : goal.put_run-requires
put_run-requires c =
    let e = told c.in-Ok-Runs.ensures c.in-Ok-Runs.field-0-is in
    let p = c.requires in
    (setting-allowed c.args.s 1 e p.0, p.2, p.3, p.4, p.5, setting-room c.args.s 1 e _ _ _ p.6)

pub put_run-requires-in_default : goal.put_run-requires-in_default
put_run-requires-in_default c =
    let e = five (goal.at.put_run-requires-in_default c).In_default in
    let p = c.requires in
    (setting-allowed c.args.s 5 e p.0, p.2, p.3, p.4, p.5, setting-room c.args.s 5 e _ _ _ p.6)

pub returns-in-Ok-Runs : goal.returns-in-Ok-Runs
returns-in-Ok-Runs c = setting-put _ 1 (told c.in-Ok-Runs.ensures c.in-Ok-Runs.field-0-is) _ _ _ _ _ c.put_run.ensures

pub returns-in_default : goal.returns-in_default
returns-in_default c = setting-put _ 5 (five (goal.at.returns-in_default c).In_default) _ _ _ _ _ c.put_run-in_default.ensures
