use Rattle.std.proofs.Common.{rules, ◌≡◌, arith}
use Rattle.parts.specs.Encoder.{begun}
use Rattle.kinds.specs.declared.kind.Kind.TheVariants as kind
use Rattle.kinds.proofs.Told.{told, other_told, none_told}
use Rattle.kinds.proofs.Counts.{counted-ranks, counted-second, counted-first}
use Rattle.kinds.proofs.coding.counted.Goals.{In_default, in_default-via-in-Ok+in_default, in_default-via-in_default}
use Rattle.kinds.proofs.coding.counted.Goals as goal

pub returns-in-Ok-Positions : goal.returns-in-Ok-Positions
unfolding begun
returns-in-Ok-Positions c =
    let a = c.args in
    rw c.begin-e.ensures (counted-ranks a.kind a.ranks a.entries (told c.in-Ok-Positions.ensures c.in-Ok-Positions.field-0-is))

pub returns-in-Ok-PagedRuns : goal.returns-in-Ok-PagedRuns
unfolding begun
returns-in-Ok-PagedRuns c =
    let a = c.args in
    let e : a.kind ≡ 5 = told c.in-Ok-PagedRuns.ensures c.in-Ok-PagedRuns.field-0-is in
    rw c.begin-e.ensures (counted-second a.kind a.ranks a.entries (λ h. omega arith) e)

-- in the last arm the kind is neither 2 nor 5
others : (c : In_default) → (c.args.kind ≡ 2 → ⊥) × (c.args.kind ≡ 5 → ⊥)
others c = elim c.in_default.branch [
  | in_default-via-in-Ok+in_default w ↦ (let t = other_told c.try_from.ensures w.in_default.is in (t kind.Positions (search rules), t kind.PagedRuns (search rules)))
  | in_default-via-in_default w ↦ (let n = none_told c.try_from.ensures w.in_default.is in (n kind.Positions, n kind.PagedRuns))
]

pub returns-in_default : goal.returns-in_default
unfolding begun
returns-in_default c =
    let a = c.args in
    let n = others (goal.at.returns-in_default c).In_default in
    rw c.begin-e.ensures (counted-first a.kind a.ranks a.entries n.0 n.1)
