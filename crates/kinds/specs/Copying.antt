-- Which ranks go from file to file by the kind's own copying. Assumes nothing.
use Rattle.std.specs.Prelude.{ℕ, ◌≡◌, ◌⊎◌}
use Rattle.format.specs.declared.Setting.{Setting}
use Rattle.format.specs.declared.View.{View}
use Rattle.kinds.specs.Steps.{stores_runs}

-- a kind that has jumps and differences
abbrev pub has_jumps : ℕ → Type 0
has_jumps k = (k ≡ 4) ⊎ (k ≡ 6)

-- jumps and differences of one width
abbrev pub copies_jumps : View → Setting → Type 0
copies_jumps v s = has_jumps v.kind × has_jumps s.kind × (s.width ≡ v.width)

-- those, or runs to the same kind of runs
abbrev pub copies_to : View → Setting → Type 0
copies_to v s = (stores_runs v.kind × (s.kind ≡ v.kind)) ⊎ copies_jumps v s
