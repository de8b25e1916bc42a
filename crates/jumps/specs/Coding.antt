-- The coder of kind 4. Assumes nothing.
use Rattle.std.specs.Prelude.{ℕ}
use Rattle.parts.specs.Encoder.{Coder}
use Rattle.jump_entries.specs.Coding.{jumps_coder}

unfoldable pub coder : ℕ → ℕ → Coder
coder w l = jumps_coder w
