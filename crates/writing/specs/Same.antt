-- A file changed to its own setting. Assumes nothing.
use Rattle.std.specs.Prelude.{ℕ, ◌≡◌, List, length, ltb}
use Rattle.format.specs.Signals.{SMALL, refuse}
use Rattle.format.specs.Answers.{leaves}

-- a file's bytes as they are
pub record Copied (b before : List ℕ) (answer : ℕ) (after : List ℕ) : Type 0 where
  pub number : answer ≡ refuse SMALL (ltb (length before) (length b)) 0
  pub left : after ≡ leaves answer b before
