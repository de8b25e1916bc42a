-- Consecutive positions in a buffer. Assumes nothing.
use Rattle.std.specs.Prelude.{◌≡◌, ℕ, ◌+◌, ◌-◌, ◌^◌, ◌≤◌, List, ◌++◌, length, take}
use Rattle.format.specs.Tools.{range}
use Rattle.parts.specs.declared.Cursor.{Cursor}

-- n elements from an index on have become p, p + 1, .., as far as these fit 32 bits; those after them may have changed
pub record Filled (p from n : ℕ) (before after : List ℕ) : Type 0 where
  pub size : length after ≡ length before
  pub front : (m : ℕ) → m ≤ n → p + m ≤ 2 ^ 32 → take (from + m) after ≡ take from before ++ range p m

-- m elements from an index on have become the positions of m cells from the cursor on, all within its run, or of its cell alone
pub record Stretch (c : Cursor) (from m : ℕ) (before after : List ℕ) : Type 0 where
  pub some : 1 ≤ m
  pub room : from + m ≤ length before
  pub inside : m ≤ 1 + (c.last - c.at)
  pub small : c.at + m ≤ 2 ^ 32
  pub filled : Filled c.at from m before after
