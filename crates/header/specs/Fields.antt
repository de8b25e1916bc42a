-- Whether there is a header, and its counts and offsets together. Assumes nothing.
use Rattle.std.specs.Prelude.{◌≡◌, Bool, true, false, List, ℕ}
use Rattle.header.specs.declared.view.Counts.{Counts}
use Rattle.format.specs.File.{WholeHeader}
use Rattle.format.specs.Accepted.{words_count, first_count, second_count, first_offset, second_offset, words_offset}

-- r tells whether the bytes have a whole header
pub record Whole (b : List ℕ) (r : Bool) : Type 0 where
  pub there : r ≡ true → WholeHeader b
  pub short : r ≡ false → WholeHeader b → ⊥

-- N, the entry counts of the first and second part, and the offsets of first part, second part and stored words
unfoldable pub counts_in : List ℕ → Counts
counts_in b =
    record {
      words = words_count b;
      firsts = first_count b;
      seconds = second_count b;
      start = first_offset b;
      second = second_offset b;
      place = words_offset b;
    }
