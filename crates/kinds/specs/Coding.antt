-- The coder by a setting, and what it puts out. Assumes nothing.
use Rattle.std.specs.Prelude.{ℕ, zero, suc, ◌+◌, ◌*◌, ◌≤◌, ◌≡◌, true, List, [], length, eqb}
use Rattle.format.specs.declared.Setting.{Setting}
use Rattle.format.specs.Tools.{pick}
use Rattle.parts.specs.declared.Encoder.{Encoder}
use Rattle.parts.specs.declared.Sizes.{Sizes}
use Rattle.parts.specs.Encoder.{Coder, unchanged, sizes_as, firsts_by, seconds_by, taken_all_by}
use Rattle.parts.specs.Batch.{added_first_by, added_second_by}
use Rattle.run_pairs.specs.Coding as runs
use Rattle.positions.specs.Coding as positions
use Rattle.base_groups.specs.Coding as based
use Rattle.jumps.specs.Coding as jumps
use Rattle.page_entries.specs.Coding as paged
use Rattle.pointed_jumps.specs.Coding as pointed

unfoldable pub no_coder : Coder
no_coder =
    record {
      first = λ e p. [];
      second = λ e p. [];
      inside = λ e p. unchanged e;
      end_first = λ e. [];
      end_second = λ e. [];
      sizes = λ e. sizes_as e 0 0;
      derived = λ z start d. d;
    }

abbrev pub coder_of : ℕ → ℕ → ℕ → Coder
coder_of zero w l = no_coder
coder_of (suc zero) w l = runs.coder w l
coder_of (suc (suc zero)) w l = positions.coder w l
coder_of (suc (suc (suc zero))) w l = based.coder w l
coder_of (suc (suc (suc (suc zero)))) w l = jumps.coder w l
coder_of (suc (suc (suc (suc (suc zero))))) w l = paged.coder w l
coder_of (suc (suc (suc (suc (suc (suc zero)))))) w l = pointed.coder w l
coder_of (suc (suc (suc (suc (suc (suc (suc k))))))) w l = no_coder

unfoldable pub coder : Setting → Coder
coder s = coder_of s.kind s.width s.step

-- what the positions and the end add to each part, and the encoder after the positions
unfoldable pub firsts : Setting → Encoder → List ℕ → List ℕ
firsts s e ls = firsts_by (coder s) e ls

unfoldable pub seconds : Setting → Encoder → List ℕ → List ℕ
seconds s e ls = seconds_by (coder s) e ls

unfoldable pub taken_all : Setting → Encoder → List ℕ → Encoder
taken_all s e ls = taken_all_by (coder s) e ls

-- what the positions alone add
unfoldable pub added_first : Setting → Encoder → List ℕ → List ℕ
added_first s e ls = added_first_by (coder s) e ls

unfoldable pub added_second : Setting → Encoder → List ℕ → List ℕ
added_second s e ls = added_second_by (coder s) e ls

-- the first part's bytes of the positions and the end go before the second part's, and these before v
pub record Apart (s : Setting) (e : Encoder) (ls : List ℕ) (v : ℕ) : Type 0 where
  pub first : e.first + length (firsts s e ls) ≤ e.second
  pub second : e.second + length (seconds s e ls) ≤ v

-- a destination in which the parts stand as the encoder put them out, with what is made of them afterwards
unfoldable pub derived : Setting → Sizes → ℕ → List ℕ → List ℕ
derived s z start d = (coder s).derived z start d

-- a kind whose sizes follow from the number of ranks
abbrev pub sized_by_ranks : ℕ → Type 0
sized_by_ranks k = k ≡ 2

-- an encoder after the end, of n ranks and m runs, in a kind whose sizes follow from these: kind 2 has 4 bytes for a rank, kinds 1 and 5 have 8 for a run
unfoldable pub counted_by : ℕ → ℕ → ℕ → Encoder
counted_by k n m =
    record {
      rank = n;
      last = 0;
      left = 0;
      base = 0;
      cells = 0;
      empty = 0;
      first = pick (eqb k 2) (4 * n) (pick (eqb k 5) 0 (8 * m));
      second = pick (eqb k 2) 0 (pick (eqb k 5) (8 * m) 0);
      fits = true;
    }
