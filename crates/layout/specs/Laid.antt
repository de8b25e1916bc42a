-- What a file measures, and whether it goes into a destination. Assumes nothing.
use Rattle.std.specs.Prelude.{ℕ, ◌+◌, ◌*◌, ◌^◌, ◌≤◌, ◌<◌, ◌≡◌, true, false, List, length, ltb, Option, Some, None}
use Rattle.format.specs.declared.Dimensions.{Dimensions}
use Rattle.format.specs.declared.Setting.{Setting}
use Rattle.format.specs.Tools.{pick}
use Rattle.format.specs.Signals.{UNFIT, SMALL, refuse}
use Rattle.format.specs.Stored.{stored}
use Rattle.format.specs.Kinds.{codec, setting_allowed}
use Rattle.format.specs.File.{header_length, Counts}
use Rattle.parts.specs.declared.Encoder.{Encoder}
use Rattle.parts.specs.declared.Sizes.{Sizes}
use Rattle.parts.specs.Encoder.{ended_by}
use Rattle.parts.specs.Ready.{Sound}
use Rattle.parts.specs.Codes.{sizes_in}
use Rattle.kinds.specs.Coding.{coder}

-- the sizes as the counts of the header
abbrev pub counts_in : Sizes → Counts
counts_in z =
    record { words = z.words; first_count = z.firsts; second_count = z.seconds; first_bytes = z.first; second_bytes = z.second }

-- the file's length, and that it fits its field
abbrev pub total_of : Sizes → ℕ
total_of z = header_length + z.first + z.second + 4 * z.words

abbrev pub Fitting : Sizes → Type 0
Fitting z = total_of z < 2 ^ 32

-- an encoder whose sizes fit 32 bits
pub record Bounded (s : Setting) (e : Encoder) : Type 0 where
  pub sound : Sound e
  pub rank : e.rank ≤ 16777216
  pub first : (ended_by (coder s) e).first ≤ 268435456
  pub second : (ended_by (coder s) e).second ≤ 134217728

-- what an encoder has measured that has taken all positions: the sizes, where each offset fits its width
unfoldable pub measured_by : Setting → Encoder → Option Sizes
measured_by s e = pick e.fits (Some ((coder s).sizes (ended_by (coder s) e))) None

-- m measures the file of the stored positions ls of n cells
pub record Measures (s : Setting) (n : ℕ) (ls : List ℕ) (m : Option Sizes) : Type 0 where
  pub sizes : m ≡ pick ((codec s).unfit ls) None (Some (sizes_in (length ls) ((codec s).parts n ls)))

-- 9 and 10, of what was measured
abbrev pub out_of : Option Sizes → ℕ → ℕ
out_of None room = UNFIT
out_of (Some z) room = refuse SMALL (ltb room (total_of z)) 0

-- z are the sizes of the file of the words ws, and the file goes into `most` bytes
pub record Goes (s : Setting) (d : Dimensions) (E : ℕ) (ws : List ℕ) (z : Sizes) (most : ℕ) : Type 0 where
  pub allowed : setting_allowed s ≡ true
  pub few : length ws ≤ 16777216
  pub fits : (codec s).unfit (stored E ws) ≡ false
  pub sizes : z ≡ sizes_in (length (stored E ws)) ((codec s).parts (length ws) (stored E ws))
  pub room : total_of z ≤ most
