-- The signal list (document 01): its numbers by their words, and the first that applies. 0 is "accepted". Assumes nothing.
use Rattle.std.specs.Prelude.{ℕ, zero, suc, Bool, true, false}
use Rattle.format.specs.declared.Refusal.{Refusal}
use Rattle.format.specs.declared.Refusal.TheVariants as rf

abbrev pub SHORT : ℕ
SHORT = 1

abbrev pub KIND : ℕ
KIND = 2

abbrev pub SETTING : ℕ
SETTING = 3

abbrev pub EXTENT : ℕ
EXTENT = 4

abbrev pub COUNTS : ℕ
COUNTS = 5

abbrev pub BODY : ℕ
BODY = 6

abbrev pub PICTURE : ℕ
PICTURE = 7

abbrev pub BEYOND : ℕ
BEYOND = 8

abbrev pub UNFIT : ℕ
UNFIT = 9

abbrev pub SMALL : ℕ
SMALL = 10

abbrev pub OTHER : ℕ
OTHER = 11

-- the number of each refusal
abbrev pub signal_number : Refusal → ℕ
signal_number rf.Short = SHORT
signal_number rf.Kind = KIND
signal_number rf.Setting = SETTING
signal_number rf.Extent = EXTENT
signal_number rf.Counts = COUNTS
signal_number rf.Body = BODY
signal_number rf.Picture = PICTURE
signal_number rf.Beyond = BEYOND
signal_number rf.Unfit = UNFIT
signal_number rf.Small = SMALL
signal_number rf.Other = OTHER

-- the number n where the test passes, else what the later tests give
abbrev pub refuse : ℕ → Bool → ℕ → ℕ
refuse n true later = n
refuse n false later = later

-- a first refusal, or what comes after it
abbrev pub or_else : ℕ → ℕ → ℕ
or_else zero later = later
or_else (suc n) later = suc n
