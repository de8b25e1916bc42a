-- The six header kinds by number (document 01, "The file"; document 02, S-7), and the rule of a setting. Assumes nothing.
use Rattle.std.specs.Prelude.{ℕ, zero, suc, Bool}
use Rattle.format.specs.declared.Setting.{Setting}
use Rattle.format.specs.Tools.{within}
use Rattle.format.specs.Codec.{Codec, no_codec}
use Rattle.format.specs.Runs.{runs_kind}
use Rattle.format.specs.Positions.{positions_kind}
use Rattle.format.specs.BaseOffset.{based_kind}
use Rattle.format.specs.Jumps.{jumps_kind}
use Rattle.format.specs.PagedRuns.{pages_kind}
use Rattle.format.specs.PointedJumps.{pointed_kind}

-- the kind with a number, at a width and a step: no kind for 0, then kinds 1 to 6, and no kind above
abbrev pub codec_of : ℕ → ℕ → ℕ → Codec
codec_of zero w l = no_codec
codec_of (suc zero) w l = runs_kind w l
codec_of (suc (suc zero)) w l = positions_kind w l
codec_of (suc (suc (suc zero))) w l = based_kind w l
codec_of (suc (suc (suc (suc zero)))) w l = jumps_kind w l
codec_of (suc (suc (suc (suc (suc zero))))) w l = pages_kind w l
codec_of (suc (suc (suc (suc (suc (suc zero)))))) w l = pointed_kind w l
codec_of (suc (suc (suc (suc (suc (suc (suc k))))))) w l = no_codec

unfoldable pub codec : Setting → Codec
codec s = codec_of s.kind s.width s.step

-- the kinds are 1 to 6
abbrev pub last_kind : ℕ
last_kind = 6

unfoldable pub kind_allowed : Setting → Bool
kind_allowed s = within 1 last_kind s.kind

-- width and step are allowed for the kind
unfoldable pub setting_allowed : Setting → Bool
setting_allowed s = (codec s).allowed
