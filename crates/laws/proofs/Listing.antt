-- What the lister prints of a picture's file: its own kind, cells, N, and a line for each stored cell. Assumes nothing.
use Prim.Native.Nat.{ℕ, ◌≤◌}
use mathlib.Core.Path.{◌≡◌}
use mathlib.Core.List.{List, ◌++◌}
use lib.ListN.{length}
use borrow.Author.Tests.{le-ltb}
use Rattle.format.specs.declared.Dimensions.{Dimensions}
use Rattle.format.specs.declared.Setting.{Setting}
use Rattle.format.specs.Picture.{cells}
use Rattle.format.specs.Stored.{stored, kept}
use Rattle.format.specs.File.{HasFile}
use Rattle.format.specs.Lister.{most_listed, line, rank_lines, file_lines, listing}
use Rattle.laws.proofs.Files.{picture_accepted, setting-back, dims-back, words-count-back, positions-back, kept_back}

pub listing_of : (s : Setting) (d : Dimensions) (E : ℕ) (ws b : List ℕ) → HasFile s d E ws b → length b ≤ most_listed
    → listing b ≡ line s.kind (cells d) (length (kept E ws)) ++ rank_lines 0 (stored E ws) (kept E ws)
unfolding listing file_lines
listing_of s d E ws b h k =
    rw (
      le-ltb most_listed (length b) k,
      picture_accepted s d E ws b h,
      setting-back s d E ws b h,
      dims-back s d E ws b h,
      words-count-back s d E ws b h,
      positions-back s d E ws b h,
      kept_back s d E ws b h,
    )
