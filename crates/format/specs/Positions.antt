-- Kind 2, positions (document 01, "The file"). Assumes nothing.
use Rattle.std.specs.Prelude.{ℕ, ◌*◌, false, List, [], length, eqb}
use Rattle.format.specs.Tools.{both}
use Rattle.format.specs.Bytes.{bytes_of, numbers_of}
use Rattle.format.specs.Codec.{Codec, Parts}

-- first part: L(0) to L(N-1), 4 bytes each; no second part
unfoldable pub position_parts : List ℕ → Parts
position_parts ls = record { first_count = length ls; first = bytes_of 4 ls; second_count = 0; second = [] }

unfoldable pub positions_kind : ℕ → ℕ → Codec
positions_kind w l =
    record {
      allowed = both (eqb w 0) (eqb l 0);
      counts = λ cells n c1 c2. both (eqb c1 n) (eqb c2 0);
      first_bytes = λ c1 c2. 4 * c1;
      second_bytes = λ c1 c2. 0;
      parts = λ cells. position_parts;
      unfit = λ ls. false;
      positions = λ c1 b1 c2 b2. numbers_of 4 c1 b1;
    }
