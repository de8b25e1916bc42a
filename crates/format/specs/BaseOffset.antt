-- Kind 3, base and offset (document 01, "The file"). Assumes nothing.
use Rattle.std.specs.Prelude.{ℕ, ◌+◌, ◌-◌, ◌*◌, ◌/◌, ◌^◌, Bool, not, List, length, get_or, leb, eqb}
use Rattle.format.specs.Tools.{listed, up_to, every_nth, every, both, within}
use Rattle.format.specs.Bytes.{bytes_of, numbers_of}
use Rattle.format.specs.Codec.{Codec, Parts}

-- the bases: L(0), L(l), L(2l) and so on
unfoldable pub bases : ℕ → List ℕ → List ℕ
bases l ls = every_nth l ls

-- for each rank r, L(r) less the base at r div l
unfoldable pub offsets : ℕ → List ℕ → List ℕ
offsets l ls = listed (length ls) (λ r. get_or ls r 0 - get_or (bases l ls) (r / l) 0)

-- each offset is at most 256^w - 1
unfoldable pub offsets_fit : ℕ → ℕ → List ℕ → Bool
offsets_fit w l ls = every (λ o. leb o (256 ^ w - 1)) (offsets l ls)

-- the stored positions back
unfoldable pub based_positions : ℕ → List ℕ → List ℕ → List ℕ
based_positions l bs os = listed (length os) (λ r. get_or bs (r / l) 0 + get_or os r 0)

-- first part: the bases, 4 bytes each; second part: the offsets, w bytes each
unfoldable pub based_parts : ℕ → ℕ → List ℕ → Parts
based_parts w l ls =
    record {
      first_count = length (bases l ls);
      first = bytes_of 4 (bases l ls);
      second_count = length ls;
      second = bytes_of w (offsets l ls);
    }

unfoldable pub based_kind : ℕ → ℕ → Codec
based_kind w l =
    record {
      allowed = both (within 1 2 w) (within 1 255 l);
      counts = λ cells n c1 c2. both (eqb c1 (up_to n l)) (eqb c2 n);
      first_bytes = λ c1 c2. 4 * c1;
      second_bytes = λ c1 c2. w * c2;
      parts = λ cells. based_parts w l;
      unfit = λ ls. not (offsets_fit w l ls);
      positions = λ c1 b1 c2 b2. based_positions l (numbers_of 4 c1 b1) (numbers_of w c2 b2);
    }
