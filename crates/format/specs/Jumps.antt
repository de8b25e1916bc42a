-- Kind 4, jumps (document 01, "The file"). Assumes nothing.
use Rattle.std.specs.Prelude.{ℕ, zero, suc, ◌+◌, ◌-◌, ◌*◌, ◌^◌, false, List, [], ◌∷◌, length, leb, eqb}
use Rattle.format.specs.Tools.{pick, first, others, both, within}
use Rattle.format.specs.Bytes.{bytes_of, numbers_of}
use Rattle.format.specs.Codec.{Codec, Parts}

-- L(r) - L(r-1) where it is at most 256^w - 1, else 0
unfoldable pub difference : ℕ → ℕ → ℕ → ℕ
difference w before l = pick (leb (l - before) (256 ^ w - 1)) (l - before) 0

unfoldable pub differences_from : ℕ → ℕ → List ℕ → List ℕ
differences_from w before [] = []
differences_from w before (l ∷ ls) = difference w before l ∷ differences_from w l ls

-- 0 for rank 0, then the differences
unfoldable pub differences : ℕ → List ℕ → List ℕ
differences w [] = []
differences w (l ∷ ls) = 0 ∷ differences_from w l ls

-- L(r) for each rank whose difference is 0
unfoldable pub jumps_of : List ℕ → List ℕ → List ℕ
jumps_of [] ls = []
jumps_of (d ∷ ds) [] = []
jumps_of (zero ∷ ds) (l ∷ ls) = l ∷ jumps_of ds ls
jumps_of (suc d ∷ ds) (l ∷ ls) = jumps_of ds ls

unfoldable pub jumps : ℕ → List ℕ → List ℕ
jumps w ls = jumps_of (differences w ls) ls

-- the positions back, `before` being the one before
unfoldable pub jumped_from : ℕ → List ℕ → List ℕ → List ℕ
jumped_from before js [] = []
jumped_from before js (zero ∷ ds) = first js ∷ jumped_from (first js) (others js) ds
jumped_from before js (suc d ∷ ds) = (before + suc d) ∷ jumped_from (before + suc d) js ds

unfoldable pub jumped_positions : List ℕ → List ℕ → List ℕ
jumped_positions js ds = jumped_from 0 js ds

-- first part: the jumps, 4 bytes each; second part: the differences, w bytes each
unfoldable pub jump_parts : ℕ → List ℕ → Parts
jump_parts w ls =
    record {
      first_count = length (jumps w ls);
      first = bytes_of 4 (jumps w ls);
      second_count = length ls;
      second = bytes_of w (differences w ls);
    }

unfoldable pub jumps_kind : ℕ → ℕ → Codec
jumps_kind w l =
    record {
      allowed = both (within 1 2 w) (eqb l 0);
      counts = λ cells n c1 c2. both (leb c1 n) (eqb c2 n);
      first_bytes = λ c1 c2. 4 * c1;
      second_bytes = λ c1 c2. w * c2;
      parts = λ cells. jump_parts w;
      unfit = λ ls. false;
      positions = λ c1 b1 c2 b2. jumped_positions (numbers_of 4 c1 b1) (numbers_of w c2 b2);
    }
