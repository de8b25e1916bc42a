-- Kind 6, jumps with pointers (document 02, S-7): kind 4 with a step n, and pointers between the differences and the words. Assumes nothing.
use Rattle.std.specs.Prelude.{ℕ, zero, suc, ◌+◌, ◌*◌, false, List, [], ◌∷◌, ◌++◌, leb, eqb}
use Rattle.format.specs.Tools.{both, within, up_to, every_nth}
use Rattle.format.specs.Bytes.{bytes_of, numbers_of}
use Rattle.format.specs.Codec.{Codec, Parts}
use Rattle.format.specs.Jumps.{differences, jumped_positions, jump_parts}

-- the rank of each jump: the ranks, from r on, whose difference is 0
unfoldable pub jump_ranks_from : ℕ → List ℕ → List ℕ
jump_ranks_from r [] = []
jump_ranks_from r (zero ∷ ds) = r ∷ jump_ranks_from (suc r) ds
jump_ranks_from r (suc d ∷ ds) = jump_ranks_from (suc r) ds

-- the pointers: the rank of jump 0, n, 2n and so on
unfoldable pub pointers : ℕ → List ℕ → List ℕ
pointers n ds = every_nth n (jump_ranks_from 0 ds)

-- kind 4's parts, and after the differences the pointers, 4 bytes each; no count names them
unfoldable pub pointed_parts : ℕ → ℕ → List ℕ → Parts
pointed_parts w n ls =
    let q = jump_parts w ls in
    record {
      first_count = q.first_count;
      first = q.first;
      second_count = q.second_count;
      second = q.second ++ bytes_of 4 (pointers n (differences w ls));
    }

unfoldable pub pointed_kind : ℕ → ℕ → Codec
pointed_kind w n =
    record {
      allowed = both (within 1 2 w) (within 1 255 n);
      counts = λ cells N c1 c2. both (leb c1 N) (eqb c2 N);
      first_bytes = λ c1 c2. 4 * c1;
      second_bytes = λ c1 c2. w * c2 + 4 * up_to c1 n;
      parts = λ cells. pointed_parts w n;
      unfit = λ ls. false;
      positions = λ c1 b1 c2 b2. jumped_positions (numbers_of 4 c1 b1) (numbers_of w c2 b2);
    }
