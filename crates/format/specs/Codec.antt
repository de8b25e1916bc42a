-- What a header kind is: how the stored positions go into two parts of a file, and back. Each kind is one such record. Assumes nothing.
use Rattle.std.specs.Prelude.{ℕ, Bool, false, List, []}

-- the two parts of a file: the entry count of each, and its bytes
pub record Parts : Type 0 where
  pub first_count : ℕ
  pub first : List ℕ
  pub second_count : ℕ
  pub second : List ℕ

-- a kind at a width and a step
pub record Codec : Type 0 where
  -- width and step are allowed
  pub allowed : Bool
  -- of the cells, N, the first and the second count: the counts are the layout's, or, where only the body tells a count, it is at most N
  pub counts : ℕ → ℕ → ℕ → ℕ → Bool
  -- of the first and the second count: the bytes of each part
  pub first_bytes : ℕ → ℕ → ℕ
  pub second_bytes : ℕ → ℕ → ℕ
  -- of the cells and the stored positions: the parts
  pub parts : ℕ → List ℕ → Parts
  -- the parts cannot hold the stored positions
  pub unfit : List ℕ → Bool
  -- the stored positions back: from the first count and bytes that begin with the first part, and so for the second
  pub positions : ℕ → List ℕ → ℕ → List ℕ → List ℕ

-- no kind
abbrev pub no_codec : Codec
no_codec =
    record {
      allowed = false;
      counts = λ cells n c1 c2. false;
      first_bytes = λ c1 c2. 0;
      second_bytes = λ c1 c2. 0;
      parts = λ cells ls. record { first_count = 0; first = []; second_count = 0; second = [] };
      unfit = λ ls. false;
      positions = λ c1 b1 c2 b2. [];
    }
