-- The stored bytes of ranks a up to but not including c, as a part of the caller's file (document 01, "The calls"). A refusal hands back an empty part;
-- a companion call gives the number. Assumes nothing.
use Rattle.std.specs.Prelude.{ℕ, ◌+◌, ◌-◌, ◌*◌, ◌≡◌, not, List, [], take, drop, leb, eqb}
use Rattle.std.specs.Borrow.{Bor}
use Rattle.format.specs.Tools.{pick, both}
use Rattle.format.specs.Signals.{BEYOND, refuse, or_else}
use Rattle.format.specs.Accepted.{words_count, words_at, check_number}

-- r is the part of the lent slice x that starts at `from` and has `size` elements: it points into the caller's own bytes
pub record IsPart (x : Bor (List ℕ)) (from size : ℕ) (r : Bor (List ℕ)) : Type 0 where
  pub place : r.ref_ptr ≡ (x.ref_ptr.0, from + x.ref_ptr.1)
  pub bytes : r.now ≡ take size (drop from x.now)

-- the file's 1 to 6, then 8 unless a <= c <= N
unfoldable pub ranks_number : List ℕ → ℕ → ℕ → ℕ
ranks_number b a c = or_else (check_number b) (refuse BEYOND (not (both (leb a c) (leb c (words_count b)))) 0)

-- where the part starts, and its bytes
unfoldable pub ranks_from : List ℕ → ℕ → ℕ
ranks_from b a = words_at b + 4 * a

unfoldable pub ranks_bytes : List ℕ → ℕ → ℕ → List ℕ
ranks_bytes b a c = take (4 * (c - a)) (drop (ranks_from b a) b)

-- the contract: the bytes handed back, and, where the call is accepted, that they are the caller's own
pub record RanksPart (x : Bor (List ℕ)) (a c : ℕ) (r : Bor (List ℕ)) : Type 0 where
  pub bytes : r.now ≡ pick (eqb (ranks_number x.now a c) 0) (ranks_bytes x.now a c) []
  pub own : ranks_number x.now a c ≡ 0 → IsPart x (ranks_from x.now a) (4 * (c - a)) r
