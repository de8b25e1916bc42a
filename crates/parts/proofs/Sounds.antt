-- What the code needs of an encoder holds at the beginning, and is kept along rising positions by a kind that adds little. Assumes nothing.
use Rattle.std.proofs.Common.{◌≡◌, ℕ, zero, suc, ◌+◌, ◌≤◌, Bool, true, false, not, eqb, length, arith}
use Rattle.parts.specs.declared.Encoder.{Encoder}
use Rattle.parts.specs.Encoder.{Coder, if_zero, begun, run_ends, taken_by}
use Rattle.parts.specs.Ready.{passed, Sound, Next, Keeps}

-- where a run ends there is one
pub ends_some : (e : Encoder) (p : ℕ) → run_ends e p ≡ true → 1 ≤ e.rank
unfolding run_ends
ends_some e p h = go e.rank (not (eqb p (e.last + 1))) h
  where
    never : false ≡ true → ⊥
    never z = let y : ◌≡◌ {A = ℕ} 0 1 = cc in omega arith

    go : (n : ℕ) (t : Bool) → if_zero n false t ≡ true → 1 ≤ n
    go zero t z = absurd (never z)
    go (suc n) t z = omega arith

-- what a position adds
pub record Kept (k : Coder) (e : Encoder) (p : ℕ) : Type 0 where
  pub first : length (k.first e p) ≤ 8
  pub second : length (k.second e p) ≤ 8
  pub base : (k.inside e p).base ≤ p + 1
  pub cells : (k.inside e p).cells ≤ p + 1
  pub empty : (k.inside e p).empty + e.rank ≤ p

pub sound_by : (k : Coder) → ((e : Encoder) (p : ℕ) → Next e p → Kept k e p) → Keeps k
unfolding taken_by
sound_by k kept e p n =
    let t = kept e p n in
    let s = n.sound in
    record {
      passed-most = omega arith;
      base-most = omega arith;
      cells-most = omega arith;
      empty-most = omega arith;
      first-most = omega arith;
      second-most = omega arith;
    }

pub passed_by : (k : Coder) (e : Encoder) (p : ℕ) → passed (taken_by k e p) ≡ p + 1
unfolding taken_by
passed_by k e p = omega arith

pub sound-begun : (f g : ℕ) → f ≤ 4294967296 → g ≤ 4294967296 → Sound (begun f g)
unfolding begun
sound-begun f g h k =
    record {
      passed-most = omega arith;
      base-most = omega arith;
      cells-most = omega arith;
      empty-most = omega arith;
      first-most = omega arith;
      second-most = omega arith;
    }
