-- Words of a file copied one by one: what is left gives the whole. Assumes nothing.
use Prim.Native.Nat.{ℕ, suc, ◌+◌, ◌-◌, ◌*◌, ◌≤◌, ◌<◌}
use mathlib.Core.Path.{◌≡◌, refl, ◌∙◌}
use mathlib.Core.List.{List}
use native.Mathlib.Omega.{arith}
use lib.ListN.{length, set, drop, length-set}
use Rattle.format.specs.Bytes.{field, numbers_of}
use Rattle.laws.proofs.Numbers.{numbers_turn, numbers-end}
use Rattle.stores.specs.Put.{put}

-- of the n words from an offset of b on, i are in the destination
pub record CopyLeft (b : List ℕ) (at from n : ℕ) (dst₀ dst : List ℕ) (i : ℕ) : Type 0 where
  pub most : i ≤ n
  pub size : length dst ≡ length dst₀
  pub rest : put dst (from + i) (numbers_of 4 (n - i) (drop (at + 4 * i) b)) ≡ put dst₀ from (numbers_of 4 n (drop at b))

module _ (b : List ℕ) (at from n : ℕ) (dst₀ : List ℕ) where
  pub copy_start : CopyLeft b at from n dst₀ dst₀ 0
  copy_start =
      let a : from + 0 ≡ from = omega arith in
      let l : n - 0 ≡ n = omega arith in
      let t : at + 4 * 0 ≡ at = omega arith in
      record { most = omega arith; size = refl; rest = rw (a, l, t) }

  module _ (dst : List ℕ) (i : ℕ) (w : CopyLeft b at from n dst₀ dst i) where
    pub copy_turn : (x : ℕ) → i < n → x ≡ field 4 (at + 4 * i) b → CopyLeft b at from n dst₀ (set dst (from + i) x) (i + 1)
    unfolding put
    copy_turn x h e =
        let a : from + (i + 1) ≡ suc (from + i) = omega arith in
        let l : n - (i + 1) ≡ n - i - 1 = omega arith in
        let t : at + 4 * (i + 1) ≡ at + 4 * i + 4 = omega arith in
        record {
          most = omega arith;
          size = length-set dst (from + i) x ∙ w.size;
          rest = rw (a, l, t, e) (rw (numbers_turn 4 (n - i) (at + 4 * i) b (omega arith)) at w.rest);
        }

    pub copy_end : n ≤ i → dst ≡ put dst₀ from (numbers_of 4 n (drop at b))
    unfolding put
    copy_end h = rw (numbers-end 4 (n - i) (drop (at + 4 * i) b) (omega arith)) at w.rest
