-- What a position adds: its difference, and a jump where that is 0. Assumes nothing.
use Prim.Native.Nat.{ℕ, ◌+◌, ◌-◌, ◌^◌, ◌≤◌, ◌<◌}
use mathlib.Core.Path.{◌≡◌, refl, sym, ◌∙◌}
use mathlib.Core.List.{[]}
use native.Mathlib.Nat.{add-zero}
use native.Mathlib.Omega.{arith}
use lib.ListN.{length}
use Rattle.format.specs.Bytes.{bytes}
use Rattle.format.specs.Jumps.{difference}
use Rattle.laws.proofs.Bytes.{length-bytes}
use Rattle.laws.proofs.Entries.{fitting, jump_is_zero}
use Rattle.parts.specs.declared.Encoder.{Encoder}
use Rattle.parts.specs.Encoder.{unchanged, taken_by}
use Rattle.parts.specs.Ready.{moved, Keeps}
use Rattle.parts.proofs.Taking.{if_zero_lem, if_more, if_most, taken-moved}
use Rattle.parts.proofs.Sounds.{sound_by}
use Rattle.jump_entries.specs.Coding.{difference_at, jumps_coder}

module _ (w : ℕ) (e : Encoder) (p : ℕ) where
  pub difference-first : e.rank ≡ 0 → 0 ≡ difference_at w e p
  unfolding difference_at
  difference-first h = sym (if_zero_lem e.rank 0 (difference w e.last p) h)

  pub difference_later : (e.rank ≡ 0 → ⊥) → difference_at w e p ≡ difference w e.last p
  unfolding difference_at
  difference_later h = if_more e.rank 0 (difference w e.last p) h

  pub difference-near : (e.rank ≡ 0 → ⊥) → p - e.last ≤ 256 ^ w - 1 → p - e.last ≡ difference_at w e p
  difference-near h k = sym (difference_later h ∙ fitting w e.last p k)

  pub difference-far : (e.rank ≡ 0 → ⊥) → 256 ^ w - 1 < p - e.last → 0 ≡ difference_at w e p
  difference-far h k = sym (difference_later h ∙ jump_is_zero w e.last p k)

  pub second-size : length ((jumps_coder w).second e p) ≡ w
  unfolding jumps_coder
  second-size = length-bytes w (difference_at w e p)

  -- a jump
  module _ (h : difference_at w e p ≡ 0) where
    pub adds_jump : (jumps_coder w).first e p ≡ bytes 4 p
    unfolding jumps_coder
    adds_jump = if_zero_lem (difference_at w e p) (bytes 4 p) [] h

    pub taken_jump : moved e p (e.first + 4) (e.second + w) ≡ taken_by (jumps_coder w) e p
    taken_jump =
        taken-moved e p (jumps_coder w) (e.first + 4) (e.second + w) (unfold jumps_coder in refl) (rw (adds_jump, length-bytes 4 p)) (rw second-size)

  -- none
  module _ (h : difference_at w e p ≡ 0 → ⊥) where
    pub adds_none : (jumps_coder w).first e p ≡ []
    unfolding jumps_coder
    adds_none = if_more (difference_at w e p) (bytes 4 p) [] h

    pub taken_on : moved e p e.first (e.second + w) ≡ taken_by (jumps_coder w) e p
    taken_on =
        taken-moved e p (jumps_coder w) e.first (e.second + w) (unfold jumps_coder in refl) (rw adds_none (add-zero e.first)) (rw second-size)

pub keeps : (w : ℕ) → w ≤ 2 → Keeps (jumps_coder w)
unfolding jumps_coder unchanged
keeps w h =
    sound_by (jumps_coder w)
    (λ e p n.
    let s = n.sound in
    let a = n.above in
    record {
      first = if_most (difference_at w e p) (bytes 4 p) 8 (omega (arith, length-bytes 4 p));
      second = omega (arith, length-bytes w (difference_at w e p));
      base = omega arith;
      cells = omega arith;
      empty = omega arith;
    })
