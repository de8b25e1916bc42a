-- A batch of positions into an encoder, the first by itself: what the others add. Assumes nothing.
use Prim.Native.Nat.{ℕ, suc, ◌+◌, ◌-◌, ◌*◌, ◌^◌, ◌≤◌, ◌<◌}
use mathlib.Core.Path.{◌≡◌, refl, sym, ap₂, ◌∙◌}
use mathlib.Core.List.{List, [], ◌∷◌}
use native.Mathlib.Nat.{mul-suc, mul-le-mul_right}
use native.Mathlib.Omega.{arith}
use lib.ListN.{length, get_or}
use lib.Dec.{leb}
use borrow.Author.Tests.{leb-true, leb-false}
use Rattle.format.specs.Bytes.{bytes_of}
use Rattle.format.specs.Jumps.{difference, differences_from, jumps_of}
use Rattle.laws.proofs.Tools.{cases}
use Rattle.laws.proofs.Stored.{Rising}
use Rattle.laws.proofs.Bounds.{length-jumps_of}
use Rattle.laws.proofs.Entries.{fitting, jump_is_zero}
use Rattle.stores.specs.Put.{put}
use Rattle.rises.specs.Falls.{fallen}
use Rattle.rises.specs.Far.{far_after, far}
use Rattle.parts.specs.declared.Encoder.{Encoder}
use Rattle.parts.specs.Encoder.{if_zero, taken_by, taken_all_by}
use Rattle.parts.specs.Ready.{put_by}
use Rattle.parts.specs.Batch.{Along, RoomAll, put_all_by}
use Rattle.parts.proofs.Taking.{if_zero_lem, if_more}
use Rattle.parts.proofs.Taken.{all_by_cons, all_by_end, put-all_cons, put-all-end}
use Rattle.parts.proofs.Carried.{room-front}
use Rattle.difference_rows.specs.Later.{later_differences, later_jumps}
use Rattle.jump_entries.specs.Coding.{jumps_coder}
use Rattle.jump_entries.proofs.Adds.{second-size}
use Rattle.jump_entries.proofs.Batch.{taken_batch, batch_fits}
use Rattle.jump_entries.proofs.PutBatch.{batch_put, batch_room}
use Rattle.jump_copy.specs.Further.{further}
use Rattle.jump_copy.proofs.Fronts.{jumps_from, length_jump}

-- the jumps among positions are those that are far from the one before
module _ (w : ℕ) where
  one-far : (p q : ℕ) → p < q → fallen (leb (q - p) (256 ^ w - 1)) ≡ if_zero (difference w p q) 1 0
  unfolding fallen
  one-far p q h =
      cases (leb (q - p) (256 ^ w - 1))
      (λ e.
      let d = fitting w p q (leb-true (q - p) (256 ^ w - 1) e) in
      rw e (sym (if_more {X = ℕ} (difference w p q) 1 0 (λ z. omega arith))))
      (λ e. rw e (sym (if_zero_lem {X = ℕ} (difference w p q) 1 0 (jump_is_zero w p q (leb-false (q - p) (256 ^ w - 1) e)))))

  far-jumps : (B p : ℕ) (qs : List ℕ) → Rising (suc p) B qs → far_after (256 ^ w - 1) p qs ≡ length (jumps_from w p qs)
  unfolding far_after differences_from
  far-jumps B p [] r = unfold jumps_of in refl
  far-jumps B p (q ∷ qs) r =
      ap₂ (λ (x y : ℕ). x + y) (one-far p q (omega arith)) (far-jumps B q qs r.2) ∙ sym (length_jump (difference w p q) q (differences_from w q qs) qs)

  module _ (e : Encoder) (p : ℕ) (qs : List ℕ) where
    abbrev one : Encoder
    one = taken_all_by (jumps_coder w) e (p ∷ [])

    one-taken : one ≡ taken_by (jumps_coder w) e p
    one-taken = all_by_cons (jumps_coder w) e p [] ∙ all_by_end (jumps_coder w) (taken_by (jumps_coder w) e p)

    some : length (p ∷ qs) ≡ 0 → ⊥
    some z = omega arith

    module _ (a : Along e (p ∷ qs)) where
      pub later_taken : further w one (length qs) (get_or (p ∷ qs) (length qs) 0) (length (jumps_from w p qs)) ≡ taken_all_by (jumps_coder w) e (p ∷ qs)
      unfolding further
      later_taken =
          let f : length (jumps_from w p qs) ≡ far (256 ^ w - 1) (p ∷ qs) = unfold far in sym (far-jumps 16777216 p qs a.rising.2) in
          let n : suc (length qs) - 1 ≡ length qs = omega arith in
          rw n at (taken_batch w e (p ∷ qs) some a one-taken f)

      -- no number wraps
      pub later_fits : w ≤ 2 → (one.rank + length qs < 2 ^ 32) × (one.first + 4 * length (jumps_from w p qs) < 2 ^ 64) × (one.second + w * length qs < 2 ^ 64)
      later_fits k =
          let n : suc (length qs) - 1 ≡ length qs = omega arith in
          let t = batch_fits w e (p ∷ qs) some a one-taken k in
          let s = t.0.first-most in
          let u = t.0.second-most in
          let m = rw n at t.1 in
          let j = length-jumps_of (differences_from w p qs) qs in
          let i : w * length qs ≤ 2 * length qs = mul-le-mul_right (length qs) k in
          (omega arith, omega arith, omega arith)

    module _ (n : ℕ) (r : RoomAll (jumps_coder w) e (p ∷ qs) n) where
      one-second : e.second + w * 1 ≡ one.second
      one-second = rw one-taken (unfold taken_by in rw (second-size w e p) (omega arith))

      -- the bytes have room
      pub later_room : (one.first + 4 * length (jumps_from w p qs) ≤ n) × (one.second + w * length qs ≤ n)
      unfolding later_jumps
      later_room =
          let t = batch_room w e (p ∷ qs) some one-taken n r in
          let s = one-second in
          let m = mul-suc w (length qs) in
          (t.0, omega arith)

      -- the bytes of the first, the jumps behind it, the differences behind it
      pub later_put : (d : List ℕ)
          → put (put (put_all_by (jumps_coder w) d e (p ∷ [])) one.first (bytes_of 4 (jumps_from w p qs))) one.second (bytes_of w (differences_from w p qs))
          ≡ put_all_by (jumps_coder w) d e (p ∷ qs)
      unfolding later_jumps later_differences
      later_put d =
          let k = jumps_coder w in
          let o : put_all_by k d e (p ∷ []) ≡ put_by k d e p
          = put-all_cons k e p [] n (room-front k e (p ∷ []) qs n r) d ∙ put-all-end k (put_by k d e p) (taken_by k e p) in
          rw (o, ← one-second) (batch_put w e (p ∷ qs) some one-taken n d r)
