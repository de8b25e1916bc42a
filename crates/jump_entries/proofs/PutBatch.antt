-- A batch of positions put out: the first, and the differences and jumps after it. Assumes nothing.
use Prim.Native.Nat.{ℕ, suc, ◌+◌, ◌*◌, ◌≤◌}
use mathlib.Core.Path.{◌≡◌, refl, sym, ap, ◌∙◌}
use mathlib.Core.List.{List, [], ◌∷◌, ◌++◌}
use native.Mathlib.Nat.{mul-suc}
use native.Mathlib.Numerals.{add-one}
use native.Mathlib.Omega.{arith}
use lib.ListN.{length, get_or}
use Rattle.format.specs.Bytes.{bytes_of}
use Rattle.format.specs.Jumps.{differences_from, differences}
use Rattle.laws.proofs.Bytes.{length-bytes_of}
use Rattle.laws.proofs.Bounds.{length-differences}
use Rattle.stores.specs.Put.{put}
use Rattle.parts.specs.declared.Encoder.{Encoder}
use Rattle.parts.specs.Encoder.{taken_by, taken_all_by, firsts_by, seconds_by}
use Rattle.parts.specs.Ready.{put_by}
use Rattle.parts.specs.Batch.{added_first_by, added_second_by, put_all_by, RoomAll}
use Rattle.parts.proofs.Taken.{length-second, length-first, put-all_cons}
use Rattle.parts.proofs.Added.{first-place}
use Rattle.difference_rows.specs.Later.{later_differences, later_jumps}
use Rattle.jump_entries.specs.Coding.{jumps_coder}
use Rattle.jump_entries.proofs.Adds.{second-size}
use Rattle.jump_entries.proofs.Taken.{seconds_from, firsts_from}

module _ (w : ℕ) where
  added-first : (e : Encoder) (ls : List ℕ) → added_first_by (jumps_coder w) e ls ≡ firsts_by (jumps_coder w) e ls
  unfolding added_first_by firsts_by jumps_coder
  added-first e [] = refl
  added-first e (p ∷ ls) = ap (λ (l : List ℕ). (jumps_coder w).first e p ++ l) (added-first (taken_by (jumps_coder w) e p) ls)

  added-second : (e : Encoder) (ls : List ℕ) → added_second_by (jumps_coder w) e ls ≡ seconds_by (jumps_coder w) e ls
  unfolding added_second_by seconds_by jumps_coder
  added-second e [] = refl
  added-second e (p ∷ ls) = ap (λ (l : List ℕ). (jumps_coder w).second e p ++ l) (added-second (taken_by (jumps_coder w) e p) ls)

  module _ (e : Encoder) (p : ℕ) (ls : List ℕ) where
    abbrev t : Encoder
    t = taken_by (jumps_coder w) e p

    later_first : added_first_by (jumps_coder w) t ls ≡ bytes_of 4 (later_jumps w (p ∷ ls))
    unfolding taken_by later_jumps
    later_first = added-first t ls ∙ firsts_from w t e.rank ls (add-one e.rank)

    later_second : added_second_by (jumps_coder w) t ls ≡ bytes_of w (later_differences w (p ∷ ls))
    unfolding taken_by later_differences
    later_second = added-second t ls ∙ seconds_from w t e.rank ls (add-one e.rank)

    -- all at once: the first, the later jumps, the later differences
    put_cons : (n : ℕ) (d : List ℕ) → RoomAll (jumps_coder w) e (p ∷ ls) n
        → put (put (put_by (jumps_coder w) d e p) t.first (bytes_of 4 (later_jumps w (p ∷ ls)))) (e.second + w * 1) (bytes_of w (later_differences w (p ∷ ls)))
        ≡ put_all_by (jumps_coder w) d e (p ∷ ls)
    put_cons n d r =
        let g : e.second + w * 1 ≡ t.second = unfold taken_by in rw (second-size w e p) (omega arith) in
        rw (g, ← later_first, ← later_second) (unfold put_all_by in sym (put-all_cons (jumps_coder w) e p ls n r d))

    room_cons : (n : ℕ) → RoomAll (jumps_coder w) e (p ∷ ls) n
        → (t.first + 4 * length (later_jumps w (p ∷ ls)) ≤ n) × (e.second + w * length (p ∷ ls) ≤ n)
    unfolding taken_by later_differences
    room_cons n r =
        let a = length-first (jumps_coder w) e p ls in
        let b = length-second (jumps_coder w) e p ls in
        let f = ap length later_first ∙ length-bytes_of 4 (later_jumps w (p ∷ ls)) in
        let s = ap length later_second ∙ length-bytes_of w (later_differences w (p ∷ ls)) in
        let o : suc (length (differences_from w p ls)) ≡ suc (length ls) = unfold differences in length-differences w (p ∷ ls) in
        let z = second-size w e p in
        let m : w * suc (length ls) ≡ w + w * length ls = rw mul-suc (omega arith) in
        let q : w * length (differences_from w p ls) ≡ w * length ls = ap (λ (x : ℕ). w * x) (omega arith) in
        let u = r.first in
        let v = r.second in
        (omega arith, omega arith)

    count_cons : (taken_all_by (jumps_coder w) e (p ∷ ls)).first ≡ t.first + 4 * length (later_jumps w (p ∷ ls))
    unfolding taken_all_by
    count_cons =
        let f = ap length later_first ∙ length-bytes_of 4 (later_jumps w (p ∷ ls)) in
        let a = first-place (jumps_coder w) t ls in
        omega arith

  module _ (e : Encoder) {at : Encoder} where
    pub batch_put : (ls : List ℕ) → (length ls ≡ 0 → ⊥) → at ≡ taken_by (jumps_coder w) e (get_or ls 0 0) → (n : ℕ) (d : List ℕ) → RoomAll (jumps_coder w) e ls n
        → put (put (put_by (jumps_coder w) d e (get_or ls 0 0)) at.first (bytes_of 4 (later_jumps w ls))) (e.second + w * 1) (bytes_of w (later_differences w ls))
        ≡ put_all_by (jumps_coder w) d e ls
    batch_put [] s h n d r = absurd (s refl)
    batch_put (p ∷ ls) s h n d r = rw h (put_cons e p ls n d r)

    pub batch_room : (ls : List ℕ) → (length ls ≡ 0 → ⊥) → at ≡ taken_by (jumps_coder w) e (get_or ls 0 0) → (n : ℕ) → RoomAll (jumps_coder w) e ls n
        → (at.first + 4 * length (later_jumps w ls) ≤ n) × (e.second + w * length ls ≤ n)
    batch_room [] s h n r = absurd (s refl)
    batch_room (p ∷ ls) s h n r = rw h (room_cons e p ls n r)

    -- the first part grows by the later jumps
    pub batch_count : (ls : List ℕ) → (length ls ≡ 0 → ⊥) → at ≡ taken_by (jumps_coder w) e (get_or ls 0 0) → {end : Encoder} → end ≡ taken_all_by (jumps_coder w) e ls
        → end.first ≡ at.first + 4 * length (later_jumps w ls)
    batch_count [] s h f = absurd (s refl)
    batch_count (p ∷ ls) s h f = rw (f, h) (count_cons e p ls)
