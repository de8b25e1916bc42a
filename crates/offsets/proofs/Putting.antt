-- The offsets of positions from a base, and a loop that puts them out. Assumes nothing.
use Rattle.std.proofs.Common.{◌≡◌, ℕ, zero, suc, ◌+◌, ◌-◌, ◌*◌, ◌<◌, ◌≤◌, List, [], ◌∷◌, length, get_or, drop, sym, refl, ap, mul-suc, add-one, arith}
use Rattle.format.specs.Bytes.{bytes, bytes_of}
use Rattle.stores.specs.Put.{put}
use Rattle.stores.proofs.Laws.{put-numbers-drop, put-numbers-end}
use Rattle.offsets.specs.Over.{offsets_over}

pub length_over : (base : ℕ) (ls : List ℕ) → length (offsets_over base ls) ≡ length ls
unfolding offsets_over
length_over base [] = refl
length_over base (p ∷ ls) = ap suc (length_over base ls)

over-at : (base : ℕ) (ls : List ℕ) (i : ℕ) → i < length ls → get_or (offsets_over base ls) i 0 ≡ get_or ls i 0 - base
unfolding offsets_over
over-at base [] i h = absurd (omega arith)
over-at base (p ∷ ls) zero h = refl
over-at base (p ∷ ls) (suc i) h = over-at base ls i (omega arith)

-- a loop that puts them out: before the turn of index i those from i on are left
module _ (w : ℕ) (d : List ℕ) (at base : ℕ) (ls : List ℕ) where
  pub over_turn : (i : ℕ) → i < length ls
      → put (put d (at + w * i) (bytes w (get_or ls i 0 - base))) (at + w * (i + 1)) (bytes_of w (drop (i + 1) (offsets_over base ls)))
      ≡ put d (at + w * i) (bytes_of w (drop i (offsets_over base ls)))
  over_turn i h =
      let n = length_over base ls in
      let p : at + w * (i + 1) ≡ at + w * i + w = omega (arith, ap (λ (x : ℕ). w * x) (add-one i), mul-suc w i) in
      rw (p, ← over-at base ls i h) (sym (put-numbers-drop w d (at + w * i) (offsets_over base ls) i (omega arith)))

  pub over-end : (i : ℕ) → length ls ≤ i → put d (at + w * i) (bytes_of w (drop i (offsets_over base ls))) ≡ d
  over-end i h = let n = length_over base ls in put-numbers-end w d (at + w * i) (offsets_over base ls) i (omega arith)
