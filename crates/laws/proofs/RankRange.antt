-- A rank range's part is the stored bytes of those ranks. Assumes nothing.
use Prim.Native.Nat.{ℕ, zero, suc, ◌+◌, ◌-◌, ◌*◌}
use mathlib.Core.Path.{◌≡◌, refl, sym, ap, ◌∙◌}
use mathlib.Core.List.{List, [], ◌∷◌, ◌++◌}
use native.Mathlib.Nat.{mul-suc, mul-zero}
use native.Mathlib.Omega.{arith}
use lib.ListN.{take, drop}
use lib.Seq.{take-add, drop_at, take_at, drop-drop}
use Rattle.format.specs.Bytes.{bytes, bytes_of}
use Rattle.format.specs.Accepted.{words_at, kept_of, check_number}
use Rattle.format.specs.RankRange.{ranks_number, ranks_from, ranks_bytes}
use Rattle.laws.proofs.Tools.{or_else-zero}
use Rattle.laws.proofs.Bytes.{length-bytes}
use Rattle.laws.proofs.Files.{from_words, kept_back}
use Rattle.laws.proofs.Acceptance.{accepted_has_file}

-- ---- numbers of w bytes each, from one on and up to one

pub drop-bytes_of : (w n : ℕ) (xs : List ℕ) → drop (w * n) (bytes_of w xs) ≡ bytes_of w (drop n xs)
unfolding bytes_of
drop-bytes_of w zero xs = rw (mul-zero w)
drop-bytes_of w (suc n) [] = drop_nil (w * suc n)
  where
    drop_nil : (k : ℕ) → drop k (bytes_of w []) ≡ bytes_of w []
    drop_nil zero = refl
    drop_nil (suc k) = refl
drop-bytes_of w (suc n) (x ∷ xs) =
    let e : w * suc n ≡ w + w * n = omega (arith, mul-suc w n) in
    rw (e, ← drop-drop (w * n) w (bytes w x ++ bytes_of w xs), drop_at (bytes w x) (bytes_of w xs) w (length-bytes w x)) (drop-bytes_of w n xs)

pub take-bytes_of : (w n : ℕ) (xs : List ℕ) → take (w * n) (bytes_of w xs) ≡ bytes_of w (take n xs)
unfolding bytes_of
take-bytes_of w zero xs = rw (mul-zero w)
take-bytes_of w (suc n) [] = take-nil (w * suc n)
  where
    take-nil : (k : ℕ) → take k (bytes_of w []) ≡ bytes_of w []
    take-nil zero = refl
    take-nil (suc k) = refl
take-bytes_of w (suc n) (x ∷ xs) =
    let e : w * suc n ≡ w + w * n = omega (arith, mul-suc w n) in
    rw (
      e,
      take-add w (w * n) (bytes w x ++ bytes_of w xs),
      take_at (bytes w x) (bytes_of w xs) w (length-bytes w x),
      drop_at (bytes w x) (bytes_of w xs) w (length-bytes w x),
      take-bytes_of w n xs,
    )

-- the words of the ranks from a up to c, 4 bytes each
pub ranks_part : (b : List ℕ) (a c : ℕ) → ranks_number b a c ≡ 0 → ranks_bytes b a c ≡ bytes_of 4 (take (c - a) (drop a (kept_of b)))
unfolding ranks_number ranks_bytes ranks_from
ranks_part b a c h =
    let t = or_else-zero (check_number b) _ h in
    let f = accepted_has_file b t.0 in
    let w : drop (words_at b) b ≡ bytes_of 4 (kept_of b)
    = from_words _ _ _ _ b f ∙ ap (bytes_of 4) (sym (kept_back _ _ _ _ b f)) in
    ap (take (4 * (c - a))) (rw (← drop-drop (4 * a) (words_at b) b, w) (drop-bytes_of 4 a (kept_of b))) ∙ take-bytes_of 4 (c - a) (drop a (kept_of b))
