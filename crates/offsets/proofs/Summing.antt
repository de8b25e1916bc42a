-- A loop that adds a base to a row of numbers. Assumes nothing.
use Rattle.std.proofs.Common.{◌≡◌, ℕ, suc, ◌+◌, ◌-◌, ◌*◌, ◌<◌, ◌≤◌, List, [], ◌∷◌, ◌++◌, length, take, drop, set, refl, ap, ◌∙◌, append-nil, mul-suc, add-one, arith, take_all, take-suc-set}
use lib.Seq.{append_snoc}
use Rattle.format.specs.Bytes.{field, numbers_of}
use Rattle.laws.proofs.Numbers.{numbers_turn, numbers-end}
use Rattle.laws.proofs.Check.{length-numbers_of}
use Rattle.wire.specs.Wire.{add32}
use Rattle.offsets.specs.Sums.{sums}

-- before the turn of index i the sums from i on are left
module _ (w base at : ℕ) (b : List ℕ) (n : ℕ) where
  -- of the numbers from index i on
  abbrev pub sums-left : ℕ → List ℕ
  sums-left i = sums base (numbers_of w (n - i) (drop (at + w * i) b))

  pub sums_turn : (out : List ℕ) (i x : ℕ) → i < n → length out ≡ n → x ≡ add32 base (field w (at + w * i) b)
      → take (i + 1) (set out i x) ++ sums-left (i + 1) ≡ take i out ++ sums-left i
  unfolding sums
  sums_turn out i x h e f =
      let p : at + w * (i + 1) ≡ at + w * i + w = omega (arith, ap (λ (x : ℕ). w * x) (add-one i), mul-suc w i) in
      let k : n - i - 1 ≡ n - (i + 1) = omega arith in
      let t : sums-left i ≡ x ∷ sums-left (i + 1) = rw (numbers_turn w (n - i) (at + w * i) b (omega arith), p, k, f) in
      rw (t, add-one i, take-suc-set out i x (omega arith)) (append_snoc (take i out) x (sums-left (suc i)))

  pub sums-end : (out : List ℕ) (i : ℕ) → n ≤ i → length out ≡ n → take i out ++ sums-left i ≡ out
  unfolding sums
  sums-end out i h e = rw (numbers-end w (n - i) (drop (at + w * i) b) (omega arith)) (append-nil (take i out) ∙ take_all i out (omega arith))

pub length-sums : (w base n : ℕ) (b : List ℕ) → length (sums base (numbers_of w n b)) ≡ n
unfolding sums
length-sums w base n b = go (numbers_of w n b) ∙ length-numbers_of w n b
  where
    go : (xs : List ℕ) → length (sums base xs) ≡ length xs
    go [] = refl
    go (x ∷ xs) = ap suc (go xs)
