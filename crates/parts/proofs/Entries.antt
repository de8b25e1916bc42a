-- The entries of a file, from a place on: as numbers of w bytes each, and as the code loads them. Assumes nothing.
use Rattle.std.proofs.Common.{◌≡◌, ℕ, suc, ◌+◌, ◌-◌, ◌*◌, ◌^◌, ◌≤◌, List, ◌∷◌, ◌++◌, length, take, drop, sym, ◌∙◌, subst, mul-zero, mul-suc, arith, length-drop, take-append-drop, length-take, drop-drop}
use Rattle.format.specs.Tools.{Below}
use Rattle.format.specs.Bytes.{bytes_of, field, numbers_of}
use Rattle.laws.proofs.Bytes.{length-bytes_of, numbers_of-bytes_of}
use Rattle.wire.specs.Wire.{whole, field_pair, pair_at}
use Rattle.wire.proofs.Laws.{whole-there, pair-there}

-- in the part that begins at s, the entries from index i on are xs
pub record Entries (b : List ℕ) (w s i : ℕ) (xs : List ℕ) : Type 0 where
  pub there : s + w * i + w * length xs ≤ length b
  pub list : numbers_of w (length xs) (drop (s + w * i) b) ≡ xs

module _ (b : List ℕ) (w s i x : ℕ) (xs : List ℕ) (e : Entries b w s i (x ∷ xs)) where
  split : field w (s + w * i) b ∷ numbers_of w (length xs) (drop w (drop (s + w * i) b)) ≡ x ∷ xs
  unfolding numbers_of field
  split = e.list

  pub first_field : field w (s + w * i) b ≡ x
  first_field = let t = split in cc

  first-there : s + w * i + w ≤ length b
  first-there = let t = e.there in omega (arith, mul-suc w (length xs))

  pub first_entry : whole w (s + w * i) b ≡ x
  first_entry = whole-there w (s + w * i) b first-there ∙ first_field

  pub rest_entries : Entries b w s (suc i) xs
  rest_entries =
      let m = mul-suc w i in
      let n = mul-suc w (length xs) in
      let t = e.there in
      let d : s + w * suc i ≡ s + w * i + w = omega arith in
      let p = split in
      record {
        there = omega arith;
        list = rw (d, ← drop-drop w (s + w * i) b) (cc);
      }

-- the next two entries, as a pair
module _ (b : List ℕ) (s i x y : ℕ) (xs : List ℕ) (e : Entries b 4 s (2 * i) (x ∷ y ∷ xs)) where
  pub first-pair : pair_at (s + 8 * i) b ≡ record { first = x; second = y }
  unfolding field_pair
  first-pair =
      let t = e.there in
      let e1 = rest_entries b 4 s (2 * i) x (y ∷ xs) e in
      let d0 : s + 8 * i ≡ s + 4 * (2 * i) = omega arith in
      let d1 : s + 8 * i + 4 ≡ s + 4 * suc (2 * i) = omega arith in
      let f0 : field 4 (s + 8 * i) b ≡ x = rw d0 (first_field b 4 s (2 * i) x (y ∷ xs) e) in
      let f1 : field 4 (s + 8 * i + 4) b ≡ y = rw d1 (first_field b 4 s (suc (2 * i)) y xs e1) in
      pair-there (s + 8 * i) b (omega arith) ∙ (cc)

  pub rest_pairs : Entries b 4 s (2 * suc i) xs
  rest_pairs =
      let n : suc (suc (2 * i)) ≡ 2 * suc i = omega arith in
      subst (λ (k : ℕ). Entries b 4 s k xs) n (rest_entries b 4 s (suc (2 * i)) y xs (rest_entries b 4 s (2 * i) x (y ∷ xs) e))

-- a part that has the bytes of xs
pub all-entries : (b : List ℕ) (w s n : ℕ) (xs : List ℕ) → s ≤ length b → Below (256 ^ w) xs → bytes_of w xs ≡ take n (drop s b) → Entries b w s 0 xs
all-entries b w s n xs h f e =
    let z : s + w * 0 ≡ s = omega (arith, mul-zero w) in
    let d : drop s b ≡ bytes_of w xs ++ drop n (drop s b) = sym (rw e (take-append-drop n (drop s b))) in
    let l : length (bytes_of w xs) ≤ length b - s = rw (e, length-take, length-drop) (omega arith) in
    record {
      there = rw z (omega (arith, length-bytes_of w xs));
      list = rw (z, d) (numbers_of-bytes_of w xs (drop n (drop s b)) f);
    }
