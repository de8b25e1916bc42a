-- The first entries of a row in a file, of differences and of their jumps. Assumes nothing.
use Prim.Native.Nat.{ℕ, zero, suc, ◌+◌, ◌*◌, ◌≤◌}
use mathlib.Core.Path.{◌≡◌, refl, sym, ap, ◌∙◌}
use mathlib.Core.List.{List, [], ◌∷◌}
use native.Mathlib.Nat.{mul-le-mul_left}
use native.Mathlib.Omega.{arith}
use lib.ListN.{length, take, drop, length-drop}
use lib.Seq.{take-take}
use Rattle.format.specs.Tools.{Below}
use Rattle.format.specs.Bytes.{bytes_of}
use Rattle.format.specs.Jumps.{difference, differences_from, jumps_of}
use Rattle.laws.proofs.Bytes.{below-drop}
use Rattle.laws.proofs.Check.{bytes_of-numbers_of}
use Rattle.laws.proofs.RankRange.{take-bytes_of}
use Rattle.parts.specs.Encoder.{if_zero}
use Rattle.parts.proofs.Entries.{Entries}

-- ---- entries

module _ (b : List ℕ) (w s i : ℕ) (xs : List ℕ) (e : Entries b w s i xs) where
  -- at one place stands one list of a length
  pub entries-same : (ys : List ℕ) → Entries b w s i ys → length xs ≡ length ys → xs ≡ ys
  entries-same ys f n = sym e.list ∙ rw n f.list

  module _ (m : ℕ) (h : m ≤ length xs) where
    -- the first m entries
    pub front-there : s + w * i + w * m ≤ length b
    front-there =
        let k : w * m ≤ w * length xs = mul-le-mul_left w h in
        let t = e.there in
        omega arith

    pub front_bytes : Below 256 b → take (w * m) (drop (s + w * i) b) ≡ bytes_of w (take m xs)
    front_bytes small =
        let at = s + w * i in
        let t = e.there in
        let n = length-drop at b in
        let q = bytes_of-numbers_of w (length xs) (drop at b) (below-drop 256 at b small) (omega arith) in
        sym (take-take (w * m) (w * length xs) (drop at b) (mul-le-mul_left w h)) ∙ rw (← q, e.list) (take-bytes_of w m xs)

-- ---- differences and jumps

-- the jumps among the positions ls, which stand behind p
abbrev pub jumps_from : ℕ → ℕ → List ℕ → List ℕ
jumps_from w p ls = jumps_of (differences_from w p ls) ls

-- the differences of the first positions are the first differences
pub take-differences : (w p n : ℕ) (ls : List ℕ) → take n (differences_from w p ls) ≡ differences_from w p (take n ls)
unfolding differences_from
take-differences w p zero ls = refl
take-differences w p (suc n) [] = refl
take-differences w p (suc n) (l ∷ ls) = ap (λ (ds : List ℕ). difference w p l ∷ ds) (take-differences w l n ls)

-- a jump more where the difference is 0
pub length_jump : (d p : ℕ) (ds ls : List ℕ) → length (jumps_of (d ∷ ds) (p ∷ ls)) ≡ if_zero d 1 0 + length (jumps_of ds ls)
unfolding jumps_of
length_jump zero p ds ls = omega arith
length_jump (suc d) p ds ls = omega arith

-- the jumps among the first positions are the first jumps
take-jumps : (n : ℕ) (ds ls : List ℕ) → let js = jumps_of (take n ds) (take n ls) in (length js ≤ length (jumps_of ds ls)) × (take (length js) (jumps_of ds ls) ≡ js)
unfolding jumps_of
take-jumps zero ds ls = (omega arith, refl)
take-jumps (suc n) [] ls = (omega arith, refl)
take-jumps (suc n) (d ∷ ds) [] = (omega arith, refl)
take-jumps (suc n) (zero ∷ ds) (l ∷ ls) =
    let t = take-jumps n ds ls in
    let k = t.0 in
    (omega arith, ap (λ (js : List ℕ). l ∷ js) t.1)
take-jumps (suc n) (suc d ∷ ds) (l ∷ ls) = take-jumps n ds ls

module _ (w p n : ℕ) (ls : List ℕ) where
  pub jumps-most : length (jumps_from w p (take n ls)) ≤ length (jumps_from w p ls)
  jumps-most = rw (← take-differences w p n ls) (take-jumps n (differences_from w p ls) ls).0

  pub jumps-front : take (length (jumps_from w p (take n ls))) (jumps_from w p ls) ≡ jumps_from w p (take n ls)
  jumps-front = rw (← take-differences w p n ls) (take-jumps n (differences_from w p ls) ls).1
