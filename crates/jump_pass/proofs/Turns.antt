-- The turns of the pass over a file's bytes, by a view. Assumes nothing.
use Prim.Native.Nat.{ℕ, zero, suc, ◌+◌, ◌-◌, ◌*◌, ◌^◌, ◌≤◌, ◌<◌}
use mathlib.Core.Path.{◌≡◌, refl, ap, ◌∙◌}
use mathlib.Core.Bool.{true, false}
use mathlib.Core.List.{List, [], ◌∷◌}
use native.Mathlib.Nat.{mul-suc, mul-zero, add-zero, sub-zero}
use native.Mathlib.Numerals.{add-one}
use native.Mathlib.Omega.{arith}
use lib.ListN.{length, drop}
use lib.Seq.{drop-drop}
use lib.Dec.{ltb, eqb}
use borrow.Author.Tests.{le-leb, lt-leb}
use Rattle.format.specs.declared.View.{View}
use Rattle.format.specs.Bytes.{field, numbers_of}
use Rattle.laws.proofs.Numbers.{numbers_turn, numbers-end}
use Rattle.differences.specs.Walk.{Laid}
use Rattle.differences.proofs.Sums.{entry_inside}
use Rattle.jump_pass.specs.Pass.{entries_from, passes, jumps_left, differences_left, passes_from, passes_on, starts}

-- ---- entries by index

module _ (w at n : ℕ) (b : List ℕ) where
  pub entries-all : entries_from w at n 0 b ≡ numbers_of w n (drop at b)
  unfolding entries_from
  entries-all = rw (sub-zero n, mul-zero w, add-zero at)

  entries_none : (i : ℕ) → n ≤ i → entries_from w at n i b ≡ []
  unfolding entries_from numbers_of
  entries_none i h = let e : n - i ≡ 0 = omega arith in rw e

  entries_cons : (i : ℕ) → i < n → entries_from w at n i b ≡ field w (at + w * i) b ∷ entries_from w at n (i + 1) b
  unfolding entries_from numbers_of field
  entries_cons i h =
      let e : n - i ≡ suc (n - (i + 1)) = omega arith in
      let p : at + w * i + w ≡ at + w * (i + 1) = rw (add-one, mul-suc) (omega arith) in
      rw (e, drop-drop w (at + w * i) b, p)

pub none : {n : ℕ} → n ≡ 0 → n ≤ 0
none h = omega arith

-- what a difference reaches is at most 65,536
pub reach_most : {w reach : ℕ} → reach ≡ 256 ^ w → w ≤ 2 → reach ≤ 65536
reach_most {w} e k = rw e (most w k)
  where
    most : (w : ℕ) → w ≤ 2 → 256 ^ w ≤ 65536
    most zero k = omega arith
    most (suc zero) k = omega arith
    most (suc (suc zero)) k = omega arith
    most (suc (suc (suc w))) k = absurd (omega arith)

module _ (v : View) (b : List ℕ) where
  differences-none : (i : ℕ) → v.words ≤ i → differences_left v i b ≡ []
  unfolding differences_left
  differences-none i h = entries_none v.width v.second v.words b i h

  differences_cons : (i : ℕ) → i < v.words → differences_left v i b ≡ field v.width (v.second + v.width * i) b ∷ differences_left v (i + 1) b
  unfolding differences_left
  differences_cons i h = entries_cons v.width v.second v.words b i h

-- ---- on lists

up : (w bound least d : ℕ) (js ds : List ℕ) → 0 < d → passes w bound least js (d ∷ ds) ≡ passes w bound (least + d) js ds
unfolding passes
up w bound least zero js ds h = absurd (omega arith)
up w bound least (suc d) js ds h = refl

-- ---- on bytes

-- the difference of rank i lies in the file
pub entry_room : (v : View) (b : List ℕ) (i : ℕ) {w : ℕ} → Laid b v → w ≡ v.width → i < v.words
    → (1 ≤ w) × (w ≤ 2) × (v.second + w * i + w ≤ length b)
entry_room v b i z ew h =
    let n = z.inside in
    let m = entry_inside v.width v.words i h in
    rw ew (z.narrow, z.wide, omega arith)

module _ (w second words bound : ℕ) (b : List ℕ) (least left i : ℕ) where
  abbrev rest : ℕ → List ℕ
  rest n = numbers_of 4 n (drop (second - 4 * n) b)

  abbrev differences : ℕ → List ℕ
  differences r = entries_from w second words r b

  jumps-none : left ≤ 0 → rest left ≡ []
  jumps-none h = numbers-end 4 left (drop (second - 4 * left) b) h

  jumps_cons : 0 < left → 4 * left ≤ second → rest left ≡ field 4 (second - 4 * left) b ∷ rest (left - 1)
  jumps_cons h k =
      let e : second - 4 * left + 4 ≡ second - 4 * (left - 1) = omega arith in
      numbers_turn 4 left (second - 4 * left) b h ∙ ap (λ (x : ℕ). field 4 (second - 4 * left) b ∷ numbers_of 4 (left - 1) (drop x b)) e

  -- no rank is left
  pub over : {reach : ℕ} → reach ≡ 256 ^ w → words ≤ i → left ≤ 0 → passes_on w second words bound b least left i ≡ ltb least (bound + reach)
  unfolding passes_on passes
  over q h k = rw (entries_none w second words b i h, jumps-none k, q)

  -- a jump is left over
  pub over_jump : words ≤ i → 0 < left → 4 * left ≤ second → passes_on w second words bound b least left i ≡ false
  unfolding passes_on passes
  over_jump h k m = rw (entries_none w second words b i h, jumps_cons k m)

  module _ (h : i < words) {d : ℕ} (e : d ≡ field w (second + w * i) b) where
    pub turn_difference : 0 < d → passes_on w second words bound b least left i ≡ passes_on w second words bound b (least + d) left (i + 1)
    unfolding passes_on
    turn_difference k = rw (entries_cons w second words b i h, ← e, up w bound least d (rest left) (differences (i + 1)) k)

    module _ (z : d ≡ 0) where
      -- no jump is left
      pub turn_none : left ≤ 0 → passes_on w second words bound b least left i ≡ false
      unfolding passes_on passes
      turn_none k = rw (entries_cons w second words b i h, ← e, z, jumps-none k)

      module _ (k : 0 < left) (m : 4 * left ≤ second) {j : ℕ} (f : j ≡ field 4 (second - 4 * left) b) where
        -- a jump that a difference would reach
        pub turn_near : j < least → passes_on w second words bound b least left i ≡ false
        unfolding passes_on passes
        turn_near n = rw (entries_cons w second words b i h, ← e, z, jumps_cons k m, ← f, lt-leb least j n)

        pub turn_jump : {reach : ℕ} → reach ≡ 256 ^ w → least ≤ j
            → passes_on w second words bound b least left i ≡ passes_on w second words bound b (j + reach) (left - 1) (i + 1)
        unfolding passes_on passes
        turn_jump q n = rw (entries_cons w second words b i h, ← e, z, jumps_cons k m, ← f, le-leb least j n, q)

-- all ranks, by a view
pub passes-whole : (v : View) (b : List ℕ) → v.second ≡ v.start + 4 * v.firsts
    → passes_from v b 0 0 0 ≡ passes_on v.width v.second v.words v.cells b 0 v.firsts 0
unfolding passes_from passes_on jumps_left differences_left
passes-whole v b h =
    let e : v.second - 4 * v.firsts ≡ v.start = omega arith in
    rw (entries-all 4 v.start v.firsts b, e)

-- ---- rank 0

module _ (v : View) (b : List ℕ) where
  pub starts_none : v.words ≤ 0 → starts v b ≡ true
  unfolding starts
  starts_none h = rw (differences-none v b 0 h)

  pub starts-some : 0 < v.words → {d : ℕ} → d ≡ field v.width (v.second + v.width * 0) b → eqb d 0 ≡ starts v b
  unfolding starts
  starts-some h e = rw (differences_cons v b 0 h, ← e)
