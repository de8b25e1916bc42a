-- What the searches answer. Assumes nothing.
use Prim.Native.Nat.{ℕ, suc, ◌+◌, ◌-◌, ◌*◌, ◌/◌, ◌≤◌, ◌<◌, ◌^◌, min}
use mathlib.Core.Path.{◌≡◌, refl, sym, ap, ◌∙◌}
use mathlib.Core.Bool.{true, false}
use mathlib.Core.List.{List}
use native.Mathlib.Nat.{div-mul-le_self, mul-add-div_right, div-eq_of_lt, add-zero, mul-suc, mul-le-mul, mul-le-mul_left, min-le_left, min-le_right, le-min}
use native.Mathlib.Omega.{arith}
use lib.ListN.{get_or}
use Rattle.format.specs.declared.View.{View}
use Rattle.format.specs.BaseOffset.{bases}
use Rattle.laws.proofs.Bounds.{index_inside, inside_index}
use Rattle.laws.proofs.Numbers.{numbers-at}
use Rattle.laws.proofs.Positions.{rising_le, get_or_offsets}
use Rattle.laws.proofs.Entries.{base-every}
use Rattle.wire.specs.Wire.{whole, entry_size}
use Rattle.wire.proofs.Laws.{whole-there}
use Rattle.parts.specs.Cursor.{entry_of}
use Rattle.parts.specs.Found.{FoundIn, PositionIn}
use Rattle.parts.specs.Holds.{Holds}
use Rattle.parts.specs.Last.{LastAtMost}
use Rattle.parts.proofs.Places.{rising_lt, found_here, found_gap}
use Rattle.base_groups.proofs.Known.{kind, Known, held, bases_are, offsets_are}
use Rattle.base_groups.proofs.Turn.{firsts-some}
use Rattle.base_offset.proofs.TwoLevel.{Bases, below-first, at_most, above}

-- the product of two 32-bit numbers
pub product-fits : (a c : ℕ) → a < 2 ^ 32 → c < 2 ^ 32 → a * c < 2 ^ 64
product-fits a c h k =
    let m : a ≤ 2 ^ 32 - 1 = omega arith in
    let n : c ≤ 2 ^ 32 - 1 = omega arith in
    let z : a * c ≤ (2 ^ 32 - 1) * (2 ^ 32 - 1) = mul-le-mul m n in
    omega arith

-- the base at an index
abbrev pub base_at : List ℕ → View → ℕ → ℕ
base_at b v j = whole 4 (v.start + 4 * j) b

-- ---- over parts that hold the stored positions ls
module _ (b : List ℕ) (v : View) (ls : List ℕ) (h : Holds (kind v) b v ls) where
  k : Known b v
  k = held b v ls h

  base-place : (j : ℕ) → j * v.step < v.words → (j < v.firsts) × (base_at b v j ≡ get_or ls (j * v.step) 0)
  base-place j g =
      let i : j < v.firsts = rw k.bases (inside_index v.step v.words j k.rule.step-least g) in
      let t = k.there in
      let p = k.second-place in
      let z = h.size in (
        i,
        whole-there 4 (v.start + 4 * j) b (omega arith) ∙ sym (numbers-at 4 v.firsts v.start j b i)
            ∙ ap (λ (x : List ℕ). get_or x j 0) (sym (bases_are b v ls h)) ∙ base-every v.step j ls k.rule.step-least (omega arith),
      )

  offset_place : (r : ℕ) → r < v.words → entry_of b v r ≡ get_or ls r 0 - get_or (bases v.step ls) (r / v.step) 0
  unfolding entry_of
  offset_place r g =
      let w = entry_size v.width in
      let t = k.there in
      let m : w * suc r ≤ w * v.words = mul-le-mul_left w g in
      let n = mul-suc w r in
      let z = h.size in
      whole-there w (v.second + w * r) b (omega arith) ∙ sym (numbers-at w v.words v.second r b g)
      ∙ ap (λ (x : List ℕ). get_or x r 0) (sym (offsets_are b v ls h)) ∙ get_or_offsets v.step ls r (omega arith)

  -- a rank's position is its base and its offset
  pub rank-sum : (r : ℕ) → r < v.words → base_at b v (r / v.step) + entry_of b v r ≡ get_or ls r 0
  rank-sum r g =
      let l = v.step in
      let z = h.size in
      let d = div-mul-le_self r l in
      let q = (base-place (r / l) (omega arith)).1 in
      let e = base-every l (r / l) ls k.rule.step-least (omega arith) in
      let o = offset_place r g in
      let m = rising_le 0 v.cells ls (r / l * l) r h.rising d (omega arith) in
      omega arith

  group_sum : (j x : ℕ) → x < v.step → j * v.step + x < v.words → base_at b v j + entry_of b v (j * v.step + x) ≡ get_or ls (j * v.step + x) 0
  group_sum j x g f =
      let l = v.step in
      let q : (j * l + x) / l ≡ j = mul-add-div_right k.rule.step-least j x ∙ ap (λ (y : ℕ). j + y) (div-eq_of_lt g) ∙ add-zero j in
      rw q at (rank-sum (j * l + x) f)

  two-levels : Bases (λ r. get_or ls r 0) v.words v.step (base_at b v) v.firsts
  two-levels =
      record {
        rise = λ i j g f. let z = h.size in rising_lt 0 v.cells ls i j h.rising g (omega arith);
        step = k.rule.step-least;
        inside = inside;
        index = λ j g. (base-place j g).0;
        value = λ j g. (base-place j (inside j g)).1;
      }
    where
      inside : (j : ℕ) → j < v.firsts → j * v.step < v.words
      inside j g = index_inside v.step v.words j k.rule.step-least (rw (← k.bases) g)

-- ---- the answers

-- the search is at the base j
pub record AtBase (b : List ℕ) (v : View) (p j base : ℕ) : Type 0 where
  pub last : LastAtMost (base_at b v) v.firsts p j
  pub is : base ≡ base_at b v j

-- the search is at the offset i of that base's group of n ranks
pub record AtGroup (b : List ℕ) (v : View) (p j base n i : ℕ) : Type 0 where
  pub at_base : AtBase b v p j base
  pub start : j * v.step < v.words
  pub lesser : n ≡ min v.step (v.words - j * v.step)
  pub least : base ≤ p
  pub full : 0 < n
  pub found : LastAtMost (λ x. entry_of b v (j * v.step + x)) n (p - base) i

never : false ≡ true → ⊥
never z = let y : ◌≡◌ {A = ℕ} 0 1 = cc in omega arith

module _ {b : List ℕ} {v : View} {p j base : ℕ} (t : AtBase b v p j base) where
  none_below : ((ls : List ℕ) → Holds (kind v) b v ls → 0 < v.words → p < get_or ls 0 0) → FoundIn (kind v) b v p (record { below = 0; here = false })
  none_below f =
      record {
        right = λ ls h. let z = h.size in found_gap v.cells p ls h.rising 0 (omega arith) (λ y. absurd (omega arith)) (λ y. f ls h (omega arith)) _ refl refl;
        free = λ z. absurd (never z);
      }

  pub find_before : p < base → FoundIn (kind v) b v p (record { below = 0; here = false })
  find_before g =
      none_below
      (λ ls h s. below-first _ _ _ _ _ (two-levels b v ls h) p j (firsts-some h.counted s) t.last (rw t.is at g))

  pub find_outside : v.words ≤ j * v.step → FoundIn (kind v) b v p (record { below = 0; here = false })
  find_outside g = none_below (λ ls h s. let z = (two-levels b v ls h).inside j (t.last.within (firsts-some h.counted s)) in absurd (omega arith))

  pub find_no_group : {n : ℕ} → j * v.step < v.words → n ≡ min v.step (v.words - j * v.step) → n ≡ 0
      → FoundIn (kind v) b v p (record { below = 0; here = false })
  find_no_group g l e =
      none_below
      (λ ls h s.
      let m : 1 ≤ min v.step (v.words - j * v.step) = le-min (held b v ls h).rule.step-least (omega arith) in
      absurd (omega arith))

module _ {b : List ℕ} {v : View} {p j base n i : ℕ} (g : AtGroup b v p j base n i) where
  pub rank-within : j * v.step + i < v.words
  rank-within =
      let w = g.found.within g.full in
      let e = g.lesser in
      let s = min-le_right v.step (v.words - j * v.step) in
      omega arith

  module _ (ls : List ℕ) (h : Holds (kind v) b v ls) where
    sums : (x : ℕ) → x < n → base_at b v j + entry_of b v (j * v.step + x) ≡ get_or ls (j * v.step + x) 0
    sums x y =
        let e = g.lesser in
        let f = min-le_left v.step (v.words - j * v.step) in
        let s = min-le_right v.step (v.words - j * v.step) in
        group_sum b v ls h j x (omega arith) (omega arith)

    -- the position at the rank found
    found-place : base + entry_of b v (j * v.step + i) ≡ get_or ls (j * v.step + i) 0
    found-place = rw g.at_base.is (sums i (g.found.within g.full))

    low : get_or ls (j * v.step + i) 0 ≤ p
    low =
        let w = rank-within in
        at_most _ _ _ _ _ (two-levels b v ls h) p j (firsts-some h.counted (omega arith)) g.at_base.last n i _ (rw g.at_base.is at g.least) g.lesser
        g.full sums (rw g.at_base.is at g.found)

    high : (x : ℕ) → j * v.step + i < x → x < v.words → p < get_or ls x 0
    high =
        let w = rank-within in
        above _ _ _ _ _ (two-levels b v ls h) p j (firsts-some h.counted (omega arith)) g.at_base.last n i _ (rw g.at_base.is at g.least) g.lesser
        g.full sums (rw g.at_base.is at g.found)

  pub find_here : entry_of b v (j * v.step + i) ≡ p - base → FoundIn (kind v) b v p (record { below = j * v.step + i; here = true })
  find_here e =
      record {
        right = λ ls h.
            let z = h.size in
            let w = rank-within in
            let l = g.least in
            let y = found-place ls h in
            found_here v.cells p ls h.rising (j * v.step + i) (omega arith) (omega arith) _ refl refl;
        free = λ z. rank-within;
      }

  pub find_absent : (entry_of b v (j * v.step + i) ≡ p - base → ⊥) → FoundIn (kind v) b v p (record { below = j * v.step + i + 1; here = false })
  find_absent e =
      record {
        right = λ ls h.
            let z = h.size in
            let w = rank-within in
            let d : j * v.step + i + 1 - 1 ≡ j * v.step + i = omega arith in
            found_gap v.cells p ls h.rising (j * v.step + i + 1) (omega arith)
            (λ y. rw d (let m = low ls h in let q = found-place ls h in lt_of m (λ x. e (omega arith))))
            (λ y. high ls h (j * v.step + i + 1) (omega arith) (omega arith)) _ refl refl;
        free = λ z. absurd (never z);
      }
    where
      lt_of : {x y : ℕ} → x ≤ y → (x ≡ y → ⊥) → x < y
      lt_of m n = omega arith

-- the sum of base and offset, or any number where the step is 0
pub position-sum : (b : List ℕ) (v : View) (r q : ℕ) → q ≡ base_at b v (r / v.step) + entry_of b v r → PositionIn (kind v) b v r q
position-sum b v r q e = record { right = λ ls h g. e ∙ rank-sum b v ls h r g }

pub position-forged : (b : List ℕ) (v : View) (r q : ℕ) → v.step ≡ 0 → PositionIn (kind v) b v r q
position-forged b v r q z = record { right = λ ls h g. let s = (held b v ls h).rule.step-least in absurd (omega arith) }
