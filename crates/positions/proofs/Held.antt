-- The positions that the first part says, and what they are where it holds stored positions. Assumes nothing.
use Rattle.std.proofs.Common.{◌≡◌, ℕ, ◌+◌, ◌-◌, ◌*◌, ◌<◌, ◌≤◌, Bool, true, false, not, eqb, List, length, get_or, take, drop, sym, refl, ap, ◌∙◌, arith, length-drop, eq-eqb, eqb-true}
use Rattle.format.specs.declared.View.{View}
use Rattle.format.specs.Tools.{Below, both}
use Rattle.format.specs.Bytes.{numbers_of, bytes_of}
use Rattle.format.specs.Positions.{position_parts, positions_kind}
use Rattle.laws.proofs.Tools.{both_true, both_one, same_eq}
use Rattle.laws.proofs.Bytes.{below-drop}
use Rattle.laws.proofs.Numbers.{numbers-at}
use Rattle.laws.proofs.Check.{bytes_of-numbers_of, length-numbers_of}
use Rattle.wire.specs.Wire.{whole}
use Rattle.wire.proofs.Laws.{whole-there}
use Rattle.parts.specs.declared.Found.{Found}
use Rattle.parts.specs.Holds.{Counted, said, rises, parts_of, parts_right, Holds}
use Rattle.parts.specs.Found.{FoundAmong}
use Rattle.parts.specs.Last.{Ascending, LastAtMost}
use Rattle.parts.proofs.Places.{rising_lt, found_here, found_gap}

-- an empty cell is not here
pub never_here : {t : Bool} {X : Type 0} → t ≡ false → t ≡ true → X
never_here p q = let z : ◌≡◌ {A = Bool} true false = cc in absurd (no z)
  where
    no : true ≡ false → ⊥
    no e = let y : ◌≡◌ {A = ℕ} 0 1 = cc in omega arith

abbrev K : View → Rattle.format.specs.Codec.Codec
K v = positions_kind v.width v.step

module _ (b : List ℕ) (v : View) (c : Counted (K v) b v) where
  -- the counts, and the part's place
  pub counts : (v.firsts ≡ v.words) × (v.seconds ≡ 0)
  unfolding positions_kind
  counts =
      let t = both_true (eqb v.firsts v.words) (eqb v.seconds 0) c.counts in
      (eqb-true v.firsts v.words t.0, eqb-true v.seconds 0 t.1)

  pub there : v.start + 4 * v.words ≤ length b
  unfolding positions_kind
  there =
      let n = counts.0 in
      let s = c.second in
      let i = c.inside in
      omega arith

  pub said_are : said (K v) b v ≡ numbers_of 4 v.words (drop v.start b)
  unfolding said positions_kind
  said_are = ap (λ (n : ℕ). numbers_of 4 n (drop v.start b)) counts.0

  -- ---- the check

  six_left : {r c d e f g h : Bool} → c ≡ true → d ≡ false → e ≡ true → f ≡ true → g ≡ true → h ≡ true
      → both r (both c (both (not d) (both e (both f (both g h))))) ≡ r
  six_left {r} p q s t u v = rw (p, q, s, t, u, v) (both_one r)

  pub parts_are : Below 256 b → rises 0 v.cells (numbers_of 4 v.words (drop v.start b)) ≡ parts_right (K v) b v
  unfolding parts_right parts_of positions_kind position_parts
  parts_are s =
      let h = there in
      let n = counts in
      let k : 4 * v.words ≤ length (drop v.start b) = rw (length-drop v.start b) (omega arith) in
      let z = length-numbers_of 4 v.words (drop v.start b) in
      let f : bytes_of 4 (numbers_of 4 v.words (drop v.start b)) ≡ take (4 * v.firsts) (drop v.start b)
      = rw n.0 (bytes_of-numbers_of 4 v.words (drop v.start b) (below-drop 256 v.start b s) k) in
      rw said_are
      (sym
      (six_left (eq-eqb _ v.words z) refl (eq-eqb _ v.firsts (z ∙ sym n.0)) (eq-eqb 0 v.seconds (sym n.1)) (same_eq _ _ f) refl))

-- ---- where it holds the stored positions ls

module _ (b : List ℕ) (v : View) (ls : List ℕ) (h : Holds (K v) b v ls) where
  pub entry_at : (i : ℕ) → i < v.words → whole 4 (v.start + 4 * i) b ≡ get_or ls i 0
  entry_at i g =
      let f = there b v h.counted in
      let e : ls ≡ numbers_of 4 v.words (drop v.start b) = sym h.back ∙ said_are b v h.counted in
      whole-there 4 (v.start + 4 * i) b (omega arith) ∙ sym (rw e (numbers-at 4 v.words v.start i b g))

  ascending : Ascending (λ i. whole 4 (v.start + 4 * i) b) v.words
  ascending i j g k = rw (entry_at i (omega arith), entry_at j k) (rising_lt 0 v.cells ls i j h.rising g (let z = h.size in omega arith))

  module _ (p : ℕ) (f : Found) where
    pub find_none : v.words ≡ 0 → f.below ≡ 0 → f.here ≡ false → FoundAmong p ls f
    find_none z = let n = h.size in found_gap v.cells p ls h.rising 0 (omega arith) (λ k. absurd (omega arith)) (λ k. absurd (omega arith)) f

    module _ (r : ℕ) (some : 0 < v.words) (last : LastAtMost (λ i. whole 4 (v.start + 4 * i) b) v.words p r) where
      inside : r < v.words
      inside = last.within some

      pub find_past : whole 4 (v.start + 4 * r) b < p → f.below ≡ r + 1 → f.here ≡ false → FoundAmong p ls f
      find_past k =
          let i = inside in
          let n = h.size in
          let e : r + 1 - 1 ≡ r = omega arith in
          found_gap v.cells p ls h.rising (r + 1) (omega arith) (λ g. rw (e, ← entry_at r i) k)
          (λ g. rw (← entry_at (r + 1) (omega arith)) (last.high ascending (r + 1) (omega arith) (omega arith))) f

      pub find_here : whole 4 (v.start + 4 * r) b ≡ p → f.below ≡ r → f.here ≡ true → FoundAmong p ls f
      find_here k = let i = inside in let n = h.size in found_here v.cells p ls h.rising r (omega arith) (sym (entry_at r i) ∙ k) f

      pub find_first : p < whole 4 (v.start + 4 * r) b → f.below ≡ r → f.here ≡ false → FoundAmong p ls f
      find_first k =
          let i = inside in
          let n = h.size in
          found_gap v.cells p ls h.rising r (omega arith) (λ g. let low = last.low ascending (omega arith) in absurd (omega arith)) (λ g. rw (← entry_at r i) k) f
