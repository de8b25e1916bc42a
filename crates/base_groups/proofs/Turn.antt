-- The check along the groups: its start, one turn, and its end. Assumes nothing.
use Rattle.std.proofs.Common.{◌≡◌, ℕ, ◌+◌, ◌-◌, ◌*◌, ◌<◌, ◌≤◌, true, false, eqb, List, [], ◌∷◌, length, drop, sym, refl, ap, ◌∙◌, mul-le-mul_left, mul-zero, mul-suc, add-zero, add-one, arith, eq-eqb, ne_eqb, le-leb}
use native.Mathlib.Nat.{mul-sub, sub-zero}
use Rattle.format.specs.declared.View.{View}
use Rattle.format.specs.Tools.{Below, both, up_to}
use Rattle.format.specs.Bytes.{field, numbers_of}
use Rattle.laws.proofs.Check.{length-numbers_of}
use Rattle.wire.specs.Wire.{entry_size}
use Rattle.parts.specs.Holds.{Counted, parts_right}
use Rattle.laws.proofs.Numbers.{numbers_turn, numbers-end}
use Rattle.offsets.specs.Falls.{falls}
use Rattle.offsets.specs.Ends.{group_ends}
use Rattle.base_groups.specs.Group.{ends_right, ends_of}
use Rattle.base_groups.proofs.RankByRank.{ranks_right}
use Rattle.base_groups.proofs.Groups.{groups_ranks}
use Rattle.base_groups.proofs.Falls.{count_next, count-some, count_left, groups_ends}
use Rattle.base_groups.proofs.Pieces.{take-numbers, drop-numbers}
use Rattle.base_groups.proofs.Known.{kind, Known, known, bases_of, offsets_of}
use Rattle.base_groups.proofs.PartsRight.{bases-count, ranks_are}

-- ---- before a turn: the group of `base` is next, with `more` groups after it and `left` ranks in all

pub record Turn (b : List ℕ) (v : View) (base place at left more : ℕ) : Type 0 where
  pub bases : place + 4 * more ≤ length b
  pub ranks : at + entry_size v.width * left ≤ length b
  pub count : more + 1 ≡ up_to left v.step
  pub rest : ends_right v.step v.cells base (numbers_of 4 more (drop place b)) (numbers_of (entry_size v.width) left (drop at b)) ≡ ends_of b v

-- before the turn of index i
abbrev pub Before : List ℕ → View → ℕ → ℕ → Type 0
Before b v base i = Turn b v base (v.start + 4 * (i + 1)) (v.second + entry_size v.width * v.step * i) (v.words - v.step * i) (v.firsts - 1 - i)

module _ {b : List ℕ} {v : View} (c : Counted (kind v) b v) where
  k : Known b v
  k = known b v c

  pub no_ranks : Below 256 b → v.words ≡ 0 → true ≡ parts_right (kind v) b v
  unfolding ranks_right
  no_ranks s z =
      let e : offsets_of b v ≡ [] = numbers-end (entry_size v.width) v.words (drop v.second b) (omega arith) in
      let t : ranks_right v.step 0 0 0 v.cells (bases_of b v) [] ≡ parts_right (kind v) b v = rw e at (ranks_are b v c s) in
      sym (le-leb 0 v.cells (omega arith)) ∙ t

  pub firsts-some : 0 < v.words → 0 < v.firsts
  firsts-some h = rw k.bases (count-some v.step v.words k.rule.step-least h)

  parts-ends : Below 256 b → 0 < v.words → both (eqb (falls (offsets_of b v)) (v.firsts - 1)) (ends_of b v) ≡ parts_right (kind v) b v
  unfolding ends_of
  parts-ends s h =
      let f = firsts-some h in
      let bs = numbers_of 4 (v.firsts - 1) (drop (v.start + 4) b) in
      let n : bases_of b v ≡ field 4 v.start b ∷ bs = numbers_turn 4 v.firsts v.start b f in
      let z : length (offsets_of b v) ≡ v.words = length-numbers_of (entry_size v.width) v.words (drop v.second b) in
      let y : length bs ≡ v.firsts - 1 = length-numbers_of 4 (v.firsts - 1) (drop (v.start + 4) b) in
      let n2 : length (field 4 v.start b ∷ bs) ≡ up_to (length (offsets_of b v)) v.step = ap length (sym n) ∙ bases-count b v c in
      ap (λ (x : ℕ). both (eqb (falls (offsets_of b v)) x) (ends_of b v)) (sym y)
      ∙ groups_ends v.step v.cells (field 4 v.start b) bs (offsets_of b v) k.rule.step-least (omega arith)
      ∙ groups_ranks v.step v.cells (field 4 v.start b) bs (offsets_of b v) k.rule.step-least (omega arith) n2
      ∙ ap (λ (x : List ℕ). ranks_right v.step 0 0 0 v.cells x (offsets_of b v)) (sym n)
      ∙ ranks_are b v c s

  pub falls_other : Below 256 b → 0 < v.words → (falls (offsets_of b v) ≡ v.firsts - 1 → ⊥) → false ≡ parts_right (kind v) b v
  falls_other s h n = rw (ne_eqb (falls (offsets_of b v)) (v.firsts - 1) n) at (parts-ends s h)

  pub falls-same : Below 256 b → 0 < v.words → falls (offsets_of b v) ≡ v.firsts - 1 → ends_of b v ≡ parts_right (kind v) b v
  falls-same s h e = rw (eq-eqb (falls (offsets_of b v)) (v.firsts - 1) e) at (parts-ends s h)

  pub turn_start : 0 < v.words → Before b v (field 4 v.start b) 0
  turn_start h =
      let f = firsts-some h in
      let t = k.there in
      let p = k.second-place in
      let e : v.second + entry_size v.width * v.step * 0 ≡ v.second = rw (mul-zero (entry_size v.width * v.step), add-zero v.second) in
      let d : v.words - v.step * 0 ≡ v.words = rw (mul-zero v.step) (sub-zero v.words) in
      let m : v.firsts - 1 - 0 ≡ v.firsts - 1 = omega arith in
      rw (e, d, m)
      (record {
        bases = omega arith;
        ranks = t;
        count = rw (← k.bases) (omega arith);
        rest = unfold ends_of in refl;
      })

  module _ {base place at left more : ℕ} (t : Turn b v base place at left more) where
    pub some_left : 1 ≤ left
    some_left = count_left v.step left more k.rule.step-least t.count

    pub turn_end : more ≤ 0 → group_ends base v.cells (numbers_of (entry_size v.width) left (drop at b)) ≡ ends_of b v
    unfolding ends_right
    turn_end h = rw (numbers-end 4 more (drop place b) h) at t.rest

    module _ (next : ℕ) (h : 0 < more) (e : next ≡ field 4 place b) where
      pub whole_group : v.step < left
      whole_group = (count_next v.step left more k.rule.step-least h t.count).0

      pub group_there : at + entry_size v.width * v.step ≤ length b
      group_there =
          let g = whole_group in
          let w = entry_size v.width in
          let m : w * v.step ≤ w * left = mul-le-mul_left w (omega arith) in
          let r = t.ranks in
          omega arith

      parted : both (group_ends base next (numbers_of (entry_size v.width) v.step (drop at b)))
          (ends_right v.step v.cells next (numbers_of 4 (more - 1) (drop (place + 4) b))
          (numbers_of (entry_size v.width) (left - v.step) (drop (at + entry_size v.width * v.step) b)))
          ≡ ends_of b v
      unfolding ends_right
      parted =
          let g = whole_group in
          let z : v.step ≤ left = omega arith in
          rw (
            numbers_turn 4 more place b h,
            ← e,
            take-numbers (entry_size v.width) left v.step (drop at b) z,
            drop-numbers (entry_size v.width) left v.step at b z,
          )
          at t.rest

      pub turn_bad : group_ends base next (numbers_of (entry_size v.width) v.step (drop at b)) ≡ false → false ≡ ends_of b v
      turn_bad f = rw f at parted

      pub turn_next : group_ends base next (numbers_of (entry_size v.width) v.step (drop at b)) ≡ true
          → Turn b v next (place + 4) (at + entry_size v.width * v.step) (left - v.step) (more - 1)
      turn_next f =
          let g = whole_group in
          let d = entry_size v.width in
          let m : d * v.step ≤ d * left = mul-le-mul_left d (omega arith) in
          let s : d * (left - v.step) ≡ d * left - d * v.step = mul-sub d left v.step in
          let u = t.bases in
          let r = t.ranks in
          record {
            bases = omega arith;
            ranks = omega arith;
            count = (count_next v.step left more k.rule.step-least h t.count).1;
            rest = rw f at parted;
          }

  -- the next index
  pub turn_on : {base i : ℕ} → Before b v base i → (next : ℕ) → i < v.firsts - 1 → next ≡ field 4 (v.start + 4 * (i + 1)) b
      → group_ends base next (numbers_of (entry_size v.width) v.step (drop (v.second + entry_size v.width * v.step * i) b)) ≡ true
      → Before b v next (i + 1)
  turn_on {base} {i} t next h e f =
      let d = entry_size v.width * v.step in
      let p : v.start + 4 * (i + 1 + 1) ≡ v.start + 4 * (i + 1) + 4 = omega arith in
      let q : v.second + d * (i + 1) ≡ v.second + d * i + d = omega (arith, ap (λ (x : ℕ). d * x) (add-one i), mul-suc d i) in
      let r : v.words - v.step * (i + 1) ≡ v.words - v.step * i - v.step = omega (arith, ap (λ (x : ℕ). v.step * x) (add-one i), mul-suc v.step i) in
      let s : v.firsts - 1 - (i + 1) ≡ v.firsts - 1 - i - 1 = omega arith in
      rw (p, q, r, s) (turn_next t next (omega arith) e f)
