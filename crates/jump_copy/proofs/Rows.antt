-- A cursor of held positions: the jumps and differences of the positions ahead of it stand in the file. Assumes nothing.
use Prim.Native.Nat.{ℕ, zero, suc, ◌+◌, ◌-◌, ◌^◌, ◌≤◌, ◌<◌}
use mathlib.Core.Path.{◌≡◌, refl, sym, ap, ap₂, ◌∙◌}
use mathlib.Core.List.{List, [], ◌∷◌}
use native.Mathlib.Nat.{add-zero, zero-add}
use native.Mathlib.Omega.{arith}
use lib.ListN.{length, get_or, take, drop, length-drop}
use lib.Seq.{drop-cons}
use lib.Dec.{eqb}
use borrow.Author.Tests.{eqb-true, eqb-false}
use Rattle.format.specs.declared.View.{View}
use Rattle.format.specs.Jumps.{difference, differences_from, differences, jumps_of}
use Rattle.laws.proofs.Tools.{cases}
use Rattle.laws.proofs.Bounds.{below_get_or, length-differences_from}
use Rattle.laws.proofs.Entries.{fitting}
use Rattle.wire.specs.Wire.{add32}
use Rattle.wire.proofs.Laws.{entry_of_lem}
use Rattle.parts.specs.declared.Cursor.{Cursor}
use Rattle.parts.specs.Cursor.{before, moved_to, entry_of, walked_as, stepped_as}
use Rattle.parts.specs.Encoder.{if_zero}
use Rattle.parts.proofs.Entries.{Entries, first_entry, rest_entries}
use Rattle.parts.proofs.Steps.{add32-small, upper, upper_next}
use Rattle.parts.proofs.Taking.{if_zero_lem, if_more}
use Rattle.difference_rows.specs.Steps.{jump_from, jump_by}
use Rattle.difference_rows.proofs.Follows.{stepped-last}
use Rattle.jump_walk.specs.Held.{Held}
use Rattle.jump_walk.specs.Steps.{next}
use Rattle.jump_walk.proofs.Walks.{AheadOf, next-rank, turn, before-all}
use Rattle.jump_copy.proofs.Fronts.{jumps_from, length_jump, entries-same}

-- ---- before rank 0

-- before rank 0 stands a number that no position reaches
first-differences : (w p : ℕ) (ls : List ℕ) → get_or ls 0 0 ≤ p → differences w ls ≡ differences_from w p ls
unfolding differences differences_from
first-differences w p [] h = refl
first-differences w p (l ∷ ls) h =
    let z : l - p ≡ 0 = omega arith in
    ap (λ (d : ℕ). d ∷ differences_from w l ls) (sym (fitting w p l (omega arith) ∙ z))

-- ---- what stands ahead of a cursor, by the definition

-- the positions ls stand ahead of c, with their own differences
pub record Exact (b : List ℕ) (v : View) (c : Cursor) (ls : List ℕ) : Type 0 where
  pub ahead : AheadOf b v c ls
  pub differences : Entries b v.width v.second (upper c) (differences_from v.width c.at ls)

module _ (b : List ℕ) (v : View) where
  -- and with their own jumps
  pub exact_jumps : (c : Cursor) (ls : List ℕ) → Exact b v c ls → Entries b 4 v.start c.next (jumps_from v.width c.at ls)
  exact_jumps c ls x =
      let a = x.ahead.ahead in
      let n = a.same in
      let m = length-differences_from v.width c.at ls in
      let e = entries-same b v.width v.second (upper c) a.ds a.differences (differences_from v.width c.at ls) x.differences (omega arith) in
      rw e at a.jumps

  -- by a step: to the next position, with a jump more where its difference is 0
  module _ (narrow : 1 ≤ v.width) (wide : v.width ≤ 2) (c : Cursor) (p : ℕ) (ls : List ℕ) (x : Exact b v c (p ∷ ls)) where
    abbrev w : ℕ
    w = v.width

    abbrev d : ℕ
    d = difference w c.at p

    row : Entries b w v.second (upper c) (d ∷ differences_from w p ls)
    unfolding differences_from
    row = x.differences

    exact_at : (next b v c).at ≡ p
    exact_at = (turn b v narrow wide c p ls x.ahead).0

    exact_upper : upper (next b v c) ≡ suc (upper c)
    exact_upper = rw (next-rank b v c) (upper_next c p ls x.ahead.ranks)

    exact_turn : Exact b v (next b v c) ls
    exact_turn =
        record {
          ahead = (turn b v narrow wide c p ls x.ahead).1;
          differences = rw (exact_at, exact_upper) (rest_entries b w v.second (upper c) d (differences_from w p ls) row);
        }

    exact_entry : entry_of b v (upper c) ≡ d
    unfolding entry_of
    exact_entry = rw (entry_of_lem w narrow wide) (first_entry b w v.second (upper c) d (differences_from w p ls) row)

    exact_next : (next b v c).next ≡ c.next + if_zero d 1 0
    unfolding next jump_by jump_from moved_to
    exact_next =
        let l = x.ahead.low in
        let n = x.ahead.ranks in
        cases (eqb d 0)
        (λ e. rw (exact_entry, e, if_zero_lem {X = ℕ} d 1 0 (eqb-true d 0 e)) (add32-small c.next 1 (omega arith)))
        (λ e. rw (exact_entry, e, if_more {X = ℕ} d 1 0 (eqb-false d 0 e)) (sym (add-zero c.next)))

-- the cursor c stands at rank r of the positions ls
pub record Stands (b : List ℕ) (v : View) (ls : List ℕ) (r : ℕ) (c : Cursor) : Type 0 where
  pub rank : c.rank ≡ r
  pub upper : upper c ≡ suc r
  pub at : c.at ≡ get_or ls r 0
  pub exact : Exact b v c (drop (suc r) ls)

-- ---- along the steps

-- what each step keeps of a cursor and the positions ahead of it
module _ (f : Cursor → Cursor) (R : Cursor → List ℕ → Type 0) (kept : (c : Cursor) (p : ℕ) (ls : List ℕ) → R c (p ∷ ls) → R (f c) ls) where
  kept-steps : (k : ℕ) (c : Cursor) (ls : List ℕ) → k ≤ length ls → R c ls → R (stepped_as f c k) (drop k ls)
  unfolding stepped_as
  kept-steps zero c ls n r = r
  kept-steps (suc k) c [] n r = absurd (omega arith)
  kept-steps (suc k) c (p ∷ ls) n r = kept-steps k (f c) ls (omega arith) (kept c p ls r)

module _ (b : List ℕ) (v : View) (ls : List ℕ) (h : Held b v ls) where
  turns : (c : Cursor) (p : ℕ) (xs : List ℕ) → Exact b v c (p ∷ xs) → Exact b v (next b v c) xs
  turns = exact_turn b v h.laid.narrow h.laid.wide

  start_exact : Exact b v before ls
  unfolding add32
  start_exact =
      let o : get_or ls 0 0 < 2 ^ 32 = below_get_or (2 ^ 32) ls 0 (omega arith) (before-all b v ls h).below in
      let e = first-differences v.width 4294967295 ls (omega arith) in
      record { ahead = before-all b v ls h; differences = rw e at h.differences }

  -- with as many ranks ahead as are left of all
  abbrev Ranked : Cursor → List ℕ → Type 0
  Ranked c xs = Exact b v c xs × (upper c + length xs ≡ length ls)

  start_ranked : Ranked before ls
  unfolding add32
  start_ranked = (start_exact, zero-add (length ls))

  turn_ranked : (c : Cursor) (p : ℕ) (xs : List ℕ) → Ranked c (p ∷ xs) → Ranked (next b v c) xs
  turn_ranked c p xs r =
      let u = exact_upper b v h.laid.narrow h.laid.wide c p xs r.0 in
      let n = r.1 in
      (turns c p xs r.0, omega arith)

  ranked : (k : ℕ) → k ≤ length ls → Ranked (stepped_as (next b v) before k) (drop k ls)
  ranked k n = kept-steps (next b v) Ranked turn_ranked k before ls n start_ranked

  pub stands : (r : ℕ) → r < length ls → Stands b v ls r (stepped_as (next b v) before (suc r))
  stands r n =
      let c = stepped_as (next b v) before r in
      let y = ranked r (omega arith) in
      let m = length-drop r ls in
      let q = y.1 in
      let x = rw (drop-cons ls r 0 n) at y.0 in
      let k : (next b v c).rank ≡ r = next-rank b v c ∙ omega arith in
      rw (stepped-last (next b v) before r)
      (record {
        rank = k;
        upper = exact_upper b v h.laid.narrow h.laid.wide c (get_or ls r 0) (drop (suc r) ls) x ∙ omega arith;
        at = exact_at b v h.laid.narrow h.laid.wide c (get_or ls r 0) (drop (suc r) ls) x;
        exact = turns c (get_or ls r 0) (drop (suc r) ls) x;
      })

  -- ---- n ranks on

  walked_later : (n : ℕ) (c : Cursor) (xs : List ℕ) → n ≤ length xs → Exact b v c xs → walked_as (next b v) (next b v c) n ≡ take n xs
  unfolding walked_as
  walked_later zero c xs k x = refl
  walked_later (suc n) c [] k x = absurd (omega arith)
  walked_later (suc n) c (p ∷ xs) k x =
      ap₂ (λ (q : ℕ) (qs : List ℕ). q ∷ qs) (exact_at b v h.laid.narrow h.laid.wide c p xs x) (walked_later n (next b v c) xs (omega arith) (turns c p xs x))

  -- the positions, from the cursor's own on
  pub walked_exact : (n : ℕ) (c : Cursor) (xs : List ℕ) → n ≤ length xs → Exact b v c xs → walked_as (next b v) c (suc n) ≡ c.at ∷ take n xs
  unfolding walked_as
  walked_exact n c xs k x = ap (λ (qs : List ℕ). c.at ∷ qs) (walked_later n c xs k x)

  -- and the jumps among them behind the first
  pub jumps_exact : (n : ℕ) (c : Cursor) (xs : List ℕ) → n ≤ length xs → Exact b v c xs
      → (stepped_as (next b v) c n).next ≡ c.next + length (jumps_from v.width c.at (take n xs))
  unfolding stepped_as differences_from
  jumps_exact zero c xs k x = unfold jumps_of in sym (add-zero c.next)
  jumps_exact (suc n) c [] k x = absurd (omega arith)
  jumps_exact (suc n) c (p ∷ xs) k x =
      let e = exact_at b v h.laid.narrow h.laid.wide c p xs x in
      let j = exact_next b v h.laid.narrow h.laid.wide c p xs x in
      let ds = differences_from v.width p (take n xs) in
      let m = length_jump (difference v.width c.at p) p ds (take n xs) in
      let s : (next b v c).next + length (jumps_from v.width p (take n xs)) ≡ c.next + length (jumps_of (difference v.width c.at p ∷ ds) (p ∷ take n xs)) = omega arith in
      jumps_exact n (next b v c) xs (omega arith) (turns c p xs x)
      ∙ ap (λ (q : ℕ). (next b v c).next + length (jumps_from v.width q (take n xs))) e
      ∙ s
