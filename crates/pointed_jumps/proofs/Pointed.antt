-- The pointers of a file, by a view: what each counts where the check passes, and that nothing more is asked of them. Assumes nothing.
use Prim.Native.Nat.{ℕ, zero, suc, ◌+◌, ◌*◌, ◌≤◌, ◌<◌}
use mathlib.Core.Path.{◌≡◌, refl, sym, ap, ap₂, ◌∙◌}
use mathlib.Core.Bool.{true}
use mathlib.Core.List.{List}
use native.Mathlib.Nat.{suc-mul}
use native.Mathlib.Omega.{arith}
use lib.ListN.{length, get_or}
use lib.Seq.{ext_get_or}
use Rattle.format.specs.declared.View.{View}
use Rattle.format.specs.Tools.{up_to}
use Rattle.format.specs.Bytes.{field}
use Rattle.format.specs.PointedJumps.{jump_ranks_from, pointers}
use Rattle.laws.proofs.Tools.{same_eq, same_true}
use Rattle.laws.proofs.Numbers.{numbers-at}
use Rattle.laws.proofs.Bounds.{index_inside}
use Rattle.laws.proofs.Check.{length-numbers_of}
use Rattle.laws.proofs.Pointers.{zeros_below, jump_rank_is, jump_rank_of, jump_ranks-rise, pointer_at, length-pointers}
use Rattle.parts.specs.Encoder.{if_zero}
use Rattle.jump_pass.specs.Pass.{jumps_left, differences_left, passes_from, jumps_below}
use Rattle.jump_pass.proofs.Turns.{entries-all}
use Rattle.pointed_jumps.specs.Pointed.{pointers_said, pointed_right}
use Rattle.pointed_jumps.proofs.Zeros.{get_or_inside, zeros_more, zeros-all, passes-take}

-- the rank r is that of jump k n
pub record Points (b : List ℕ) (v : View) (k r : ℕ) : Type 0 where
  pub rank : r < v.words
  pub jump : field v.width (v.second + v.width * r) b ≡ 0
  pub count : jumps_below v.width v.second b r ≡ k * v.step

-- pointer k, and the last of k pointers
abbrev pub pointer : List ℕ → View → ℕ → ℕ
pointer b v k = field 4 (v.second + v.width * v.words + 4 * k) b

abbrev pub last : List ℕ → View → ℕ → ℕ
last b v zero = 0
last b v (suc k) = pointer b v k

module _ (b : List ℕ) (v : View) where
  abbrev ds : List ℕ
  ds = differences_left v 0 b

  abbrev ranks : List ℕ
  ranks = jump_ranks_from 0 ds

  -- ---- the differences, and the jumps below a rank

  pub length-left : length ds ≡ v.words
  unfolding differences_left
  length-left = ap length (entries-all v.width v.second v.words b) ∙ length-numbers_of v.width v.words _

  difference-at : (i : ℕ) → i < v.words → get_or ds i 1 ≡ field v.width (v.second + v.width * i) b
  difference-at i h =
      get_or_inside ds i (rw length-left h)
      ∙ unfold differences_left in rw (entries-all v.width v.second v.words b) (numbers-at v.width v.words v.second i b h)

  below_is : (i : ℕ) → i ≤ v.words → jumps_below v.width v.second b i ≡ zeros_below i ds
  unfolding jumps_below
  below_is zero h = unfold zeros_below in refl
  below_is (suc i) h =
      ap₂ (λ x d. x + if_zero d 1 0) (below_is i (omega arith)) (sym (difference-at i h)) ∙ sym (zeros_more i ds (rw length-left h))

  -- ---- pointers that stand for jumps

  length-said : length (pointers_said b v) ≡ up_to v.firsts v.step
  unfolding pointers_said
  length-said = length-numbers_of 4 (up_to v.firsts v.step) _

  said_at : (k : ℕ) → k < up_to v.firsts v.step → get_or (pointers_said b v) k 0 ≡ pointer b v k
  unfolding pointers_said
  said_at k h = numbers-at 4 (up_to v.firsts v.step) (v.second + v.width * v.words) k b h

  module _ (n : 1 ≤ v.step) where
    -- both tests pass
    module _ (p : passes_from v b 0 0 0 ≡ true) (q : pointed_right b v ≡ true) where
      taken : length ranks ≡ v.firsts
      unfolding passes_from jumps_left
      taken =
          passes-take v.width v.cells 0 0 _ ds p
          ∙ ap length (entries-all 4 v.start v.firsts b) ∙ length-numbers_of 4 v.firsts _

      module _ (k : ℕ) (h : k < up_to v.firsts v.step) where
        inside : k * v.step < length ranks
        inside = rw taken (index_inside v.step v.firsts k n h)

        rank_of : pointer b v k ≡ get_or ranks (k * v.step) 0
        unfolding pointed_right
        rank_of =
            sym (said_at k h) ∙ ap (λ (xs : List ℕ). get_or xs k 0) (sym (same_true (pointers v.step ds) (pointers_said b v) q))
            ∙ pointer_at v.step k ds n inside

        pub points : Points b v k (pointer b v k)
        points =
            let i = jump_rank_is ds (k * v.step) inside in
            let r : get_or ranks (k * v.step) 0 < v.words = rw length-left at i.0 in
            rw rank_of (record {
              rank = r;
              jump = sym (difference-at _ r) ∙ i.1;
              count = below_is _ (omega arith) ∙ i.2;
            })

      pub points_on : (k : ℕ) → k < up_to v.firsts v.step → last b v k ≤ pointer b v k
      points_on zero h = omega arith
      points_on (suc k) h =
          let i : k < up_to v.firsts v.step = omega arith in
          let m : k * v.step < suc k * v.step = rw suc-mul (omega arith) in
          let g = jump_ranks-rise ds (k * v.step) (suc k * v.step) m (inside (suc k) h) in
          rw (rank_of k i, rank_of (suc k) h) (omega arith)

    -- each pointer is right, and there is a jump for each difference 0
    module _ (each : (k : ℕ) → k < up_to v.firsts v.step → Points b v k (pointer b v k)) (all : jumps_below v.width v.second b v.words ≡ v.firsts) where
      used : length ranks ≡ v.firsts
      used =
          sym (zeros-all 0 ds) ∙ ap (λ (i : ℕ). zeros_below i ds) length-left ∙ sym (below_is v.words (omega arith)) ∙ all

      alike : (k : ℕ) → k < length (pointers v.step ds) → get_or (pointers v.step ds) k 0 ≡ get_or (pointers_said b v) k 0
      alike k h =
          let i : k < up_to v.firsts v.step = rw (length-pointers v.step ds, used) at h in
          let g = each k i in
          let r = g.rank in
          let o = jump_rank_of ds (pointer b v k) (rw length-left g.rank) (difference-at _ g.rank ∙ g.jump) in
          let e : zeros_below (pointer b v k) ds ≡ k * v.step = sym (below_is _ (omega arith)) ∙ g.count in
          pointer_at v.step k ds n (rw used (index_inside v.step v.firsts k n i)) ∙ (rw e at o.1) ∙ sym (said_at k i)

      pub pointed-right : pointed_right b v ≡ true
      unfolding pointed_right
      pointed-right =
          same_eq _ _
          (ext_get_or 0 (pointers v.step ds) (pointers_said b v)
          (length-pointers v.step ds ∙ ap (λ (x : ℕ). up_to x v.step) used ∙ sym length-said) alike)
