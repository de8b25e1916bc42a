-- The pieces of a pass: one rank, one piece after the other, two ranks and a group without a jump. Assumes nothing.
use Prim.Native.Nat.{ℕ, zero, suc, ◌+◌, ◌-◌, ◌*◌, ◌^◌, ◌≤◌, ◌<◌}
use mathlib.Core.Path.{◌≡◌, refl, ◌∙◌}
use mathlib.Core.Bool.{true, not}
use mathlib.Core.List.{List}
use native.Mathlib.Nat.{add-zero, add_assoc, mul-le-mul_left, pos_of_ne-zero, le_refl, zero-lt-suc}
use native.Mathlib.Omega.{arith}
use lib.Dec.{eqb}
use borrow.Author.Tests.{eqb-false, not-true}
use Rattle.format.specs.declared.View.{View}
use Rattle.format.specs.Bytes.{field}
use Rattle.parts.specs.Encoder.{if_zero}
use Rattle.laws.proofs.Tools.{both_true}
use Rattle.differences.specs.Walk.{Laid, plain, total, Room}
use Rattle.differences.proofs.Sums.{entry_inside}
use Rattle.jump_pass.specs.declared.check.Passed.{Passed}
use Rattle.jump_pass.specs.Pass.{Readable, Goes, Stops, both_near, passes_on}
use Rattle.jump_pass.proofs.Turns.{none, reach_most, turn_difference, turn_none, turn_near, turn_jump}
use Rattle.jump_pass.proofs.Below.{below-difference, below_jump, below_plain}

module _ (w second : ℕ) (b : List ℕ) (r : ℕ) where
  -- a pass over differences without a jump adds their sum
  pub plain_passes : (words bound least left n : ℕ) → plain w second b r n ≡ true → r + n < words
      → passes_on w second words bound b least left (r + 1) ≡ passes_on w second words bound b (least + total w second b r n) left (r + n + 1)
  unfolding plain total
  plain_passes words bound least left zero h k = rw (add-zero least, add-zero r)
  plain_passes words bound least left (suc n) h k =
      let d = field w (second + w * (r + suc n)) b in
      let z = both_true (not (eqb d 0)) (plain w second b r n) h in
      let q : r + n + 1 ≡ r + suc n = omega arith in
      let t = turn_difference w second words bound b (least + total w second b r n) left (r + suc n) k refl
      (pos_of_ne-zero (eqb-false d 0 (not-true (eqb d 0) z.0))) in
      plain_passes words bound least left n z.1 (omega arith) ∙ rw (q, ← add_assoc) t

-- ---- over one rank

module _ {w second : ℕ} {b : List ℕ} {k : ℕ} {s : Passed} (z : Readable w second b k (k + 1) s) {d : ℕ} (e : d ≡ field w (second + w * k) b) where
  pub goes_difference : (d ≡ 0 → ⊥) → d < 65536 → Goes w second b k (k + 1) s (record { least = s.least + d; left = s.left })
  goes_difference h m =
      let p = pos_of_ne-zero h in
      let n = z.least in
      let j = below-difference w second b k e p in
      record {
        left = le_refl _;
        least = omega arith;
        same = λ words bound g. turn_difference w second words bound b s.least s.left k (omega arith) e p;
        jumps = omega arith;
      }

  module _ (f : d ≡ 0) where
    -- no jump is left
    pub stops_none : s.left ≡ 0 → Stops w second b k (k + 1) s
    stops_none h = record { wrong = λ words bound g. turn_none w second words bound b s.least s.left k (omega arith) e f (none h) }

    module _ (some : s.left ≡ 0 → ⊥) {j : ℕ} (q : j ≡ field 4 (second - 4 * s.left) b) where
      -- a jump that a difference would reach
      pub stops_near : j < s.least → Stops w second b k (k + 1) s
      stops_near h = record { wrong = λ words bound g. turn_near w second words bound b s.least s.left k (omega arith) e f (pos_of_ne-zero some) z.jumps q h }

      pub goes_jump : {reach : ℕ} → reach ≡ 256 ^ w → j < 2 ^ 32 → s.least ≤ j → Goes w second b k (k + 1) s (record { least = j + reach; left = s.left - 1 })
      goes_jump r m h =
          let p = pos_of_ne-zero some in
          let n = reach_most r z.wide in
          let i = below_jump w second b k e f in
          record {
            left = omega arith;
            least = omega arith;
            same = λ words bound g. turn_jump w second words bound b s.least s.left k (omega arith) e f p z.jumps q r h;
            jumps = omega arith;
          }

-- ---- piece after piece

module _ {w second : ℕ} {b : List ℕ} {i k end : ℕ} {s t : Passed} (g : Goes w second b i k s t) (h : k ≤ end) where
  -- what is right so far goes on
  pub goes_on : {u : Passed} → Goes w second b k end t u → Goes w second b i end s u
  goes_on f =
      let m = g.left in
      let n = f.left in
      record {
        left = omega arith;
        least = f.least;
        same = λ words bound j. g.same words bound (omega arith) ∙ f.same words bound j;
        jumps = f.jumps ∙ g.jumps;
      }

  -- or goes wrong
  pub stops_later : Stops w second b k end t → Stops w second b i end s
  stops_later f = record { wrong = λ words bound j. g.same words bound (omega arith) ∙ f.wrong words bound j }

-- what is wrong is wrong for all ranks that follow
pub goes_wrong : {w second : ℕ} {b : List ℕ} {i k end : ℕ} {s : Passed} → Stops w second b i k s → k ≤ end → Stops w second b i end s
goes_wrong f h = record { wrong = λ words bound j. f.wrong words bound (omega arith) }

module _ (w second : ℕ) (b : List ℕ) (i : ℕ) (s : Passed) where
  -- over no rank
  pub goes_nowhere : s.least ≤ 4295032832 + 65536 * i → Goes w second b i i s s
  goes_nowhere h = record { left = le_refl _; least = h; same = λ words bound j. refl; jumps = refl }

  -- over two ranks, by the sum of their differences
  pub goes_two : {x : ℕ} → x ≡ both_near w second b i → 0 < x → x < 131072 → s.least ≤ 4295032832 + 65536 * i
      → Goes w second b i (i + 2) s (record { least = s.least + x; left = s.left })
  unfolding both_near
  goes_two e h k m = near (field w (second + w * i) b) refl (field w (second + w * (i + 1)) b) refl e h k m
    where
      near : (d : ℕ) → d ≡ field w (second + w * i) b → (f : ℕ) → f ≡ field w (second + w * (i + 1)) b → {x : ℕ} → x ≡ if_zero d 0 (if_zero f 0 (d + f)) → 0 < x → x < 131072
          → s.least ≤ 4295032832 + 65536 * i → Goes w second b i (i + 2) s (record { least = s.least + x; left = s.left })
      near zero _ f _ e h k m = absurd (omega arith)
      near (suc d) _ zero _ e h k m = absurd (omega arith)
      near (suc d) p (suc f) q e h k m =
          let r : i + 1 + 1 ≡ i + 2 = omega arith in
          let z : s.least + suc d + suc f ≡ s.least + (suc d + suc f) = omega arith in
          let m1 = below-difference w second b i p (zero-lt-suc d) in
          let m2 = rw r at (below-difference w second b (i + 1) q (zero-lt-suc f)) in
          record {
            left = le_refl _;
            least = omega arith;
            same = λ words bound j.
                rw e
                (turn_difference w second words bound b s.least s.left i (omega arith) p (zero-lt-suc d)
                ∙ rw (r, z) at (turn_difference w second words bound b (s.least + suc d) s.left (i + 1) (omega arith) q (zero-lt-suc f)));
            jumps = omega arith;
          }

-- ---- the groups of a pass

-- of the ranks of a view
pub readable : (b : List ℕ) (v : View) {w : ℕ} → Laid b v → w ≡ v.width → (i end : ℕ) (s : Passed) → i ≤ end → end ≤ v.words → 4 * s.left ≤ v.second
    → s.least ≤ 4295032832 + 65536 * i → Readable w v.second b i end s
readable b v z e i end s h k j m =
    let n : v.width * end ≤ v.width * v.words = mul-le-mul_left v.width k in
    rw e (record { narrow = z.narrow; wide = z.wide; ranks = omega arith; onward = h; inside = omega arith; jumps = j; least = m })

-- a part of the ranks, from what is reached before it
pub readable_part : {w second : ℕ} {b : List ℕ} {i end : ℕ} {s : Passed} → Readable w second b i end s → {k last : ℕ} {t : Passed} → k ≤ last → last ≤ end
    → t.left ≤ s.left → t.least ≤ 4295032832 + 65536 * k → Readable w second b k last t
readable_part {w} {end = end} z {last = last} h m l r =
    let n : w * last ≤ w * end = mul-le-mul_left w m in
    let j = z.jumps in
    let o = z.ranks in
    let p = z.inside in
    record { narrow = z.narrow; wide = z.wide; ranks = omega arith; onward = h; inside = omega arith; jumps = omega arith; least = r }

module _ (w second : ℕ) (b : List ℕ) (i end : ℕ) (s : Passed) (z : Readable w second b i end s) (some : 0 < i) (size : end - i ≡ 128) where
  -- 128 ranks after rank 0
  pub group_room : Room w second b (i - 1 + 128)
  group_room =
      let h : i - 1 + 128 < end = omega arith in
      let m = entry_inside w end (i - 1 + 128) h in
      let n = z.inside in
      let k = z.ranks in
      record { narrow = z.narrow; wide = z.wide; inside = omega arith; rank = omega arith }

  pub group_goes : plain w second b (i - 1) 128 ≡ true → {x : ℕ} → x ≡ total w second b (i - 1) 128 → x ≤ 65536 * 128
      → Goes w second b i end s (record { least = s.least + x; left = s.left })
  group_goes p e m =
      let first : i - 1 + 1 ≡ i = omega arith in
      let last : i - 1 + 128 + 1 ≡ end = omega arith in
      let from : suc (i - 1) ≡ i = omega arith in
      let to : suc (i - 1) + 128 ≡ end = omega arith in
      let j = rw (to, from) at (below_plain w second b (i - 1) 128 p) in
      let n = z.least in
      record {
        left = le_refl _;
        least = omega arith;
        same = λ words bound h. rw e (rw (first, last) at (plain_passes w second b (i - 1) words bound s.least s.left 128 p (omega arith)));
        jumps = omega arith;
      }
