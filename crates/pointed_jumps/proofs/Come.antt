-- How far the check has come after some pointers, and what is then right or refused. Assumes nothing.
use Prim.Native.Nat.{ℕ, ◌+◌, ◌*◌, ◌^◌, ◌≤◌, ◌<◌}
use mathlib.Core.Path.{◌≡◌, refl, sym, ◌∙◌}
use mathlib.Core.Bool.{Bool, false}
use mathlib.Core.List.{List}
use native.Mathlib.Nat.{le_refl, add-zero, pos_of_ne-zero}
use native.Mathlib.Numerals.{add-one}
use native.Mathlib.Omega.{arith}
use lib.Dec.{leb, ltb}
use borrow.Author.Tests.{leb-true, leb-false}
use Rattle.format.specs.declared.View.{View}
use Rattle.format.specs.Tools.{both, up_to}
use Rattle.format.specs.Bytes.{field}
use Rattle.laws.proofs.Tools.{cases, both_one}
use Rattle.differences.specs.Walk.{Laid}
use Rattle.jump_pass.specs.declared.check.Passed.{Passed}
use Rattle.jump_pass.specs.Pass.{Goes, Stops, passes_from, passes_on, jumps_below}
use Rattle.jump_pass.proofs.Turns.{none, over, over_jump, passes-whole}
use Rattle.jump_pass.proofs.Groups.{goes_nowhere, goes_on, stops_later}
use Rattle.pointed_jumps.specs.Pointed.{pointed_right}
use Rattle.pointed_jumps.proofs.Pointed.{Points, pointer, last, points, points_on, pointed-right}

-- all jumps are left
abbrev pub begin : View → Passed
begin v = record { least = 0; left = v.firsts }

-- after k pointers, at the rank that the last of them names
pub record Come (b : List ℕ) (v : View) (k r : ℕ) (s : Passed) : Type 0 where
  pub count : k ≤ up_to v.firsts v.step
  pub rank : r ≤ v.words
  pub named : r ≡ last b v k
  pub goes : Goes v.width v.second b 0 r (begin v) s
  pub each : (i : ℕ) → i < k → Points b v i (pointer b v i)

module _ (b : List ℕ) (v : View) where
  pub come_none : Come b v 0 0 (begin v)
  come_none =
      record {
        count = omega arith;
        rank = omega arith;
        named = refl;
        goes = goes_nowhere v.width v.second b 0 (begin v) (omega arith);
        each = λ i h. absurd (omega arith);
      }

  -- what the check answers
  abbrev pub answer : Bool
  answer = both (passes_from v b 0 0 0) (pointed_right b v)

  module _ {k rank : ℕ} {s : Passed} (z : Laid b v) (n : 1 ≤ v.step) (c : Come b v k rank s) where
    -- what is left from a rank further on
    passes-there : {end : ℕ} {t : Passed} → rank ≤ end → end ≤ v.words → Goes v.width v.second b rank end s t
        → passes_from v b 0 0 0 ≡ passes_on v.width v.second v.words v.cells b t.least t.left end
    passes-there h m g = passes-whole v b z.place ∙ (goes_on c.goes h g).same v.words v.cells m

    -- as many jumps lie before it as the pass took
    counted : {end : ℕ} {t : Passed} → rank ≤ end → Goes v.width v.second b rank end s t → t.left + jumps_below v.width v.second b end ≡ v.firsts
    counted h g = unfold jumps_below in ((goes_on c.goes h g).jumps ∙ add-zero v.firsts)

    -- the pass goes wrong
    pub wrong_pass : {end : ℕ} → rank ≤ end → end ≤ v.words → Stops v.width v.second b rank end s → false ≡ answer
    wrong_pass h m g =
        let p = passes-whole v b z.place ∙ (stops_later c.goes h g).wrong v.words v.cells m in
        rw p

    -- ---- the next pointer

    module _ (h : k < up_to v.firsts v.step) {next : ℕ} (e : next ≡ pointer b v k) where
      -- it is not right
      pub wrong_pointer : (rank ≤ next → Points b v k next → ⊥) → false ≡ answer
      wrong_pointer w =
          cases (passes_from v b 0 0 0)
          (λ p.
          cases (pointed_right b v)
          (λ q. absurd (w (rw (e, c.named) (points_on b v n p q k h)) (rw e (points b v n p q k h))))
          (λ q. sym (rw (p, q))))
          (λ p. rw p)

      module _ (m : rank ≤ next) (r : next < v.words) {t : Passed} (g : Goes v.width v.second b rank next s t) where
        pub wrong_count : (t.left + k * v.step ≡ v.firsts → ⊥) → false ≡ answer
        wrong_count w = wrong_pointer (λ l p. let x = counted m g in let y = p.count in w (omega arith))

        pub come_on : t.left + k * v.step ≡ v.firsts → field v.width (v.second + v.width * next) b ≡ 0 → Come b v (k + 1) next t
        come_on d f =
            let x = counted m g in
            let y = c.count in
            record {
              count = omega arith;
              rank = omega arith;
              named = rw (add-one k) e;
              goes = goes_on c.goes m g;
              each = λ i l.
                  cases (leb k i)
                  (λ u.
                  let a = leb-true k i u in
                  let q : i ≡ k = omega arith in
                  rw (q, ← e) (record { rank = r; jump = f; count = omega arith }))
                  (λ u. c.each i (leb-false k i u));
            }

    -- ---- after all pointers

    module _ (h : up_to v.firsts v.step ≤ k) {t : Passed} (g : Goes v.width v.second b rank v.words s t) where
      there : passes_from v b 0 0 0 ≡ passes_on v.width v.second v.words v.cells b t.least t.left v.words
      there = passes-there c.rank (le_refl _) g

      -- a jump is left over
      pub wrong_end : (t.left ≡ 0 → ⊥) → false ≡ answer
      wrong_end w =
          let p = z.place in
          let l = (goes_on c.goes c.rank g).left in
          let x = there ∙ over_jump _ _ _ _ _ _ _ _ (le_refl _) (pos_of_ne-zero w) (omega arith) in
          rw x

      pub come_end : t.left ≡ 0 → {reach : ℕ} → reach ≡ 256 ^ v.width → ltb t.least (v.cells + reach) ≡ answer
      come_end l q =
          let x = there ∙ over _ _ _ _ _ _ _ _ q (le_refl _) (none l) in
          let y = counted c.rank g in
          let a = pointed-right b v n (λ i j. c.each i (omega arith)) (omega arith) in
          rw (x, a) (sym (both_one _))
