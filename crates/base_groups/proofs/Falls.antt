-- The groups rise where each has its ends right and the offsets fall from group to group alone. Assumes nothing.
use Rattle.std.proofs.Common.{◌≡◌, ℕ, zero, suc, ◌+◌, ◌-◌, ◌<◌, ◌≤◌, Bool, true, false, eqb, ltb, List, [], ◌∷◌, length, take, drop, sym, refl, ap, ◌∙◌, zero-add, arith, length-drop, le-ltb, eq-eqb, ne_eqb, eqb-true}
use borrow.Author.Tests.{eqb-false}
use Rattle.format.specs.Tools.{both, first, up_to}
use Rattle.laws.proofs.Tools.{cases, both_true, both_false}
use Rattle.laws.proofs.Bounds.{up_to-suc, up_to-zero}
use Rattle.rises.specs.Falls.{fallen}
use Rattle.offsets.specs.Falls.{falls_after, falls}
use Rattle.offsets.specs.Ends.{last_after, group_ends}
use Rattle.base_groups.specs.Group.{ends_right}
use Rattle.base_groups.proofs.Climb.{climbs}
use Rattle.base_groups.proofs.Groups.{group_right, groups_right}

-- ---- the number of groups

pub count_next : (l left more : ℕ) → 1 ≤ l → 0 < more → more + 1 ≡ up_to left l → (l < left) × (more - 1 + 1 ≡ up_to (left - l) l)
count_next l zero more h g e = absurd (omega (arith, up_to-zero l h))
count_next l (suc m) more h g e =
    let s = up_to-suc m l h in
    let z : more ≡ up_to (m - (l - 1)) l = omega arith in
    let q : suc m - l ≡ m - (l - 1) = omega arith in (
      cases (eqb (m - (l - 1)) 0)
          (λ t. let y : more ≡ up_to 0 l = z ∙ ap (λ (x : ℕ). up_to x l) (eqb-true (m - (l - 1)) 0 t) in absurd (omega (arith, up_to-zero l h)))
          (λ t. let y = eqb-false (m - (l - 1)) 0 t in omega arith),
      rw q (omega arith),
    )

pub count-some : (l left : ℕ) → 1 ≤ l → 0 < left → 0 < up_to left l
count-some l zero h k = absurd (omega arith)
count-some l (suc m) h k = omega (arith, up_to-suc m l h)

pub count_left : (l left more : ℕ) → 1 ≤ l → more + 1 ≡ up_to left l → 1 ≤ left
count_left l zero more h e = absurd (omega (arith, up_to-zero l h))
count_left l (suc m) more h e = omega arith

-- ---- one group

climbs-falls : (p B : ℕ) (xs : List ℕ) → climbs (suc p) B xs ≡ both (eqb (falls_after p xs) 0) (ltb (last_after p xs) B)
unfolding climbs falls_after last_after fallen
climbs-falls p B [] = refl
climbs-falls p B (x ∷ xs) = cases (ltb p x) (λ e. rw (e, zero-add (falls_after x xs)) (climbs-falls x B xs)) (λ e. rw (e, ne_eqb (1 + falls_after x xs) 0 (λ q. omega arith)))

one_group : (base next : ℕ) (os : List ℕ) → 0 < length os → both (eqb (falls os) 0) (group_ends base next os) ≡ group_right base next os
unfolding falls group_ends group_right
one_group base next [] h = absurd (omega arith)
one_group base next (o ∷ os) h =
    group_zero (eqb-true o 0)
  where
    group_zero : (eqb o 0 ≡ true → o ≡ 0)
        → both (eqb (falls_after o os) 0) (both (eqb o 0) (ltb (last_after o os) (next - base))) ≡ both (eqb o 0) (climbs 1 (next - base) os)
    group_zero k =
        cases (eqb o 0)
        (λ e. rw (k e) (sym (climbs-falls 0 (next - base) os)))
        (λ e. rw e (both_false (eqb (falls_after o os) 0)))

-- ---- a group and those after it

falls_join : (k p : ℕ) (os : List ℕ) → falls_after p os ≡ falls_after p (take k os) + falls_after (last_after p (take k os)) (drop k os)
unfolding falls_after last_after
falls_join zero p os = sym (zero-add (falls_after p os))
falls_join (suc k) p [] = refl
falls_join (suc k) p (x ∷ os) = let r = falls_join k x os in omega arith

start_fall : (q : ℕ) (ys : List ℕ) → 0 < length ys → first ys ≡ 0 → falls_after q ys ≡ 1 + falls ys
unfolding falls_after falls fallen
start_fall q [] h z = absurd (omega arith)
start_fall q (y ∷ ys) h z = rw (z, le-ltb q 0 (omega arith))

falls-parts : (l : ℕ) (os : List ℕ) → 1 ≤ l → l < length os → first (drop l os) ≡ 0 → falls os ≡ falls (take l os) + 1 + falls (drop l os)
unfolding falls
falls-parts zero os h k z = absurd (omega arith)
falls-parts (suc l) [] h k z = absurd (omega arith)
falls-parts (suc l) (o ∷ os) h k z =
    let n : length (drop l os) ≡ length os - l = length-drop l os in
    let s = start_fall (last_after o (take l os)) (drop l os) (omega arith) z in
    let j = falls_join l o os in
    omega arith

ends-first : (l bound base : ℕ) (bs os : List ℕ) → 1 ≤ l → ends_right l bound base bs os ≡ true → first os ≡ 0
unfolding ends_right group_ends
ends-first l bound base [] os h t = eqb-true (first os) 0 (both_true _ _ t).0
ends-first zero bound base (next ∷ bs) os h t = absurd (omega arith)
ends-first (suc l) bound base (next ∷ bs) [] h t = refl
ends-first (suc l) bound base (next ∷ bs) (o ∷ os) h t = eqb-true o 0 (both_true _ _ (both_true _ _ t).0).0

-- the bases left after a group
bases-left : (l m : ℕ) (os : List ℕ) → 1 ≤ l → suc m + 1 ≡ up_to (length os) l → (l < length os) × (m + 1 ≡ up_to (length (drop l os)) l)
bases-left l m os h e =
    let c = count_next l (length os) (suc m) h (omega arith) e in
    let c1 = c.1 in
    let n : length (drop l os) ≡ length os - l = length-drop l os in
    (c.0, rw n (omega arith))

falls-least : (l bound base : ℕ) (bs os : List ℕ) → 1 ≤ l → length bs + 1 ≡ up_to (length os) l → ends_right l bound base bs os ≡ true → length bs ≤ falls os
unfolding ends_right
falls-least l bound base [] os h e t = omega arith
falls-least l bound base (next ∷ bs) os h e t =
    let c = bases-left l (length bs) os h e in
    let y = (both_true (group_ends base next (take l os)) (ends_right l bound next bs (drop l os)) t).1 in
    let a = falls-least l bound next bs (drop l os) h c.1 y in
    let f = falls-parts l os h c.0 (ends-first l bound next bs (drop l os) h y) in
    omega arith

eq_sum : (f a b m : ℕ) → m ≤ b → f ≡ a + 1 + b → eqb f (suc m) ≡ both (eqb a 0) (eqb b m)
eq_sum f a b m h s =
    cases (eqb f (suc m))
    (λ e. let t = eqb-true f (suc m) e in e ∙ sym (rw (eq-eqb a 0 (omega arith), eq-eqb b m (omega arith))))
    (λ e. e ∙ sym (other (eqb-false f (suc m) e)))
  where
    other : (f ≡ suc m → ⊥) → both (eqb a 0) (eqb b m) ≡ false
    other n =
        cases (eqb a 0)
        (λ p. let z = eqb-true a 0 p in rw p (ne_eqb b m (λ q. n (omega arith))))
        (λ p. rw p)

step : (f a b m : ℕ) (g later : Bool) → (later ≡ true → (m ≤ b) × (f ≡ a + 1 + b))
    → both (eqb f (suc m)) (both g later) ≡ both (both (eqb a 0) g) (both (eqb b m) later)
step f a b m g true k = rw (eq_sum f a b m (k refl).0 (k refl).1) (order (eqb a 0) (eqb b m) g)
  where
    order : (p q r : Bool) → both (both p q) (both r true) ≡ both (both p r) (both q true)
    order true q true = refl
    order true q false = both_false q
    order false q r = refl
step f a b m g false k = rw (both_false g, both_false (eqb f (suc m)), both_false (eqb b m), both_false (both (eqb a 0) g))

pub groups_ends : (l bound base : ℕ) (bs os : List ℕ) → 1 ≤ l → length bs + 1 ≡ up_to (length os) l
    → both (eqb (falls os) (length bs)) (ends_right l bound base bs os) ≡ groups_right l bound base bs os
unfolding ends_right groups_right
groups_ends l bound base [] os h e = one_group base bound os (count_left l (length os) 0 h e)
groups_ends l bound base (next ∷ bs) os h e =
    let c = bases-left l (length bs) os h e in
    let later = groups_ends l bound next bs (drop l os) h c.1 in
    let one = one_group base next (take l os) (some-taken l os h c.0) in
    rw (← later, ← one)
    (step (falls os) (falls (take l os)) (falls (drop l os)) (length bs) (group_ends base next (take l os)) (ends_right l bound next bs (drop l os))
    (λ y. (falls-least l bound next bs (drop l os) h c.1 y, falls-parts l os h c.0 (ends-first l bound next bs (drop l os) h y))))
  where
    some-taken : (l : ℕ) (os : List ℕ) → 1 ≤ l → l < length os → 0 < length (take l os)
    some-taken zero os h k = absurd (omega arith)
    some-taken (suc l) [] h k = absurd (omega arith)
    some-taken (suc l) (o ∷ os) h k = omega arith
