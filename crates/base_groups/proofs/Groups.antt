-- The check group by group is the check rank by rank. Assumes nothing.
use Rattle.std.proofs.Common.{◌≡◌, ℕ, zero, suc, ◌+◌, ◌-◌, ◌<◌, ◌≤◌, Bool, true, false, eqb, leb, List, [], ◌∷◌, length, take, drop, sym, refl, ◌∙◌, add-zero, arith, le-leb, leb-false, leb-true}
use native.Mathlib.Nat.{suc-sub-suc, sub-zero}
use borrow.Author.Tests.{lt-leb}
use Rattle.format.specs.Tools.{both, up_to}
use Rattle.laws.proofs.Tools.{cases, both_assoc}
use Rattle.base_groups.proofs.Climb.{climbs}
use Rattle.base_groups.proofs.RankByRank.{ranks_right, no_base, next-bases, some-base}

-- a group: the offset of the base's own rank is 0, and the positions rise below `next`
unfoldable pub group_right : ℕ → ℕ → List ℕ → Bool
group_right base next [] = false
group_right base next (o ∷ os) = both (eqb o 0) (climbs 1 (next - base) os)

-- the group of `base`, then those of the bases bs; the last group's positions rise below `bound`
unfoldable pub groups_right : ℕ → ℕ → ℕ → List ℕ → List ℕ → Bool
groups_right l bound base [] os = group_right base bound os
groups_right l bound base (next ∷ bs) os = both (group_right base next (take l os)) (groups_right l bound next bs (drop l os))

-- the same inside a group, past the offset o, where k more ranks belong to the base
unfoldable inside_right : ℕ → ℕ → ℕ → ℕ → ℕ → List ℕ → List ℕ → Bool
inside_right l bound k o base [] os = climbs (suc o) (bound - base) os
inside_right l bound k o base (next ∷ bs) os = both (climbs (suc o) (next - base) (take k os)) (groups_right l bound next bs (drop k os))

groups_start : (l bound base o : ℕ) (bs os : List ℕ) → 1 ≤ l → groups_right l bound base bs (o ∷ os) ≡ both (eqb o 0) (inside_right l bound (l - 1) 0 base bs os)
unfolding groups_right group_right inside_right
groups_start l bound base o [] os h = refl
groups_start zero bound base o (next ∷ bs) os h = absurd (omega arith)
groups_start (suc l) bound base o (next ∷ bs) os h =
    let e : suc l - 1 ≡ l = omega arith in
    rw e (both_assoc (eqb o 0) _ _)

-- a test moved by the base
leb-moved : (base o bound : ℕ) → leb (suc (base + o)) bound ≡ leb (suc o) (bound - base)
leb-moved base o bound =
    cases (leb (suc (base + o)) bound)
    (λ e. let t = leb-true (suc (base + o)) bound e in e ∙ sym (le-leb (suc o) (bound - base) (omega arith)))
    (λ e. let t = leb-false (suc (base + o)) bound e in e ∙ sym (lt-leb (suc o) (bound - base) (omega arith)))

leb_shift : (base o x : ℕ) → leb (suc (base + o)) (base + x) ≡ leb (suc o) x
leb_shift base o x =
    cases (leb (suc o) x)
    (λ e. let t = leb-true (suc o) x e in le-leb (suc (base + o)) (base + x) (omega arith) ∙ sym e)
    (λ e. let t = leb-false (suc o) x e in lt-leb (suc (base + o)) (base + x) (omega arith) ∙ sym e)

swap : (a c d : Bool) → both a (both c d) ≡ both c (both a d)
swap true c d = refl
swap false true d = refl
swap false false d = refl

inside : (l bound k o base : ℕ) (bs os : List ℕ) → 1 ≤ l → length bs ≡ up_to (length os - k) l
    → ranks_right l k base (suc (base + o)) bound bs os ≡ inside_right l bound k o base bs os
unfolding ranks_right inside_right climbs
inside l bound k o base [] [] h e = leb-moved base o bound
inside l bound k o base (next ∷ bs) [] h e = absurd (some-none (no_base l k (next ∷ bs) h e))
  where
    some-none : {x : ℕ} {xs : List ℕ} → x ∷ xs ≡ [] → ⊥
    some-none q = let z : ◌≡◌ {A = ℕ} 0 1 = cc in omega arith
inside l bound zero o base [] (x ∷ os) h e = absurd (some-base l (length os) h e)
inside l bound zero o base (next ∷ bs) (x ∷ os) h e =
    let later : ranks_right l (l - 1) next (suc (next + 0)) bound bs os ≡ inside_right l bound (l - 1) 0 next bs os
    = inside l bound (l - 1) 0 next bs os h (next-bases l (length os) next bs h e) in
    let z : next + 0 ≡ next = add-zero next in
    rw (groups_start l bound next x bs os h, ← later, z, leb-moved base o next) (swap (eqb x 0) (leb (suc o) (next - base)) _)
inside l bound (suc k) o base [] (x ∷ os) h e =
    rw (inside l bound k x base [] os h (rw (suc-sub-suc (length os) k) at e), leb_shift base o x)
inside l bound (suc k) o base (next ∷ bs) (x ∷ os) h e =
    rw (inside l bound k x base (next ∷ bs) os h (rw (suc-sub-suc (length os) k) at e), leb_shift base o x)
    (sym (both_assoc (leb (suc o) x) _ _))

-- all groups
pub groups_ranks : (l bound base : ℕ) (bs os : List ℕ) → 1 ≤ l → 0 < length os → length (base ∷ bs) ≡ up_to (length os) l
    → groups_right l bound base bs os ≡ ranks_right l 0 0 0 bound (base ∷ bs) os
unfolding ranks_right
groups_ranks l bound base bs [] h k e = absurd (omega arith)
groups_ranks l bound base bs (o ∷ os) h k e =
    let later : ranks_right l (l - 1) base (suc (base + 0)) bound bs os ≡ inside_right l bound (l - 1) 0 base bs os
    = inside l bound (l - 1) 0 base bs os h (next-bases l (length os) base bs h (rw (sub-zero (suc (length os))) e)) in
    let z : base + 0 ≡ base = add-zero base in
    rw (groups_start l bound base o bs os h, ← later, z, le-leb 0 base (omega arith))
