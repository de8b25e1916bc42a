-- Laws of the stored cells: rising positions, and the words back from them. Assumes nothing.
use Prim.Native.Nat.{ℕ, zero, suc, ◌+◌, ◌≤◌, ◌<◌}
use mathlib.Core.Path.{◌≡◌, refl, sym, ap, subst}
use mathlib.Core.Bool.{false}
use mathlib.Core.List.{List, [], ◌∷◌, ◌++◌}
use native.Mathlib.Nat.{add-zero, add-suc, suc-add, le_refl}
use native.Mathlib.Omega.{arith}
use lib.Arith.{lt_of_le-ne}
use lib.ListN.{length}
use lib.Dec.{eqb}
use borrow.Author.Tests.{eqb-true, eqb-false, eq-eqb, ne_eqb}
use Rattle.format.specs.Tools.{Below, first, others}
use Rattle.format.specs.Stored.{stored_from, stored, kept, placed_from}
use Rattle.laws.proofs.Tools.{cases}

-- strictly rising, from `least` on and below `bound`
abbrev pub Rising : ℕ → ℕ → List ℕ → Type 0
Rising least bound [] = Unit
Rising least bound (l ∷ ls) = (least ≤ l) × (l < bound) × Rising (suc l) bound ls

pub rising_weaken : (a b B : ℕ) (ls : List ℕ) → a ≤ b → Rising b B ls → Rising a B ls
rising_weaken a b B [] h r = tt
rising_weaken a b B (l ∷ ls) h r = (omega arith, r.1, r.2)

pub rising_widen : (a B C : ℕ) (ls : List ℕ) → B ≤ C → Rising a B ls → Rising a C ls
rising_widen a B C [] h r = tt
rising_widen a B C (l ∷ ls) h r = (r.0, omega arith, rising_widen (suc l) B C ls h r.2)

-- so many fit below the bound
pub rising-length : (a B : ℕ) (ls : List ℕ) → a ≤ B → Rising a B ls → a + length ls ≤ B
rising-length a B [] h r = omega arith
rising-length a B (l ∷ ls) h r = let n = rising-length (suc l) B ls r.1 r.2 in omega (arith, r.0)

-- the stored positions rise
pub rising-stored : (E p B : ℕ) (ws : List ℕ) → p + length ws ≤ B → Rising p B (stored_from E p ws)
unfolding stored_from
rising-stored E p B [] h = tt
rising-stored E p B (x ∷ ws) h =
    let h' : suc p + length ws ≤ B = omega (arith, add-suc p (length ws), suc-add p (length ws)) in
    let r : Rising (suc p) B (stored_from E (suc p) ws) = rising-stored E (suc p) B ws h' in
    cases (eqb x E)
    (λ e. rw e (rising_weaken p (suc p) B (stored_from E (suc p) ws) (omega arith) r))
    (λ e. rw e (omega arith, omega arith, r))

pub length-stored : (E p : ℕ) (ws : List ℕ) → length (stored_from E p ws) ≡ length (kept E ws)
unfolding stored_from kept
length-stored E p [] = refl
length-stored E p (x ∷ ws) =
    cases (eqb x E)
    (λ e. rw e (length-stored E (suc p) ws))
    (λ e. rw e (ap suc (length-stored E (suc p) ws)))

-- of all words: the positions rise below their number, and are as many as the words kept
pub rising : (E : ℕ) (ws : List ℕ) → Rising 0 (length ws) (stored E ws)
unfolding stored
rising E ws = rising-stored E 0 (length ws) ws (omega arith)

pub stored-kept : (E : ℕ) (ws : List ℕ) → length (stored E ws) ≡ length (kept E ws)
unfolding stored
stored-kept E ws = length-stored E 0 ws

pub length-kept_le : (E : ℕ) (ws : List ℕ) → length (kept E ws) ≤ length ws
unfolding kept
length-kept_le E [] = le_refl 0
length-kept_le E (x ∷ ws) =
    let h = length-kept_le E ws in
    cases (eqb x E) (λ e. rw e (omega arith)) (λ e. rw e (omega arith))

-- a cell below the next stored one is empty, and the next stored one has the next word
placed_skip : (E p B n : ℕ) (ls vs : List ℕ) → Rising (suc p) B ls → placed_from E p (suc n) ls vs ≡ E ∷ placed_from E (suc p) n ls vs
unfolding placed_from
placed_skip E p B n [] vs r = refl
placed_skip E p B n (l ∷ ls) vs r =
    let e : eqb l p ≡ false = ne_eqb l p (λ q. omega arith) in
    rw e

placed_hit : (E p n : ℕ) (ls vs : List ℕ) (v : ℕ) → placed_from E p (suc n) (p ∷ ls) (v ∷ vs) ≡ v ∷ placed_from E (suc p) n ls vs
unfolding placed_from
placed_hit E p n ls vs v = rw (eq-eqb p p refl)

-- the words back
pub placed-stored : (E p : ℕ) (ws : List ℕ) → placed_from E p (length ws) (stored_from E p ws) (kept E ws) ≡ ws
unfolding stored_from kept
placed-stored E p [] = unfold placed_from in refl
placed-stored E p (x ∷ ws) =
    cases (eqb x E)
    (λ e.
    rw (
      e,
      placed_skip E p (suc p + length ws) (length ws) (stored_from E (suc p) ws) (kept E ws) (rising-stored E (suc p) (suc p + length ws) ws (le_refl _)),
      placed-stored E (suc p) ws,
      eqb-true x E e,
    ))
    (λ e. rw (e, placed_hit E p (length ws) (stored_from E (suc p) ws) (kept E ws) x, placed-stored E (suc p) ws))

pub length-placed : (E p n : ℕ) (ls vs : List ℕ) → length (placed_from E p n ls vs) ≡ n
unfolding placed_from
length-placed E p zero ls vs = refl
length-placed E p (suc n) [] vs = ap suc (length-placed E (suc p) n [] vs)
length-placed E p (suc n) (l ∷ ls) vs = ap suc (length-placed E (suc p) n _ _)

-- words other than E
abbrev pub Apart : ℕ → List ℕ → Type 0
Apart E [] = Unit
Apart E (v ∷ vs) = (v ≡ E → ⊥) × Apart E vs

-- the other way: rising positions and words other than E are the stored cells of what they make
pub stored-placed : (E p n B : ℕ) (ls vs : List ℕ) → B ≡ p + n → Rising p B ls → Apart E vs → length vs ≡ length ls
    → (stored_from E p (placed_from E p n ls vs) ≡ ls) × (kept E (placed_from E p n ls vs) ≡ vs)
unfolding stored_from kept placed_from
stored-placed E p zero B [] [] b r a h = (refl, refl)
stored-placed E p zero B [] (v ∷ vs) b r a h = absurd (omega arith)
stored-placed E p zero B (l ∷ ls) vs b r a h = absurd (omega arith)
stored-placed E p (suc n) B [] [] b r a h = rw (eq-eqb E E refl) (stored-placed E (suc p) n B [] [] (omega arith) tt tt refl)
stored-placed E p (suc n) B [] (v ∷ vs) b r a h = absurd (omega arith)
stored-placed E p (suc n) B (l ∷ ls) [] b r a h = absurd (omega arith)
stored-placed E p (suc n) B (l ∷ ls) (v ∷ vs) b r a h =
    cases (eqb l p)
    (λ e.
    let q : l ≡ p = eqb-true l p e in
    let r' : Rising (suc p) B ls = subst (λ (k : ℕ). Rising (suc k) B ls) q r.2 in
    let ih = stored-placed E (suc p) n B ls vs (omega arith) r' a.1 (omega arith) in
    let ih0 : stored_from E (suc p) (placed_from E (suc p) n ls vs) ≡ ls = ih.0 in
    let ih1 : kept E (placed_from E (suc p) n ls vs) ≡ vs = ih.1 in
    rw (e, ne_eqb v E a.0) (cc, cc))
    (λ e.
    let ne = eqb-false l p e in
    let r' : Rising (suc p) B (l ∷ ls) = (omega (arith, lt_of_le-ne r.0 (λ q. ne (sym q))), r.1, r.2) in
    rw (e, eq-eqb E E refl) (stored-placed E (suc p) n B (l ∷ ls) (v ∷ vs) (omega arith) r' a h))

pub below-kept : (M E : ℕ) (ws : List ℕ) → Below M ws → Below M (kept E ws)
unfolding kept
below-kept M E [] h = tt
below-kept M E (x ∷ ws) h = cases (eqb x E) (λ e. rw e (below-kept M E ws h.1)) (λ e. rw e (h.0, below-kept M E ws h.1))

below-first : (M : ℕ) (vs : List ℕ) → 0 < M → Below M vs → first vs < M
below-first M [] z h = z
below-first M (v ∷ vs) z h = h.0

below-others : (M : ℕ) (vs : List ℕ) → Below M vs → Below M (others vs)
below-others M [] h = tt
below-others M (v ∷ vs) h = h.1

pub below-placed : (M E p n : ℕ) (ls vs : List ℕ) → E < M → Below M vs → Below M (placed_from E p n ls vs)
unfolding placed_from
below-placed M E p zero ls vs e h = tt
below-placed M E p (suc n) [] vs e h = (e, below-placed M E (suc p) n [] vs e h)
below-placed M E p (suc n) (l ∷ ls) vs e h =
    cases (eqb l p)
    (λ t. rw t (below-first M vs (omega arith) h, below-placed M E (suc p) n ls (others vs) e (below-others M vs h)))
    (λ t. rw t (e, below-placed M E (suc p) n (l ∷ ls) vs e h))

-- ---- one list of words after another

pub stored-append : (E at : ℕ) (xs ys : List ℕ) → stored_from E at (xs ++ ys) ≡ stored_from E at xs ++ stored_from E (at + length xs) ys
unfolding stored_from
stored-append E at [] ys = rw add-zero
stored-append E at (x ∷ xs) ys =
    let e : at + suc (length xs) ≡ suc at + length xs = omega arith in
    cases (eqb x E)
    (λ t. rw (t, stored-append E (suc at) xs ys, e))
    (λ t. rw (t, stored-append E (suc at) xs ys, e))

pub kept_append : (E : ℕ) (xs ys : List ℕ) → kept E (xs ++ ys) ≡ kept E xs ++ kept E ys
unfolding kept
kept_append E [] ys = refl
kept_append E (x ∷ xs) ys = cases (eqb x E) (λ t. rw (t, kept_append E xs ys)) (λ t. rw (t, kept_append E xs ys))
