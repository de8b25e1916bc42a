-- Rising numbers, tested step by step: each is above the one before, and the last is below the bound. Assumes nothing.
use Rattle.std.proofs.Common.{◌≡◌, ℕ, suc, ◌+◌, ◌-◌, ◌*◌, ◌<◌, ◌≤◌, Bool, true, false, ◌&&◌, ltb, leb, List, [], ◌∷◌, drop, sym, refl, arith, ltb-false, ltb-true, le-leb, leb-true}
use native.Mathlib.Nat.{mul-suc}
use native.Mathlib.Numerals.{add-one}
use borrow.Author.Tests.{lt-leb}
use Rattle.format.specs.Tools.{both}
use Rattle.format.specs.Bytes.{field, numbers_of}
use Rattle.parts.specs.Holds.{rises}
use Rattle.laws.proofs.Tools.{cases, both_and}
use Rattle.laws.proofs.Numbers.{numbers_turn, numbers-end}

-- each number is above the one before, the first is at least `least`, and the last is below `bound`
unfoldable pub climbs : ℕ → ℕ → List ℕ → Bool
climbs least bound [] = leb least bound
climbs least bound (l ∷ ls) = both (leb least l) (climbs (suc l) bound ls)

climbs-past : (a B : ℕ) (ls : List ℕ) → B < a → climbs a B ls ≡ false
unfolding climbs
climbs-past a B [] h = lt-leb a B h
climbs-past a B (l ∷ ls) h =
    cases (leb a l)
    (λ e. let t = leb-true a l e in rw e (climbs-past (suc l) B ls (omega arith)))
    (λ e. rw e)

-- that the last is below the bound is enough
pub rises-climbs : (a B : ℕ) (ls : List ℕ) → a ≤ B → rises a B ls ≡ climbs a B ls
unfolding rises climbs
rises-climbs a B [] h = sym (le-leb a B h)
rises-climbs a B (l ∷ ls) h =
    cases (ltb l B)
    (λ e. rw (e, rises-climbs (suc l) B ls (ltb-true l B e)))
    (λ e. let t = ltb-false l B e in rw (e, climbs-past (suc l) B ls (omega arith)))

pub rises-none : (w B n : ℕ) (b : List ℕ) → n ≡ 0 → rises 0 B (numbers_of w n b) ≡ true
unfolding rises
rises-none w B n b h = rw (numbers-end w n b (omega arith))

-- ---- a loop along n numbers of w bytes

pub climb_first : (w n at B : ℕ) (b : List ℕ) → 0 < n
    → climbs (suc (field w at b)) B (numbers_of w (n - 1) (drop (at + w) b)) ≡ climbs 0 B (numbers_of w n (drop at b))
unfolding climbs
climb_first w n at B b h = rw (numbers_turn w n at b h, le-leb 0 (field w at b) (omega arith))

-- past the number after the first i
pub climb_turn : (w n at i before B : ℕ) (b : List ℕ) (right : Bool) → i < n
    → both (right && ltb before (field w (at + w * i) b)) (climbs (suc (field w (at + w * i) b)) B (numbers_of w (n - (i + 1)) (drop (at + w * (i + 1)) b)))
    ≡ both right (climbs (suc before) B (numbers_of w (n - i) (drop (at + w * i) b)))
unfolding climbs
climb_turn w n at i before B b right h =
    let m : n - (i + 1) ≡ n - i - 1 = omega arith in
    let p : at + w * (i + 1) ≡ at + w * i + w = rw (add-one i, mul-suc) (omega arith) in
    rw (m, p, numbers_turn w (n - i) (at + w * i) b (omega arith)) (both_and right (ltb before (field w (at + w * i) b)) _)

pub climb_end : (w n before B : ℕ) (b : List ℕ) (right : Bool) → n ≤ 0 → right && ltb before B ≡ both right (climbs (suc before) B (numbers_of w n b))
unfolding climbs
climb_end w n before B b true h = rw (numbers-end w n b h)
climb_end w n before B b false h = refl
