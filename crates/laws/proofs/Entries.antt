-- The entries of kinds 3 and 4 in the words of document 01: where a base stands, and when a difference is 0. Assumes nothing.
use Prim.Native.Nat.{ℕ, zero, suc, ◌-◌, ◌*◌, ◌^◌, ◌≤◌, ◌<◌}
use mathlib.Core.Path.{◌≡◌, refl}
use mathlib.Core.Logic.{◌↔◌, ◌⊎◌, inl, inr, ⊎_elim}
use mathlib.Core.List.{List, [], ◌∷◌}
use native.Mathlib.Omega.{arith}
use lib.ListN.{length, get_or}
use lib.Dec.{leb}
use borrow.Author.Tests.{leb-true, leb-false, le-leb}
use Rattle.format.specs.BaseOffset.{bases}
use Rattle.format.specs.Jumps.{difference, differences_from, differences}
use Rattle.laws.proofs.Stored.{Rising}
use Rattle.laws.proofs.Tools.{cases}
use Rattle.laws.proofs.Bounds.{get_or_every_nth}

-- ---- kind 3

-- a base stands every l ranks
pub base-every : (l j : ℕ) (ls : List ℕ) → 1 ≤ l → j * l < length ls → get_or (bases l ls) j 0 ≡ get_or ls (j * l) 0
unfolding bases
base-every l j ls p h = get_or_every_nth l j ls p h

-- ---- kind 4

from_at : (w before r : ℕ) (ls : List ℕ) → r < length ls → get_or (differences_from w before ls) r 0 ≡ difference w (get_or (before ∷ ls) r 0) (get_or ls r 0)
unfolding differences_from
from_at w before r [] h = absurd (omega arith)
from_at w before zero (l ∷ ls) h = refl
from_at w before (suc r) (l ∷ ls) h = from_at w l r ls (omega arith)

-- past rank 0 an entry is the difference of two positions in a row
difference-at : (w r : ℕ) (ls : List ℕ) → suc r < length ls → get_or (differences w ls) (suc r) 0 ≡ difference w (get_or ls r 0) (get_or ls (suc r) 0)
unfolding differences
difference-at w r [] h = absurd (omega arith)
difference-at w r (l ∷ ls) h = from_at w l r ls (omega arith)

difference-first : (w : ℕ) (ls : List ℕ) → get_or (differences w ls) 0 0 ≡ 0
unfolding differences
difference-first w [] = refl
difference-first w (l ∷ ls) = refl

-- a rising list rises at each step
pub rising-next : (a B r : ℕ) (ls : List ℕ) → Rising a B ls → suc r < length ls → get_or ls r 0 < get_or ls (suc r) 0
rising-next a B r [] o h = absurd (omega arith)
rising-next a B r (l ∷ []) o h = absurd (omega arith)
rising-next a B zero (l ∷ m ∷ ls) o h = o.2.0
rising-next a B (suc r) (l ∷ m ∷ ls) o h = rising-next (suc l) B r (m ∷ ls) o.2 (omega arith)

pub jump_is_zero : (w before l : ℕ) → 256 ^ w - 1 < l - before → difference w before l ≡ 0
unfolding difference
jump_is_zero w before l h = cases (leb (l - before) (256 ^ w - 1)) (λ e. absurd (omega (arith, leb-true (l - before) (256 ^ w - 1) e))) (λ e. rw e)

pub fitting : (w before l : ℕ) → l - before ≤ 256 ^ w - 1 → difference w before l ≡ l - before
unfolding difference
fitting w before l h = rw (le-leb (l - before) (256 ^ w - 1) h)

zero_is_jump : (w before l : ℕ) → before < l → difference w before l ≡ 0 → 256 ^ w - 1 < l - before
zero_is_jump w before l h z =
    cases (leb (l - before) (256 ^ w - 1))
    (λ e. absurd (omega (arith, fitting w before l (leb-true (l - before) (256 ^ w - 1) e))))
    (λ e. leb-false (l - before) (256 ^ w - 1) e)

-- a difference is 0 exactly for rank 0 and for jumps
pub difference-zero : (w r a B : ℕ) (ls : List ℕ) → Rising a B ls → r < length ls
    → (get_or (differences w ls) r 0 ≡ 0) ↔ ((r ≡ 0) ⊎ (256 ^ w - 1 < get_or ls r 0 - get_or ls (r - 1) 0))
difference-zero w zero a B ls o h = (λ z. inl refl, λ z. difference-first w ls)
difference-zero w (suc r) a B ls o h =
    let e : suc r - 1 ≡ r = omega arith in
    rw (e, difference-at w r ls h) (
      λ z. inr (zero_is_jump w (get_or ls r 0) (get_or ls (suc r) 0) (rising-next a B r ls o h) z),
      ⊎_elim (λ z. absurd (omega arith)) (jump_is_zero w (get_or ls r 0) (get_or ls (suc r) 0)),
    )

-- any other difference is L(r) - L(r-1)
pub difference_else : (w r : ℕ) (ls : List ℕ) → r < length ls → 1 ≤ r → get_or ls r 0 - get_or ls (r - 1) 0 ≤ 256 ^ w - 1
    → get_or (differences w ls) r 0 ≡ get_or ls r 0 - get_or ls (r - 1) 0
difference_else w zero ls h k f = absurd (omega arith)
difference_else w (suc r) ls h k f =
    let e : suc r - 1 ≡ r = omega arith in
    let g : get_or ls (suc r) 0 - get_or ls r 0 ≤ 256 ^ w - 1 = rw e at f in
    rw (e, difference-at w r ls h) (fitting w (get_or ls r 0) (get_or ls (suc r) 0) g)
