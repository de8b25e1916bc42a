-- A search as it goes rank by rank. Assumes nothing.
use Rattle.std.proofs.Common.{◌≡◌, ℕ, ◌+◌, ◌-◌, ◌<◌, ◌≤◌, leb, List, le_refl, arith, leb-false, leb-true}
use native.Mathlib.Nat.{sub_self}
use Rattle.format.specs.declared.View.{View}
use Rattle.laws.proofs.Tools.{cases}
use Rattle.differences.specs.declared.walk.Reached.{Reached}
use Rattle.differences.specs.declared.walk.Place.{Place}
use Rattle.differences.specs.Walk.{stepped, Within}
use Rattle.differences.proofs.Walked.{walked_start, walked_next}
use Rattle.jump_walk.specs.Passed.{Passed, Near}

module _ (b : List ℕ) (v : View) (w : ℕ) (from : Place) (p : ℕ) where
  pub passed_start : from.rank < v.words → Within (from.rank + 1) from.reached → Passed b v w from p from
  passed_start h i =
      record {
        least = le_refl _;
        most = h;
        there = rw (sub_self from.rank) (walked_start w v.start v.second b from.rank from.reached);
        within = i;
        below = λ k n. absurd (omega arith);
      }

  -- over one rank more
  pub passed-next : (r : ℕ) (s : Reached) → Passed b v w from p (record { rank = r; reached = s }) → s.position < p → r + 1 < v.words → (t : Reached)
      → t ≡ stepped w v.start v.second b (r + 1) s → Within (r + 1 + 1) t → Passed b v w from p (record { rank = r + 1; reached = t })
  passed-next r s z h n t e i =
      let l = z.least in
      let m = r - from.rank in
      let f : from.rank + (m + 1) ≡ r + 1 = omega arith in
      let g : r + 1 - from.rank ≡ m + 1 = omega arith in
      record {
        least = omega arith;
        most = n;
        there = rw g (walked_next w v.start v.second b from.rank m from.reached z.there (rw f e));
        within = i;
        below = λ k o.
            cases (leb r (from.rank + k))
            (λ x. let y = leb-true r (from.rank + k) x in let j : k ≡ m = omega arith in rw (j, ← z.there) h)
            (λ x. z.below k (leb-false r (from.rank + k) x));
      }

-- over as many ranks as there are: to a position from p on, or to the last rank
pub last-rank : {b : List ℕ} {v : View} {w : ℕ} {from : Place} {p n : ℕ} {t : Place} → Near b v w from p n t → v.words ≤ n → t.reached.position < p
    → t.rank + 1 ≡ v.words
last-rank {v = v} {t = t} z h k =
    let m = z.passed.most in
    cases (leb v.words (t.rank + 1))
    (λ x. let y = leb-true v.words (t.rank + 1) x in omega arith)
    (λ x. let y = z.ends k (leb-false v.words (t.rank + 1) x) in absurd (omega arith))
