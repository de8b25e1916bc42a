-- The number of a range of ranks, and the part that is handed back. Assumes nothing.
use Prim.Native.Nat.{ℕ, ◌+◌, ◌-◌, ◌*◌, ◌≤◌, ◌<◌}
use mathlib.Core.Path.{◌≡◌, refl, ap, ◌∙◌}
use mathlib.Core.Bool.{not}
use mathlib.Core.List.{List, []}
use native.Mathlib.Omega.{arith}
use lib.ListN.{length, take, drop}
use lib.Dec.{leb}
use denote.Ref.{Bor}
use borrow.Author.Tests.{leb-true, le-leb, lt-leb, ne_eqb}
use Rattle.format.specs.declared.View.{View}
use Rattle.format.specs.Tools.{both}
use Rattle.format.specs.Signals.{BEYOND}
use Rattle.format.specs.Accepted.{words_at, words_count, check_number}
use Rattle.format.specs.RankRange.{ranks_number, ranks_from, ranks_bytes, RanksPart}
use Rattle.laws.proofs.Tools.{both_true, not-false, refuse-zero, or_else-zero}
use Rattle.parts.specs.Holds.{ViewOf}
use Rattle.parts.proofs.Seen.{seen}
use Rattle.checked.proofs.Number.{first-refused}

-- ---- the number

module _ (b : List ℕ) (a c : ℕ) where
  pub range_refused : (check_number b ≡ 0 → ⊥) → check_number b ≡ ranks_number b a c
  unfolding ranks_number
  range_refused h = first-refused (check_number b) (check_number b) _ refl h

  module _ (v : View) (o : ViewOf b v) where
    words_seen : v.words ≡ words_count b
    words_seen = (seen b v o).words

    pub range_crossed : c < a → BEYOND ≡ ranks_number b a c
    unfolding ranks_number
    range_crossed h = rw (o.accepted, lt-leb a c h)

    pub range-beyond : a ≤ c → v.words < c → BEYOND ≡ ranks_number b a c
    unfolding ranks_number
    range-beyond h k = rw (o.accepted, le-leb a c h, lt-leb c (words_count b) (rw words_seen at k))

    pub range_inside : a ≤ c → c ≤ v.words → 0 ≡ ranks_number b a c
    unfolding ranks_number
    range_inside h k = rw (o.accepted, le-leb a c h, le-leb c (words_count b) (rw words_seen at k))

-- ---- the part

-- what 0 says: the range lies in the file
pub record Ranged (b : List ℕ) (v : View) (a c : ℕ) : Type 0 where
  pub view : ViewOf b v
  pub order : a ≤ c
  pub inside : v.place + 4 * c ≤ length b

pub ranged : (b : List ℕ) (v : View) → ViewOf b v → (a c : ℕ) → ranks_number b a c ≡ 0 → Ranged b v a c
unfolding ranks_number
ranged b v o a c h =
    let t = or_else-zero (check_number b) _ h in
    let u = not-false (both (leb a c) (leb c (words_count b))) (refuse-zero 7 (not (both (leb a c) (leb c (words_count b)))) 0 t.1).0 in
    let w = both_true (leb a c) (leb c (words_count b)) u in
    let l = leb-true c (words_count b) w.1 in
    let s = seen b v o in
    record { view = o; order = leb-true a c w.0; inside = omega (arith, s.words, s.header.long) }

module _ (x : Bor (List ℕ)) (a c n : ℕ) (r : Bor (List ℕ)) (number : n ≡ ranks_number x.now a c) where
  pub no_part : (n ≡ 0 → ⊥) → r.now ≡ [] → RanksPart x a c r
  no_part h e = record { bytes = rw (← number, ne_eqb n 0 h) e; own = λ z. absurd (h (number ∙ z)) }

  pub part_given : (v : View) (from to : ℕ) → Ranged x.now v a c → n ≡ 0 → from ≡ v.place + 4 * a → to ≡ v.place + 4 * c
      → r.ref_ptr ≡ (x.ref_ptr.0, from + x.ref_ptr.1) → r.now ≡ take (to - from) (drop from x.now) → RanksPart x a c r
  unfolding ranks_bytes ranks_from
  part_given v from to o z e f place bytes =
      let h = o.order in
      let s : to - from ≡ 4 * (c - a) = omega arith in
      let p : v.place ≡ words_at x.now = (seen x.now v o.view).header.place in
      let w : from ≡ words_at x.now + 4 * a = e ∙ ap (λ (m : ℕ). m + 4 * a) p in
      let t : r.now ≡ take (4 * (c - a)) (drop (words_at x.now + 4 * a) x.now) = rw (s, w) at bytes in
      record { bytes = rw (← number, z) t; own = λ y. record { place = rw w at place; bytes = t } }
