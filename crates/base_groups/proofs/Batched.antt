-- Many ranks at a time: those of one base, and one base after the other. Assumes nothing.
use Rattle.std.proofs.Common.{◌≡◌, ℕ, zero, suc, ◌+◌, ◌-◌, ◌*◌, ◌^◌, ◌<◌, ◌≤◌, Bool, true, false, ltb, List, [], ◌∷◌, ◌++◌, length, take, drop, set, sym, refl, ap, ◌∙◌, append_assoc, le_refl, add-zero, mul-le-mul, mul-suc, mul-add, arith, length-append, length-drop, length-take-le, take_at, lt-ltb}
use Rattle.format.specs.declared.View.{View}
use Rattle.format.specs.Bytes.{field, numbers_of}
use Rattle.laws.proofs.Tools.{cases}
use Rattle.laws.proofs.Numbers.{numbers_turn, numbers-end}
use Rattle.wire.specs.Wire.{entry_size, add32}
use Rattle.wire.proofs.Laws.{whole-there}
use Rattle.parts.specs.declared.Cursor.{Cursor}
use Rattle.parts.specs.Cursor.{moved_to, entry_of, walked_as, stepped_as, Batch}
use Rattle.parts.proofs.Steps.{add32-small}
use Rattle.parts.proofs.Batches.{Partly, walked_as_add, stepped_as_add, length-walked_as}
use Rattle.offsets.specs.Sums.{There, sums}
use Rattle.base_groups.specs.Steps.{base_of, offset_from, next, SameBase, ahead_of}
use Rattle.base_groups.proofs.Cuts.{Cut}
use Rattle.base_groups.proofs.Walk.{walks}

-- ---- the ranks of one base

-- i ranks further under the same base, at a position
abbrev pub under : Cursor → ℕ → ℕ → Cursor
under c i p = record { rank = c.rank + i; at = p; next = c.next; last = c.last; used = c.used + i; base = c.base; empty = c.empty }

under_first : (c : Cursor) → under c 0 c.at ≡ c
under_first c = rw (add-zero c.rank, add-zero c.used)

module _ (b : List ℕ) (v : View) where
  abbrev w : ℕ
  w = entry_size v.width

  -- the step does not ask where the cursor stands
  next-any : (c : Cursor) (i p q : ℕ) → next b v (under c i p) ≡ next b v (under c i q)
  unfolding next offset_from base_of moved_to
  next-any c i p q = cases (ltb (c.used + i) v.step) (λ t. rw t) (λ t. rw t)

  next_under : (c : Cursor) (i p : ℕ) → c.used + i < v.step → c.rank + i + 1 < 2 ^ 32
      → next b v (under c i p) ≡ under c (i + 1) (add32 c.base (entry_of b v (c.rank + (i + 1))))
  unfolding next offset_from base_of moved_to
  next_under c i p h g =
      let r : add32 (c.rank + i) 1 ≡ c.rank + (i + 1) = add32-small (c.rank + i) 1 g ∙ omega arith in
      let u : c.used + i + 1 ≡ c.used + (i + 1) = omega arith in
      rw (lt-ltb (c.used + i) v.step h, r, u)

  entry_there : (r at : ℕ) → at ≡ v.second + w * r → at + w ≤ length b → entry_of b v r ≡ field w at b
  unfolding entry_of
  entry_there r at e h = rw (← e) (whole-there w at b h)

  module _ (c : Cursor) where
    walked_under : (m i p at : ℕ) → i + m ≤ v.step - c.used → c.rank + i + m < 2 ^ 32 → at ≡ v.second + w * (c.rank + i)
        → at + w * suc m ≤ length b → walked_as (next b v) (under c i p) (suc m) ≡ p ∷ sums c.base (numbers_of w m (drop (at + w) b))
    unfolding walked_as sums
    walked_under zero i p at h r e l = rw (numbers-end w 0 (drop (at + w) b) (omega arith))
    walked_under (suc m) i p at h r e l =
        let x : c.rank + (i + 1) ≡ suc (c.rank + i) = omega arith in
        let a : at + w ≡ v.second + w * (c.rank + (i + 1)) = rw x (omega (arith, mul-suc w (c.rank + i))) in
        let s = mul-suc w m in
        let t = mul-suc w (suc m) in
        let f : entry_of b v (c.rank + (i + 1)) ≡ field w (at + w) b = entry_there (c.rank + (i + 1)) (at + w) a (omega arith) in
        let n : suc m - 1 ≡ m = omega arith in
        rw (next_under c i p (omega arith) (omega arith), f, numbers_turn w (suc m) (at + w) b (omega arith), n)
        (ap (λ (l : List ℕ). p ∷ l)
        (walked_under m (i + 1) (add32 c.base (field w (at + w) b)) (at + w) (omega arith) (omega arith) a (omega arith)))

    stepped_under : (m i p q : ℕ) → i + m ≤ v.step - c.used → c.rank + i + m < 2 ^ 32
        → stepped_as (next b v) (under c i p) (suc m) ≡ next b v (under c (i + m) q)
    unfolding stepped_as
    stepped_under zero i p q h r = rw (add-zero i) (next-any c i p q)
    stepped_under (suc m) i p q h r =
        let x : i + 1 + m ≡ i + suc m = omega arith in
        rw (next_under c i p (omega arith) (omega arith))
        (stepped_under m (i + 1) (add32 c.base (entry_of b v (c.rank + (i + 1)))) q (omega arith) (omega arith) ∙ rw x)

    pub along_batch : (n : ℕ) (r : Cursor) (mid : List ℕ) → SameBase b v c n → length mid ≡ n
        → (1 < n → mid ≡ sums c.base (numbers_of w n (drop (v.second + w * c.rank) b))) → r ≡ next b v (under c (n - 1) c.at)
        → Batch (next b v) c n r (set mid 0 c.at)
    along_batch zero r mid s e o q = let z = s.some in absurd (omega arith)
    along_batch (suc zero) r mid s e o q =
        record {
          cursor = q ∙ ap (next b v) (under_first c) ∙ (unfold stepped_as in refl);
          positions = only mid e ∙ (unfold walked_as in refl);
        }
      where
        only : (mid : List ℕ) → length mid ≡ 1 → set mid 0 c.at ≡ c.at ∷ []
        only [] e = absurd (omega arith)
        only (x ∷ []) e = refl
        only (x ∷ y ∷ ys) e = absurd (omega arith)
    along_batch (suc (suc k)) r mid s e o q =
        let m = suc k in
        let t = s.there (omega arith) in
        let h = s.few in
        let g = t.ranks in
        let l = t.long in
        let at = v.second + w * c.rank in
        let z : suc m - 1 ≡ m = omega arith in
        let y : 0 + m ≡ m = omega arith in
        let a : at ≡ v.second + w * (c.rank + 0) = rw (add-zero c.rank) in
        let room : at + w * suc m ≤ length b = omega (arith, mul-add w c.rank (suc m)) in
        record {
          cursor = q
              ∙ ap (λ (x : ℕ). next b v (under c x c.at)) (z ∙ sym y)
              ∙ sym (stepped_under m 0 c.at c.at (omega arith) (omega arith))
              ∙ ap (λ (x : Cursor). stepped_as (next b v) x (suc m)) (under_first c);
          positions = ap (λ (x : List ℕ). set x 0 c.at) (o (omega arith))
              ∙ first m at
              ∙ sym (walked_under m 0 c.at at (omega arith) (omega arith) a room)
              ∙ ap (λ (x : Cursor). walked_as (next b v) x (suc m)) (under_first c);
        }
      where
        first : (m at : ℕ) → set (sums c.base (numbers_of w (suc m) (drop at b))) 0 c.at ≡ c.at ∷ sums c.base (numbers_of w m (drop (at + w) b))
        first m at = let z : suc m - 1 ≡ m = omega arith in rw (numbers_turn w (suc m) at b (omega arith), z) (unfold sums in refl)

-- ---- one base after the other

rank-stepped : (b : List ℕ) (v : View) (m : ℕ) (c : Cursor) → c.rank + m < 2 ^ 32 → (stepped_as (next b v) c m).rank ≡ c.rank + m
unfolding stepped_as
rank-stepped b v zero c h = sym (add-zero c.rank)
rank-stepped b v (suc m) c h =
    let z : (next b v c).rank ≡ c.rank + 1 = walks.rank b v c ∙ add32-small c.rank 1 (omega arith) in
    rank-stepped b v m (next b v c) (omega arith) ∙ omega arith

pub ahead-some : (there : Bool) (step used : ℕ) → (1 ≤ ahead_of there step used) × (ahead_of there step used ≤ 1 + (step - used))
unfolding ahead_of
ahead-some true step used = (omega arith, omega arith)
ahead-some false step used = (omega arith, omega arith)

-- before the turn of index i, of n ranks in all, that goes to index j
module _ (b : List ℕ) (v : View) (c : Cursor) (there : Bool) (i n j : ℕ) (t : Cut (ahead_of there v.step c.used) i n j)
    (h : there ≡ true → There b v.width v.second c.rank (n - i)) where
  pub same_base : SameBase b v c (j - i)
  same_base =
      let a = t.more in
      let f = t.few in
      let s = (ahead-some there v.step c.used).1 in
      record { some = omega arith; few = omega arith; there = λ g. front g (cases there h (λ e. absurd (never g e))) }
    where
      never : 1 < j - i → there ≡ false → ⊥
      never g e = let f : j - i ≤ 1 = unfold ahead_of in (rw e at t.few) in omega arith

      front : 1 < j - i → There b v.width v.second c.rank (n - i) → There b v.width v.second c.rank (j - i)
      front g y =
          let a = t.more in
          let d = t.inside in
          let r = y.ranks in
          let l = y.long in
          let m : w b v * (c.rank + (j - i)) ≤ w b v * (c.rank + (n - i)) = mul-le-mul (le_refl (w b v)) (omega arith) in
          record { size = y.size; ranks = omega arith; long = omega arith }

  pub there_rest : (r : Cursor) → r ≡ stepped_as (next b v) c (j - i) → there ≡ true → There b v.width v.second r.rank (n - j)
  there_rest r q e =
      let a = t.more in
      let d = t.inside in
      let g = h e in
      let k = g.ranks in
      let l = g.long in
      let x : r.rank ≡ c.rank + (j - i) = ap (λ (y : Cursor). y.rank) q ∙ rank-stepped b v (j - i) c (omega arith) in
      let y : c.rank + (j - i) + (n - j) ≡ c.rank + (n - i) = omega arith in
      record { size = g.size; ranks = rw (x, y) k; long = rw (x, y) l }

-- for any step: a part of the buffer that holds a batch
pub length_whole : (out ys : List ℕ) (i j : ℕ) → i ≤ j → j ≤ length out → length ys ≡ j - i → length (take i out ++ (ys ++ drop (j - i) (drop i out))) ≡ length out
length_whole out ys i j h g e =
    length-append (take i out) (ys ++ drop (j - i) (drop i out))
    ∙ omega (
      arith,
      length-append ys (drop (j - i) (drop i out)),
      length-take-le i out (omega arith),
      length-drop (j - i) (drop i out),
      length-drop i out,
    )

pub part_turn : (f : Cursor → Cursor) (c₀ : Cursor) (n : ℕ) (c r : Cursor) (out ys rest : List ℕ) (i j : ℕ) → i ≤ j → j ≤ n → length out ≡ n
    → Batch f c (j - i) r ys → Partly f c₀ n c out i → Partly f c₀ n r (take i out ++ (ys ++ rest)) j
part_turn f c₀ n c r out ys rest i j h g e d p =
    let q : n - i ≡ (j - i) + (n - j) = omega arith in
    let l : length (take i out ++ ys) ≡ j
    = length-append (take i out) ys ∙ omega (arith, length-take-le i out (omega arith), ap length d.positions ∙ length-walked_as f c (j - i)) in
    let t : take j (take i out ++ (ys ++ rest)) ≡ take i out ++ ys
    = rw (← append_assoc (take i out) ys rest) (take_at (take i out ++ ys) rest j l) in
    let a : walked_as f c (n - i) ≡ ys ++ walked_as f r (n - j) = rw (q, d.positions, d.cursor) (walked_as_add f c (j - i) (n - j)) in
    record {
      cursor = rw d.cursor (sym (stepped_as_add f c (j - i) (n - j))) ∙ rw q at p.cursor;
      positions =
          rw t (append_assoc (take i out) ys (walked_as f r (n - j)))
          ∙ sym (ap (λ (l : List ℕ). take i out ++ l) a)
          ∙ p.positions;
    }
