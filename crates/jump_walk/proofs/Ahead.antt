-- What stands ahead of a walk, and that each step keeps it: for the searches, and for the cursor. Assumes nothing.
use Rattle.std.proofs.Common.{◌≡◌, ℕ, zero, suc, ◌+◌, ◌*◌, ◌<◌, List, [], ◌∷◌, length, get_or, drop, refl, ◌∙◌, add-zero, add-one, arith, drop-cons, ne_eqb}
use Rattle.format.specs.declared.View.{View}
use Rattle.format.specs.Bytes.{field}
use Rattle.format.specs.Jumps.{differences_from, differences, jumps_of, jumps, jumped_from, jumped_positions}
use Rattle.laws.proofs.Stored.{Rising}
use Rattle.laws.proofs.Bounds.{length-differences}
use Rattle.laws.proofs.Positions.{jumps-back}
use Rattle.wire.specs.Wire.{whole}
use Rattle.parts.proofs.Entries.{Entries, first_field, first_entry, rest_entries}
use Rattle.differences.specs.declared.walk.Reached.{Reached}
use Rattle.differences.specs.Walk.{step_by, stepped, walked, origin}
use Rattle.jump_walk.specs.Held.{Held}

-- s is reached, and the ranks from r on have the positions ls and the differences ds
pub record Ahead (b : List ℕ) (w start second r : ℕ) (s : Reached) (ls : List ℕ) : Type 0 where
  pub ds : List ℕ
  pub same : length ds ≡ length ls
  pub jumped : jumped_from s.position (jumps_of ds ls) ds ≡ ls
  pub jumps : Entries b 4 start s.taken (jumps_of ds ls)
  pub differences : Entries b w second r ds

module _ (b : List ℕ) (w start second r : ℕ) (s : Reached) (p : ℕ) (ls : List ℕ) where
  turned_by : (ds : List ℕ) → length ds ≡ suc (length ls) → jumped_from s.position (jumps_of ds (p ∷ ls)) ds ≡ p ∷ ls
      → Entries b 4 start s.taken (jumps_of ds (p ∷ ls)) → Entries b w second r ds
      → ((stepped w start second b r s).position ≡ p) × Ahead b w start second (suc r) (stepped w start second b r s) ls
  unfolding stepped step_by jumped_from jumps_of
  turned_by [] n j js es = absurd (omega arith)
  turned_by (zero ∷ ds) n j js es =
      let g : whole 4 (start + 4 * s.taken) b ≡ p = first_entry b 4 start s.taken p _ js in
      rw (first_field b w second r 0 ds es, g, add-one s.taken) (
        refl,
        record {
          ds = ds;
          same = omega arith;
          jumped = (cc);
          jumps = rest_entries b 4 start s.taken p _ js;
          differences = rest_entries b w second r 0 ds es;
        },
      )
  turned_by (suc d ∷ ds) n j js es =
      let x : s.position + suc d ≡ p = cc in
      let y : jumped_from (s.position + suc d) (jumps_of ds ls) ds ≡ ls = cc in
      rw (first_field b w second r (suc d) ds es, ne_eqb (suc d) 0 (λ z. omega arith), x) (
        refl,
        record { ds = ds; same = omega arith; jumped = rw x at y; jumps = js; differences = rest_entries b w second r (suc d) ds es },
      )

  module _ (a : Ahead b w start second r s (p ∷ ls)) where
    -- the next step leads to the next position
    pub turned : ((stepped w start second b r s).position ≡ p) × Ahead b w start second (suc r) (stepped w start second b r s) ls
    turned = turned_by a.ds a.same a.jumped a.jumps a.differences

    -- and its difference is there
    pub there : whole w (second + w * r) b ≡ field w (second + w * r) b
    there = go a.ds a.same a.differences
      where
        go : (ds : List ℕ) → length ds ≡ suc (length ls) → Entries b w second r ds → whole w (second + w * r) b ≡ field w (second + w * r) b
        go [] n es = absurd (omega arith)
        go (d ∷ ds) n es = let f = first_field b w second r d ds es in first_entry b w second r d ds es ∙ (cc)

-- ---- before rank 0

-- the first difference is a jump, whatever stood before
jumps-first : (w at B : ℕ) (ls : List ℕ) → Rising 0 B ls → jumped_from at (jumps w ls) (differences w ls) ≡ ls
jumps-first w at B [] r = unfold jumped_from differences in refl
jumps-first w at B (p ∷ ls) r = unfold jumped_from jumped_positions jumps_of jumps differences in jumps-back w 0 B (p ∷ ls) r

module _ (b : List ℕ) (v : View) (ls : List ℕ) (h : Held b v ls) where
  pub ahead : (at : ℕ) → Ahead b v.width v.start v.second 0 (record { position = at; taken = 0 }) ls
  unfolding jumps
  ahead at =
      record {
        ds = differences v.width ls;
        same = length-differences v.width ls;
        jumped = jumps-first v.width at v.cells ls h.rising;
        jumps = h.jumps;
        differences = h.differences;
      }

-- ---- a search at rank r

pub record Reaches (b : List ℕ) (w start second : ℕ) (ls : List ℕ) (r : ℕ) (s : Reached) : Type 0 where
  pub position : s.position ≡ get_or ls r 0
  pub ahead : Ahead b w start second (suc r) s (drop (suc r) ls)

module _ (b : List ℕ) (w start second : ℕ) (ls : List ℕ) where
  pub reach_next : (r : ℕ) (s : Reached) → Reaches b w start second ls r s → r + 1 < length ls
      → Reaches b w start second ls (r + 1) (stepped w start second b (r + 1) s)
  reach_next r s g h =
      let k : suc r < length ls = omega arith in
      let a = rw (drop-cons ls (suc r) 0 k) at g.ahead in
      let t = turned b w start second (suc r) s (get_or ls (suc r) 0) (drop (suc (suc r)) ls) a in
      rw (add-one r) (record { position = t.0; ahead = t.1 })

  -- n ranks on from rank q
  pub reach_walk : (q : ℕ) (s : Reached) → Reaches b w start second ls q s → (n : ℕ) → q + n < length ls
      → Reaches b w start second ls (q + n) (walked w start second b q n s)
  unfolding walked
  reach_walk q s g zero h = rw (add-zero q) g
  reach_walk q s g (suc n) h =
      let i = reach_walk q s g n (omega arith) in
      let e : q + suc n ≡ q + n + 1 = omega arith in
      rw e (reach_next (q + n) (walked w start second b q n s) i (omega arith))

pub reach_start : (b : List ℕ) (v : View) (ls : List ℕ) → Held b v ls → 0 < length ls
    → Reaches b v.width v.start v.second ls 0 (origin v.start b)
reach_start b v [] h k = absurd (omega arith)
reach_start b v (l ∷ ls) h k =
    let w = v.width in
    let t = turned b w v.start v.second 0 (record { position = 0; taken = 0 }) l ls (ahead b v (l ∷ ls) h 0) in
    let e : stepped w v.start v.second b 0 (record { position = 0; taken = 0 }) ≡ origin v.start b
    = unfold stepped step_by in rw (first_field b w v.second 0 0 (differences_from w l ls) (unfold differences in h.differences), add-zero v.start) in
    record { position = rw e at t.0; ahead = rw e at t.1 }
