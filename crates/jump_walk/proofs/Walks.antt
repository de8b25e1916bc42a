-- The cursor's steps go from position to position. Assumes nothing.
use Rattle.std.proofs.Common.{◌≡◌, ℕ, ◌+◌, ◌*◌, ◌^◌, ◌≤◌, eqb, List, ◌∷◌, length, sym, ap, ◌∙◌, arith}
use Rattle.format.specs.declared.View.{View}
use Rattle.format.specs.Tools.{Below}
use Rattle.format.specs.Bytes.{field}
use Rattle.laws.proofs.Tools.{cases}
use Rattle.laws.proofs.Bounds.{below-rising, below_widen}
use Rattle.wire.specs.Wire.{whole, entry_size, add32}
use Rattle.wire.proofs.Laws.{entry_of_lem}
use Rattle.parts.specs.declared.Cursor.{Cursor}
use Rattle.parts.specs.Cursor.{before, moved_to, entry_of, walked_as}
use Rattle.parts.proofs.Steps.{add32-small, upper, RanksFit, upper_next, ranks_rest, kept-walk}
use Rattle.differences.specs.declared.walk.Reached.{Reached}
use Rattle.differences.specs.Walk.{step_by, stepped}
use Rattle.difference_rows.specs.Steps.{jump_from, jump_by, next_at}
use Rattle.jump_walk.specs.Steps.{next}
use Rattle.jump_walk.specs.Held.{Held}
use Rattle.jump_walk.proofs.Ahead.{Ahead, turned, there, ahead}

-- a step goes on by one rank
pub next-rank : (b : List ℕ) (v : View) (c : Cursor) → (next b v c).rank ≡ add32 c.rank 1
unfolding next jump_by jump_from moved_to
next-rank b v c = cases (eqb (entry_of b v (add32 c.rank 1)) 0) (λ e. rw e) (λ e. rw e)

-- the step by a view is that by its places, where the width is 1 or 2
pub next-at : (b : List ℕ) (v : View) {w : ℕ} → v.width ≡ w → 1 ≤ w → w ≤ 2 → next_at w v.start v.second b ≡ next b v
unfolding next_at next entry_of
next-at b v {w} e h k =
    ap {B = Cursor → Cursor} (λ (x : ℕ). λ c. jump_by b v.start (whole x (v.second + x * add32 c.rank 1) b) c) (sym (ap entry_size e ∙ entry_of_lem w h k))

-- the cursor before the positions ls
pub record AheadOf (b : List ℕ) (v : View) (c : Cursor) (ls : List ℕ) : Type 0 where
  pub below : Below (2 ^ 32) ls
  pub ranks : RanksFit c ls
  pub low : c.next ≤ upper c
  pub ahead : Ahead b v.width v.start v.second (upper c) (record { position = c.at; taken = c.next }) ls

module _ (b : List ℕ) (v : View) (narrow : 1 ≤ v.width) (wide : v.width ≤ 2) (c : Cursor) (p : ℕ) (ls : List ℕ) where
  -- one step further
  pub turn : AheadOf b v c (p ∷ ls) → ((next b v c).at ≡ p) × AheadOf b v (next b v c) ls
  unfolding next jump_by jump_from moved_to entry_of stepped step_by
  turn a =
      let w = v.width in
      let s : Reached = record { position = c.at; taken = c.next } in
      let t = turned b w v.start v.second (upper c) s p ls a.ahead in
      let d = field w (v.second + w * upper c) b in
      let e : whole (entry_size w) (v.second + entry_size w * upper c) b ≡ d
      = rw (entry_of_lem w narrow wide) (there b w v.start v.second (upper c) s p ls a.ahead) in
      let n = a.ranks in
      let l = a.low in
      let f = a.below.0 in
      let r = upper_next c p ls n in
      cases (eqb d 0)
      (λ z.
      let m : add32 c.next 1 ≡ c.next + 1 = add32-small c.next 1 (omega arith) in
      let t0 = rw z at t.0 in
      let t1 = rw z at t.1 in
      rw (e, z, m) (t0, record { below = a.below.1; ranks = ranks_rest c p ls n; low = rw r (omega arith); ahead = rw r t1 }))
      (λ z.
      let t0 = rw z at t.0 in
      let t1 = rw z at t.1 in
      let m : add32 c.at d ≡ c.at + d = add32-small c.at d (omega arith) in
      rw (e, z, m) (t0, record { below = a.below.1; ranks = ranks_rest c p ls n; low = rw r (omega arith); ahead = rw r t1 }))

-- before rank 0 all stand ahead
pub before-all : (b : List ℕ) (v : View) (ls : List ℕ) → Held b v ls → AheadOf b v before ls
unfolding add32
before-all b v ls h =
    let z = h.laid in
    let m = z.cells in
    let k = z.words in
    let n = h.size in
    record {
      below = below_widen v.cells (2 ^ 32) ls (omega arith) (below-rising 0 v.cells ls h.rising);
      ranks = omega arith;
      low = omega arith;
      ahead = ahead b v ls h 4294967295;
    }

pub walk_held : (b : List ℕ) (v : View) (ls : List ℕ) → Held b v ls → walked_as (next b v) (next b v before) (length ls) ≡ ls
walk_held b v ls h =
    let z = h.laid in
    kept-walk (next b v) (AheadOf b v) (turn b v z.narrow z.wide) ls before (before-all b v ls h)
