-- The entries ahead of the cursor, where they are all there. Assumes nothing.
use Rattle.std.proofs.Common.{◌≡◌, ℕ, ◌+◌, ◌-◌, ◌*◌, ◌<◌, ◌≤◌, List, length, set, ap, ◌∙◌, arith}
use Rattle.format.specs.declared.View.{View}
use Rattle.format.specs.Bytes.{field}
use Rattle.wire.specs.Wire.{whole, add32}
use Rattle.wire.proofs.Laws.{whole-there}
use Rattle.parts.specs.declared.Cursor.{Cursor}
use Rattle.parts.specs.Cursor.{moved_to, Batch}
use Rattle.parts.proofs.Steps.{add32-small}
use Rattle.parts.proofs.Batches.{stand, stand_first, Partly, batch_start, batch_turn, batch_end}
use Rattle.positions.specs.Steps.{next, There}

-- the step by the first part's place, which is told by that of the cursor's entry
unfoldable pub next_by : List ℕ → Cursor → ℕ → Cursor → Cursor
next_by b c place d = moved_to (whole 4 (place - 4 * c.rank + 4 * add32 d.rank 1) b) d

-- i ranks further than c, whose entry stands at a place
abbrev pub stand_at : List ℕ → Cursor → ℕ → ℕ → Cursor
stand_at b c place i = stand c i (field 4 (place + 4 * i) b)

module _ (b : List ℕ) (v : View) (c : Cursor) (n : ℕ) (t : There b v c n) where
  abbrev place : ℕ
  place = v.start + 4 * c.rank

  next_by_lem : next_by b c place ≡ next b v
  unfolding next_by next
  next_by_lem =
      let e : place - 4 * c.rank ≡ v.start = omega arith in
      ap {B = Cursor → Cursor} (λ (s : ℕ). λ d. moved_to (whole 4 (s + 4 * add32 d.rank 1) b) d) e

  stand_next : (i p : ℕ) → i < n → stand_at b c place (i + 1) ≡ next b v (stand c i p)
  unfolding next moved_to
  stand_next i p h =
      let long = t.long in
      let ranks = t.ranks in
      let r : add32 (c.rank + i) 1 ≡ c.rank + (i + 1) = add32-small (c.rank + i) 1 (omega arith) ∙ omega arith in
      let e : place + 4 * (i + 1) ≡ v.start + 4 * (c.rank + (i + 1)) = omega arith in
      rw (r, e, whole-there 4 (v.start + 4 * (c.rank + (i + 1))) b (omega arith))

  pub ahead_turn : (i p : ℕ) (out : List ℕ) → i < length out → length out ≡ n → Partly (next_by b c place) c n (stand c i p) out i
      → Partly (next_by b c place) c n (stand_at b c place (i + 1)) (set out i p) (i + 1)
  ahead_turn i p out h l g =
      rw next_by_lem (batch_turn (next b v) c n (stand c i p) (stand_at b c place (i + 1)) out i h l (stand_next i p (omega arith)) (rw next_by_lem at g))

  -- the first element is the cursor's own position
  pub ahead_start : (out : List ℕ) → 0 < length out → length out ≡ n → Partly (next_by b c place) c n (stand_at b c place 1) (set out 0 c.at) 1
  ahead_start out h l = ahead_turn 0 c.at out h l (rw (stand_first c) (batch_start _ _ _ _))

  pub ahead-end : (i : ℕ) (out : List ℕ) → length out ≤ i → length out ≡ n → Partly (next_by b c place) c n (stand_at b c place i) out i
      → Batch (next b v) c n (stand_at b c place i) out
  ahead-end i out h l g = batch_end (next b v) c n (stand_at b c place i) out i h l (rw next_by_lem at g)
