-- The places that a search starts from, and what the searches answer. Assumes nothing.
use Prim.Native.Nat.{ℕ, ◌+◌, ◌-◌, ◌*◌, ◌≤◌, ◌<◌, min}
use mathlib.Core.Path.{◌≡◌, refl, sym, ap, ap₂, ◌∙◌}
use mathlib.Core.Bool.{Bool, true, false, not, true≢false}
use mathlib.Core.List.{List}
use Rattle.std.proofs.Common.{Option}
use native.Mathlib.Nat.{min-eq_left, sub-zero, pos_of_ne-zero}
use native.Mathlib.Omega.{arith}
use lib.ListN.{get_or}
use lib.Dec.{leb}
use borrow.Author.Tests.{leb-true, leb-false}
use Rattle.format.specs.declared.View.{View}
use Rattle.format.specs.Tools.{up_to}
use Rattle.format.specs.Codec.{Codec}
use Rattle.format.specs.PointedJumps.{pointed_kind}
use Rattle.laws.proofs.Tools.{cases}
use Rattle.laws.proofs.Bounds.{index_inside, inside_index}
use Rattle.wire.specs.Wire.{whole}
use Rattle.parts.specs.declared.Found.{Found}
use Rattle.parts.specs.Found.{FoundIn, PositionIn}
use Rattle.parts.specs.Holds.{Holds}
use Rattle.parts.specs.Last.{LastAtMost}
use Rattle.parts.proofs.Places.{rising_lt, found_gap}
use Rattle.differences.specs.declared.walk.Place.{Place}
use Rattle.differences.specs.Walk.{origin, Within, Stopped, JumpAfter}
use Rattle.differences.proofs.Walked.{walked_start, walked_further}
use Rattle.jump_walk.specs.Width.{OfWidth}
use Rattle.jump_walk.specs.Held.{FoundFrom}
use Rattle.jump_walk.proofs.Found.{width, walk-position}
use Rattle.pointed_jumps.specs.Search.{Searchable, AtJump, Placed, OfJump}
use Rattle.pointed_jumps.proofs.Held.{Pointed, pointed}
use Rattle.pointed_jumps.proofs.Ranks.{JumpAt, rank_of, jump_there, ranks_le, first-rank, some_jump, jumps_ascend, pointer_is, jump_reached, zeros_between}

-- a pointer's jump is one of the jumps
pub pointer_jump : (v : View) {n k : ℕ} → n ≡ up_to v.firsts v.step → 1 ≤ v.step → 0 < v.firsts → (0 < n → k < n) → k * v.step < v.firsts
pointer_jump v {n} {k} e s f h =
    let z : 0 < n = rw e (inside_index v.step v.firsts 0 s (omega arith)) in
    index_inside v.step v.firsts k s (rw e at (h z))

-- rank 0 where there is no room for jump j at r
pub first-at : (b : List ℕ) (v : View) (r j most : ℕ) (t : Place) → t.rank ≡ 0 → t.reached ≡ origin v.start b → Within 1 t.reached
    → (r ≤ most → j ≤ r → ⊥) → AtJump b v r j most t
first-at b v r j most t n e w never =
    record {
      rank = omega arith;
      within = rw n w;
      there = λ x y. absurd (never x y);
      first = λ x. ap₂ (λ a c. record { rank = a; reached = c }) n e;
    }

module _ (b : List ℕ) (v : View) (w : ℕ) where
  abbrev K : Codec
  K = pointed_kind v.width v.step

  -- over right parts r is the rank of jump j
  abbrev RankOf : ℕ → ℕ → Type 0
  RankOf j r = (ls : List ℕ) (h : Pointed b v ls) → v.width ≡ w → r ≡ rank_of b v ls h j

  -- ---- the rank that a pointer leads to

  module _ (k q : ℕ) (g : q ≡ whole 4 (v.second + w * v.words + 4 * k) b) where
    -- it is that of the pointer's own jump
    pub pointer_rank : k * v.step < v.firsts → RankOf (k * v.step) q
    pointer_rank i ls h e = rw (g, ← e) (pointer_is b v ls h k i)

    -- and that of a jump after it
    pub after-rank : (j r : ℕ) → k * v.step ≤ j → j < v.firsts
        → JumpAfter w v.second b (min q (v.words - 1)) (j - k * v.step) (v.words - 1) r → RankOf j r
    after-rank j r i o x ls h e =
        let y = pointer_rank (omega arith) ls h e in
        let z = jump_there b v ls h (k * v.step) (omega arith) in
        let u = jump_there b v ls h j o in
        let n = ranks_le b v ls h (k * v.step) j i o in
        let c = u.rank in
        let m : min q (v.words - 1) ≡ q = min-eq_left (omega arith) in
        let s = zeros_between b v ls j _ u (k * v.step) _ z n in
        (rw (m, y, ← e) at x).found (rank_of b v ls h j) n (omega arith) s (λ p. u.zero)

  -- ---- a place

  module _ (r j most : ℕ) (t : Place) (a : AtJump b v r j most t) (o : j < v.firsts) (f : RankOf j r) where
    jump_at : (ls : List ℕ) → Pointed b v ls → v.width ≡ w → JumpAt b v ls j r
    jump_at ls h e = rw (f ls h e) (jump_there b v ls h j o)

    pub placed : Placed b v w most t
    placed =
        record {
          rank = a.rank;
          within = a.within;
          right = λ ls z e.
              let h = pointed b v ls z in
              let g = jump_at ls h e in
              cases (leb r most)
              (λ x. rw (a.there (leb-true r most x) g.least, ← e) (jump_reached b v ls h j r g))
              (λ x. rw (a.first (leb-false r most x)) (walked_start w v.start v.second b 0 (origin v.start b)));
        }

    module _ (m : most ≡ v.words - 1) where
      is_there : (ls : List ℕ) → Pointed b v ls → v.width ≡ w
          → t ≡ record { rank = r; reached = record { position = whole 4 (v.start + 4 * j) b; taken = j + 1 } }
      is_there ls h e = let g = jump_at ls h e in let k = g.rank in a.there (omega arith) g.least

      pub of_jump : OfJump b v w j t
      of_jump =
          record {
            position = λ ls z e. ap (λ (x : Place). x.reached.position) (is_there ls (pointed b v ls z) e);
            first = λ ls z e i.
                let h = pointed b v ls z in
                let k = (jump_at ls h e).rank in
                ap (λ (x : Place). x.rank) (is_there ls h e) ∙ f ls h e ∙ ap (rank_of b v ls h) i ∙ first-rank b v ls h (omega arith);
          }

  -- ---- what is searchable

  searchable_held : (ls : List ℕ) → Pointed b v ls → v.width ≡ w → 0 < v.words → Searchable b v w
  searchable_held ls h e n =
      record { words = n; jumps = some_jump b v ls h n; step = h.step; inside = rw e at h.held.laid.inside }

  module _ (ew : OfWidth v w) where
    -- the test for it fails
    module _ {t : Bool} (f : not t ≡ true) (yes : Searchable b v w → t ≡ true) where
      never : Searchable b v w → ⊥
      never s = true≢false (sym (rw (yes s) at f))

      -- nothing is found
      pub none : (p : ℕ) → FoundIn K b v p (record { below = 0; here = false })
      none p = record {
        right = λ ls z.
            let h = pointed b v ls z in
            let m = h.held.size in
            let s : 0 < v.words → ⊥ = λ n. never (searchable_held ls h (width b v w ls h.held ew) n) in
            found_gap v.cells p ls h.held.rising 0 (omega arith) (λ i. absurd (omega arith)) (λ i. absurd (s (omega arith))) _ refl refl;
        free = λ e. absurd (true≢false (sym e));
      }

      pub no_position : (r : ℕ) → PositionIn K b v r 0
      no_position r =
          record {
            right = λ ls z n.
                let h = pointed b v ls z in
                absurd (never (searchable_held ls h (width b v w ls h.held ew) (omega arith)));
          }

    -- a walk from a place on reaches the position of rank r
    pub position-found : (from : Place) (r : ℕ) (target : Option ℕ) (t : Place) → Placed b v w r from → r < v.words
        → Stopped w v.start v.second b from r target t → t.rank ≡ r → PositionIn K b v r t.reached.position
    position-found from r target t a k z q =
        record {
          right = λ ls x m.
              let h = pointed b v ls x in
              let e = width b v w ls h.held ew in
              let l = a.rank in
              let n : from.rank + (t.rank - from.rank) - 0 ≡ r = omega arith in
              let start = rw (← sub-zero from.rank) at (a.right ls x e) in
              walk-position b v w ls h.held e r t.reached k
              (rw n at (walked_further w v.start v.second b 0 from.rank (t.rank - from.rank) (origin v.start b) (omega arith) start z.there));
        }

    -- the place of p is found from jump j on, the last that is not above it
    pub found_after : (from : Place) (j p : ℕ) (f : Found) → 0 < v.words → Placed b v w (v.words - 1) from → OfJump b v w j from
        → LastAtMost (λ i. whole 4 (v.start + 4 * i) b) v.firsts p j → FoundFrom b v w from p f → FoundIn K b v p f
    found_after from j p f n a c l g =
        record {
          right = λ ls z.
              let h = pointed b v ls z in
              let e = width b v w ls h.held ew in
              g.right ls h.held e (a.right ls z e) (before ls z h e);
          free = g.free;
        }
      where
        before : (ls : List ℕ) → Holds K b v ls → Pointed b v ls → v.width ≡ w → 1 ≤ from.rank → get_or ls (from.rank - 1) 0 < p
        before ls z h e i =
            let k = a.rank in
            let m = h.held.size in
            let s = walk-position b v w ls h.held e from.rank from.reached (omega arith) (a.right ls z e) in
            let x = c.position ls z e in
            let y : 0 < j = pos_of_ne-zero (λ y. let q = c.first ls z e y in omega arith) in
            let d = l.low (jumps_ascend b v ls h) y in
            let u = rising_lt 0 v.cells ls (from.rank - 1) from.rank h.held.rising (omega arith) (omega arith) in
            omega arith
