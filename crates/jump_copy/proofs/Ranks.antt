-- From a rank to one further on: the walk of a search leads where the cursor's steps lead. Assumes nothing.
use Prim.Native.Nat.{ℕ, zero, suc, ◌+◌, ◌-◌, ◌^◌, ◌≤◌, ◌<◌}
use mathlib.Core.Path.{◌≡◌, refl, sym, ap, ◌∙◌}
use mathlib.Core.List.{List}
use Rattle.std.proofs.Common.{Option, None, Some}
use Rattle.std.specs.Option.{ForSome}
use native.Mathlib.Nat.{add-zero}
use native.Mathlib.Numerals.{add-one}
use native.Mathlib.Omega.{arith}
use lib.ListN.{length, get_or}
use Rattle.format.specs.declared.View.{View}
use Rattle.laws.proofs.Bounds.{below_get_or}
use Rattle.parts.specs.declared.Cursor.{Cursor}
use Rattle.parts.specs.Cursor.{stepped_as}
use Rattle.parts.specs.Carried.{Reached}
use Rattle.differences.specs.declared.walk.Place.{Place}
use Rattle.differences.specs.Walk.{walked, Within, Room, Stopped}
use Rattle.differences.proofs.Walked.{room, walked_start, walked_next}
use Rattle.difference_rows.proofs.Follows.{placed, reached, follows}
use Rattle.jump_walk.specs.Held.{Held}
use Rattle.jump_walk.specs.Steps.{next}
use Rattle.jump_walk.proofs.Walks.{next-at, before-all}
use Rattle.jump_walk.proofs.Ahead.{Reaches, reach_next}
use Rattle.jump_copy.proofs.Rows.{Stands, stands}

-- a walk with no target, or with one that no position reaches, comes to the end
pub walk-whole : {w start second : ℕ} {b : List ℕ} {from : Place} {n : ℕ} (target : Option ℕ) {t : Place} → Stopped w start second b from n target t
    → ForSome target (λ p. 2 ^ 50 ≤ p) → t.rank ≡ n
walk-whole None z far = z.all
walk-whole (Some p) z far = z.all (far p refl)

module _ (b : List ℕ) (v : View) (ls : List ℕ) (h : Held b v ls) (c : Cursor) where
  abbrev w : ℕ
  w = v.width

  -- a cursor that has reached a rank stands there
  module _ (n : ℕ) (o : Reached (next b v) v.words c n) (some : 0 < n) where
    pub reached_below : o.rank + n ≤ length ls
    reached_below = let s = h.size in let m = o.most in omega arith

    pub reached_stands : Stands b v ls o.rank c
    reached_stands = let k = reached_below in rw o.steps (stands b v ls h o.rank (omega arith))

  module _ (r : ℕ) (s : Stands b v ls r c) where
    reach_here : Reaches b w v.start v.second ls r (reached c)
    reach_here = record { position = s.at; ahead = rw s.upper at s.exact.ahead.ahead }

    abbrev At : ℕ → Type 0
    At n = Reaches b w v.start v.second ls (r + n) (walked w v.start v.second b r n (reached c))

    reach_none : At 0
    reach_none = rw (add-zero r, ← walked_start w v.start v.second b r (reached c)) reach_here

    reach_suc : (n : ℕ) → r + suc n < length ls → At n → At (suc n)
    reach_suc n k g =
        let t = walked w v.start v.second b r n (reached c) in
        let j = reach_next b w v.start v.second ls (r + n) t g (omega arith) in
        let e : r + n + 1 ≡ r + (n + 1) = omega arith in
        rw (e, walked_next w v.start v.second b r n (reached c) refl refl, add-one n) at j

    reach_on : (n : ℕ) → r + n < length ls → At n
    reach_on zero k = reach_none
    reach_on (suc n) k = let i = reach_on n (omega arith) in reach_suc n k i

    position-small : (i : ℕ) → get_or ls i 0 < 2 ^ 32
    position-small i = below_get_or (2 ^ 32) ls i (omega arith) (before-all b v ls h).below

    -- what the walk asks
    module _ (n : ℕ) (k : r + n < length ls) where
      pub walk-room : Room w v.second b (c.rank + n)
      walk-room =
          let l = h.laid in
          let m = l.cells in
          let o = l.words in
          let z = h.size in
          let e = s.rank in
          room b l.narrow l.wide l.inside (omega arith) (omega arith)

      pub walk-within : Within (c.rank + 1) (reached c)
      walk-within =
          let p = position-small r in
          let q = s.at in
          let l = s.exact.ahead.low in
          let u = s.upper in
          let e = s.rank in
          record { position = omega arith; taken = omega arith }

      -- and where it ends, if that is the rank n ranks on
      module _ (t : Place) (target : Option ℕ) (g : Stopped w v.start v.second b (record { rank = c.rank; reached = reached c }) (c.rank + n) target t)
          (a : t.rank ≡ c.rank + n) where
        there : t.reached ≡ walked w v.start v.second b c.rank n (reached c)
        there =
            let e : t.rank - c.rank ≡ n = omega arith in
            rw e at g.there

        pub walk-taken : t.reached.taken < 2 ^ 32
        walk-taken =
            let i = g.within.taken in
            let m = walk-room.rank in
            let l = h.laid.cells in
            let o = h.laid.words in
            let z = h.size in
            let e = s.rank in
            omega arith

        pub walk-position : t.reached.position < 2 ^ 32
        walk-position =
            let e = there in
            let q = s.rank in
            let p = (reach_on n k).position in
            let i = position-small (r + n) in
            let a : t.reached.position ≡ get_or ls (r + n) 0 = ap (λ x. x.position) e ∙ rw q p in
            omega arith

        pub walk_steps : placed c n t.reached.taken t.reached.position ≡ stepped_as (next b v) c n
        walk_steps =
            let z = walk-room in
            let e = there in
            let f = rw (next-at b v refl z.narrow z.wide, ← e) at (follows w v.start v.second b c n z (rw e at walk-taken)) in
            sym (f.shape ∙ ap (placed c n t.reached.taken) (f.at walk-position))
