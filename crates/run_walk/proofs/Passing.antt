-- A stretch of a run and one step from there, by the numbers that the code assigns. Assumes nothing.
use Rattle.std.proofs.Common.{◌≡◌, ℕ, ◌+◌, ◌-◌, ◌*◌, ◌^◌, ◌<◌, ◌≤◌, List, sym, ◌∙◌, le-ltb}
use Rattle.format.specs.declared.View.{View}
use Rattle.wire.specs.declared.Pair.{Pair}
use Rattle.wire.specs.Wire.{pair_at, add32}
use Rattle.parts.specs.declared.Cursor.{Cursor}
use Rattle.parts.specs.Cursor.{along_run, along_by, stepped_as}
use Rattle.parts.proofs.Steps.{add32-small}
use Rattle.parts.proofs.Along.{past-along}
use Rattle.run_walk.specs.Steps.{entered, next}
use Rattle.run_walk.proofs.Walk.{next-along}

module _ (b : List ℕ) (v : View) (c : Cursor) (k : ℕ) (r : c.rank < 2 ^ 32) (a : c.at + k < 2 ^ 32) (h : k ≤ c.last - c.at) where
  pub in_run : c.at + k < c.last
      → record { rank = add32 (add32 c.rank k) 1; at = c.at + k + 1; next = c.next; last = c.last; used = c.used; base = c.base; empty = c.empty }
      ≡ stepped_as (next b v) c (k + 1)
  unfolding along_run along_by
  in_run l =
      let s = add32-small c.at k a in
      rw (← s) (sym (next-along b v (along_by k c) (rw s l)) ∙ past-along (next b v) (next-along b v) k c r a h)

  pub to_run : (x : Pair) → c.last ≤ c.at + k → x ≡ pair_at (v.start + 8 * c.next) b
      → record {
        rank = add32 (add32 c.rank k) 1;
        at = add32 (add32 (add32 c.rank k) 1) x.second;
        next = add32 c.next 1;
        last = x.first;
        used = c.used;
        base = c.base;
        empty = c.empty;
      }
      ≡ stepped_as (next b v) c (k + 1)
  unfolding next entered along_by
  to_run x l e =
      let s = add32-small c.at k a in
      let o = past-along (next b v) (next-along b v) k c r a h in
      rw (s, le-ltb (c.at + k) c.last l, ← e) at o
