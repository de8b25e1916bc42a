-- One more run of the page: the cursor goes from the end of a run through the next, and the encoder puts out the entry of the one that it has open. Assumes nothing.
use Rattle.std.proofs.Common.{◌≡◌, ℕ, suc, ◌+◌, ◌-◌, ◌*◌, ◌<◌, ◌≤◌, true, List, sym, refl, ap, ◌∙◌, le_refl, arith, le-ltb, lt-ltb}
use Rattle.format.specs.declared.View.{View}
use Rattle.format.specs.Tools.{range}
use Rattle.wire.specs.declared.Pair.{Pair}
use Rattle.wire.specs.Wire.{pair_at, add32}
use Rattle.stores.specs.Put.{put}
use Rattle.parts.specs.declared.Cursor.{Cursor}
use Rattle.parts.specs.declared.Encoder.{Encoder}
use Rattle.parts.specs.Cursor.{along_by, stepped_as}
use Rattle.parts.specs.Encoder.{left_after, run_ends, taken_by, taken_all_by}
use Rattle.parts.specs.Batch.{put_all_by, grown}
use Rattle.parts.proofs.Steps.{add32-small}
use Rattle.parts.proofs.Along.{past-along}
use Rattle.parts.proofs.Taking.{if_more, put_second}
use Rattle.parts.proofs.Grown.{taken-range, put-range}
use Rattle.parts.proofs.Carried.{Cells}
use Rattle.page_walk.specs.Steps.{page_of, entered_by, entered, next_in, next}
use Rattle.page_entries.specs.Coding.{page_entry, pages_coder}
use Rattle.page_walk.proofs.Walk.{next-along}
use Rattle.page_entries.proofs.OneEntry.{pages_entry, pages_turn, lengthens_pages}
use Rattle.page_entries.proofs.RunEnds.{breaks_off}
use Rattle.pages_copy.specs.Page.{cursor_on, encoder_on}

-- the first stored cell of the run of the entry x, where so many ranks are behind the cursor c
abbrev pub first_of : Cursor → Pair → ℕ → ℕ
first_of c x ranks = c.rank + ranks + 1 + (c.empty + x.second)

-- behind so many cells and ranks: the run of the entry x has `count` ranks, and after it there are cells' and ranks'
pub record Begins (c : Cursor) (x : Pair) (cells ranks cells' ranks' count : ℕ) : Type 0 where
  pub away : c.last + cells + 1 < first_of c x ranks
  pub ends : first_of c x ranks + count ≡ c.last + cells' + 1
  pub sum : ranks + count ≡ ranks'
  pub some : 1 ≤ count
  pub below : c.last + cells' < 16777216
  pub low : c.rank + ranks' ≤ c.last + cells'

module _ (c : Cursor) (x : Pair) (cells ranks cells' ranks' count : ℕ) (g : Begins c x cells ranks cells' ranks' count) (t : ℕ) where
  -- ---- the cursor

  module _ (b : List ℕ) (v : View) (page : c.used + t < v.step) (few : c.next + t < 16777216) (read : pair_at (v.second + 8 * (c.next + t)) b ≡ x)
      (last : add32 c.base x.first ≡ c.last + cells') where
    abbrev first_cell : Cursor
    first_cell =
        record {
          rank = c.rank + ranks + 1;
          at = first_of c x ranks;
          next = c.next + suc t;
          last = c.last + cells';
          used = c.used + suc t;
          base = c.base;
          empty = c.empty;
        }

    enters : next b v (cursor_on c cells ranks t) ≡ first_cell
    unfolding next next_in entered entered_by page_of cursor_on
    enters =
        let a = g.ends in
        let z = g.below in
        let o = g.some in
        let r : add32 (c.rank + ranks) 1 ≡ c.rank + ranks + 1 = add32-small _ _ (omega arith) in
        let e : add32 c.empty x.second ≡ c.empty + x.second = add32-small _ _ (omega arith) in
        let p : add32 (c.rank + ranks + 1) (c.empty + x.second) ≡ first_of c x ranks = add32-small _ _ (omega arith) in
        let n : add32 (c.next + t) 1 ≡ c.next + suc t = add32-small _ _ (omega arith) ∙ omega arith in
        let u : c.used + t + 1 ≡ c.used + suc t = omega arith in
        rw (le-ltb (c.last + cells) (c.last + cells) (le_refl _), lt-ltb (c.used + t) v.step page, read, r, e, p, n, last, u)

    along : along_by (count - 1) first_cell ≡ cursor_on c cells' ranks' (suc t)
    unfolding along_by cursor_on
    along =
        let a = g.ends in
        let z = g.below in
        let o = g.some in
        let q = g.sum in
        let l = g.low in
        let r : add32 (c.rank + ranks + 1) (count - 1) ≡ c.rank + ranks' = add32-small _ _ (omega arith) ∙ omega arith in
        let p : add32 (first_of c x ranks) (count - 1) ≡ c.last + cells' = add32-small _ _ (omega arith) ∙ omega arith in
        rw (r, p)

    pub in_cells : (n : ℕ) → ranks' ≤ n → Cells (next b v (cursor_on c cells ranks t)) count (n - ranks)
    in_cells n h =
        let a = g.ends in
        let o = g.some in
        let q = g.sum in
        rw enters (record { most = omega arith; some = o; in_run = λ z. omega arith })

    pub begins-at : (next b v (cursor_on c cells ranks t)).at ≡ first_of c x ranks
    begins-at = ap (λ (y : Cursor). y.at) enters

    pub stepped : next b v (cursor_on c cells' ranks' (suc t)) ≡ stepped_as (next b v) (next b v (cursor_on c cells ranks t)) count
    stepped =
        let a = g.ends in
        let z = g.below in
        let o = g.some in
        let q = g.sum in
        let l = g.low in
        let one : count - 1 + 1 ≡ count = omega arith in
        rw (enters, ← along) (rw one at (past-along (next b v) (next-along b v) (count - 1) first_cell (omega arith) (omega arith) (omega arith)))

  -- ---- the encoder, in a page of s that takes l more entries, and l' after the next

  module _ (s : ℕ) (e : Encoder) (l l' : ℕ) (some : 1 ≤ e.rank) (same : e.last ≡ c.last) (left : l' ≡ left_after s l) (more : 1 ≤ l') where
    abbrev now : Encoder
    now = encoder_on e cells ranks t l

    ends : run_ends now (first_of c x ranks) ≡ true
    unfolding encoder_on
    ends = let a = g.away in breaks_off now (first_of c x ranks) (omega arith) (λ z. omega arith)

    grown_on : encoder_on e cells' ranks' (suc t) l' ≡ grown (taken_by (pages_coder s) now (first_of c x ranks)) (count - 1)
    unfolding encoder_on grown
    grown_on =
        let a = g.ends in
        let o = g.some in
        let q = g.sum in
        let z : l' ≡ 0 → ⊥ = λ h. omega arith in
        let turn = pages_turn s now (first_of c x ranks) l' e.cells e.empty ends left (sym (if_more l' _ e.cells z)) (sym (if_more l' _ e.empty z)) in
        let r : e.rank + ranks + 1 + (count - 1) ≡ e.rank + ranks' = omega arith in
        let p : first_of c x ranks + (count - 1) ≡ e.last + cells' = omega arith in
        let n : e.second + 8 * t + 8 ≡ e.second + 8 * suc t = omega arith in
        rw (← turn, r, p, n)

    pub taken : encoder_on e cells' ranks' (suc t) l' ≡ taken_all_by (pages_coder s) now (range (first_of c x ranks) count)
    taken = let o = g.some in grown_on ∙ taken-range (pages_coder s) (lengthens_pages s) now (first_of c x ranks) count (count - 1) (omega arith)

    pub put_entry : (d : List ℕ) → put d (e.second + 8 * t) (page_entry now) ≡ put_all_by (pages_coder s) d now (range (first_of c x ranks) count)
    unfolding pages_coder encoder_on
    put_entry d =
        let o = g.some in
        put_second (pages_coder s) d now (first_of c x ranks) (page_entry now) refl (pages_entry s now (first_of c x ranks) ends)
        ∙ put-range (pages_coder s) (lengthens_pages s) now (first_of c x ranks) count (count - 1) (omega arith) d
