-- Kind 5: what a position adds by the tests that the code makes, the encoder after it, and the end. Assumes nothing.
use Prim.Native.Nat.{ℕ, ◌+◌, ◌-◌}
use mathlib.Core.Path.{◌≡◌, refl}
use mathlib.Core.Bool.{true, false}
use mathlib.Core.List.{List, []}
use native.Mathlib.Nat.{add-zero}
use native.Mathlib.Omega.{arith}
use lib.ListN.{length}
use Rattle.laws.proofs.Tools.{cases}
use Rattle.stores.specs.Put.{put}
use Rattle.stores.proofs.Laws.{length-pair, put_nil}
use Rattle.parts.specs.declared.Encoder.{Encoder}
use Rattle.parts.specs.Encoder.{if_zero, unchanged, left_after, run_ends, taken_by, ended_by}
use Rattle.parts.specs.Ready.{Next, Keeps, moved}
use Rattle.parts.proofs.Taking.{if_zero_lem, if_more, if_le, pick-most, taken-moved}
use Rattle.parts.proofs.Sounds.{Kept, ends_some, sound_by}
use Rattle.parts.proofs.Grown.{Lengthens}
use Rattle.page_entries.specs.Coding.{page_entry, paged, pages_coder}

pub length_entry : (e : Encoder) → length (page_entry e) ≡ 8
unfolding page_entry
length_entry e = length-pair (e.last + 1 - e.cells) (e.last + 1 - e.rank - e.empty)

module _ (b : ℕ) (e : Encoder) (p : ℕ) where
  pub pages_entry : run_ends e p ≡ true → (pages_coder b).second e p ≡ page_entry e
  unfolding pages_coder
  pages_entry t = rw t

  pub pages_none : run_ends e p ≡ false → (pages_coder b).second e p ≡ []
  unfolding pages_coder
  pages_none t = rw t

  pub pages_on : run_ends e p ≡ false → moved e p e.first e.second ≡ taken_by (pages_coder b) e p
  pages_on t =
      taken-moved e p (pages_coder b) e.first e.second (unfold pages_coder in rw t)
      (unfold pages_coder in add-zero e.first) (rw (pages_none t) (add-zero e.second))

  -- the page after a run's entry
  pub pages_turn : (left cells empty : ℕ) → run_ends e p ≡ true → left ≡ left_after b e.left → cells ≡ if_zero left (e.last + 1) e.cells
      → empty ≡ if_zero left (e.last + 1 - e.rank) e.empty
      → ◌≡◌ {A = Encoder}
      (record {
        rank = e.rank + 1;
        last = p;
        left = left;
        base = e.base;
        cells = cells;
        empty = empty;
        first = e.first;
        second = e.second + 8;
        fits = e.fits;
      })
      (taken_by (pages_coder b) e p)
  unfolding taken_by pages_coder paged
  pages_turn left cells empty t l c m = rw (t, c, m, l, length_entry e, add-zero e.first)

  kept_pages : Next e p → Kept (pages_coder b) e p
  unfolding pages_coder paged unchanged
  kept_pages n =
      let s = n.sound in
      let first = pick-most (run_ends e p) (page_entry e) 8 (omega (arith, length_entry e)) in
      cases (run_ends e p)
      (λ t.
      let u = ends_some e p t in
      let c = if_le (left_after b e.left) (e.last + 1) e.cells 0 (p + 1) (omega arith) (omega arith) in
      let m = if_le (left_after b e.left) (e.last + 1 - e.rank) e.empty e.rank p (omega arith) (omega arith) in
      record { first = omega arith; second = first; base = rw t (omega arith); cells = rw t (omega arith); empty = rw t m })
      (λ t. record { first = omega arith; second = first; base = rw t (omega arith); cells = rw t (omega arith); empty = rw t (omega arith) })

  pub pages_fit : ((pages_coder b).inside e p).fits ≡ e.fits
  unfolding pages_coder paged unchanged
  pages_fit = cases (run_ends e p) (λ t. rw t) (λ t. rw t)

pub keeps_pages : (b : ℕ) → Keeps (pages_coder b)
keeps_pages b = sound_by (pages_coder b) (kept_pages b)

pub lengthens_pages : (b : ℕ) → Lengthens (pages_coder b)
unfolding pages_coder
lengthens_pages b = record { first = λ e p t. refl; second = pages_none b; on = pages_on b }

-- ---- the end

module _ (b : ℕ) (e : Encoder) where
  pub end_none : e.rank ≡ 0 → (pages_coder b).end_second e ≡ []
  unfolding pages_coder
  end_none h = if_zero_lem e.rank [] (page_entry e) h

  pub end_entry : (e.rank ≡ 0 → ⊥) → (pages_coder b).end_second e ≡ page_entry e
  unfolding pages_coder
  end_entry h = if_more e.rank [] (page_entry e) h

  pub ended_at : (g : ℕ) → e.second + length ((pages_coder b).end_second e) ≡ g
      → ◌≡◌ {A = Encoder}
      (record {
        rank = e.rank;
        last = e.last;
        left = e.left;
        base = e.base;
        cells = e.cells;
        empty = e.empty;
        first = e.first;
        second = g;
        fits = e.fits;
      })
      (ended_by (pages_coder b) e)
  unfolding ended_by
  ended_at g h = rw h (unfold pages_coder in rw (add-zero e.first))

  pub end-put : (d x : List ℕ) → (pages_coder b).end_second e ≡ x
      → put d e.second x ≡ put (put d e.first ((pages_coder b).end_first e)) e.second ((pages_coder b).end_second e)
  end-put d x h = let n : put d e.first ((pages_coder b).end_first e) ≡ d = unfold pages_coder in put_nil d e.first in rw (n, h)
