-- The entries of a page copied, one run after the other, into an encoder that has the cursor's run open. Assumes nothing.
use Rattle.std.proofs.Common.{◌≡◌, ℕ, zero, suc, ◌+◌, ◌-◌, ◌*◌, ◌%◌, ◌^◌, ◌<◌, ◌≤◌, List, length, sym, ap, ◌∙◌, ap₂, arith}
use native.Mathlib.Nat.{sub-zero}
use Rattle.format.specs.declared.View.{View}
use Rattle.stores.specs.Put.{pair}
use Rattle.parts.specs.declared.Cursor.{Cursor}
use Rattle.parts.specs.declared.Encoder.{Encoder}
use Rattle.wire.specs.Wire.{add32}
use Rattle.parts.specs.Cursor.{walked_as}
use Rattle.parts.specs.Encoder.{if_zero, left_after}
use Rattle.parts.specs.Batch.{Along, RoomAll}
use Rattle.rises.specs.Copied.{copied}
use Rattle.rises.proofs.Copied.{shifted}
use Rattle.parts.proofs.Taking.{left-next}
use Rattle.parts.proofs.Carried.{Written, written_begin, written_turn}
use Rattle.page_walk.specs.Steps.{next}
use Rattle.page_entries.specs.Coding.{page_entry, pages_coder}
use Rattle.page_walk.proofs.Walk.{next-along}
use Rattle.page_entries.proofs.OneEntry.{keeps_pages}
use Rattle.pages_copy.specs.Page.{encoder_on}
use Rattle.pages_copy.proofs.Behind.{pair_on, Behind, pair_on_lem}
use Rattle.pages_copy.proofs.OneRun.{in_cells, begins-at, stepped, taken, put_entry}
use Rattle.pages_copy.proofs.Apart as on

-- an entry by that of the open run: `a` and b are the first run's entry, f and s those of a run so many cells, empty cells and ranks further
first_shifted : (a f x c l z : ℕ) → (x + a) % 2 ^ 32 ≡ l + 1 - z → x < 2 ^ 32 → a + c ≡ f → f ≤ 16777216 → z ≤ l + 1 → l < 16777216 → l + c + 1 - z ≡ add32 f x
first_shifted a f x c l z e h i j k m = sym (shifted f x a (l + 1 - z) e h (omega arith) (omega arith) (omega arith) ∙ omega arith)

second_shifted : (b s y d c k l r z : ℕ) → (y + b) % 2 ^ 32 ≡ l + 1 - r - z → y < 2 ^ 32 → b + d ≡ s → d + k ≡ c → s ≤ 33554432 → z + r ≤ l + 1 → l < 16777216
    → l + c + 1 - (r + k) - z ≡ add32 s y
second_shifted b s y d c k l r z e h i j m n o = sym (shifted s y b (l + 1 - r - z) e h (omega arith) (omega arith) (omega arith) ∙ omega arith)

left_less : (n r k q : ℕ) → r + k ≡ q → n - r - k ≡ n - q
left_less n r k q h = omega arith

module _ (b : List ℕ) (v : View) (c : Cursor) (m : ℕ) (w : Behind b v c m) (s : ℕ) (e : Encoder) (some : 1 ≤ e.rank) (same : e.last ≡ c.at)
    (room : m ≤ left_after s e.left) where
  abbrev cells : ℕ → ℕ
  cells t = on.cells_on b v c m w t

  abbrev ranks : ℕ → ℕ
  ranks t = on.ranks_on b v c m w t

  abbrev cursor_at : ℕ → Cursor
  cursor_at t = on.cursor_at b v c m w t

  -- the entries that the page still takes behind t of them
  abbrev pub left_on : ℕ → ℕ
  left_on t = if_zero t e.left (left_after s e.left - (t - 1))

  abbrev encoder_at : ℕ → Encoder
  encoder_at t = encoder_on e (cells t) (ranks t) t (left_on t)

  encoder_here : encoder_at 0 ≡ e
  unfolding encoder_on
  encoder_here =
      let r : e.rank + ranks 0 ≡ e.rank = omega arith in
      let l : e.last + cells 0 ≡ e.last = omega arith in
      let n : e.second + 8 * 0 ≡ e.second = omega arith in
      rw (r, l, n)

  left_on_lem : (t : ℕ) → t < m → (left_on (suc t) ≡ left_after s (left_on t)) × (1 ≤ left_on (suc t))
  left_on_lem zero k = (omega arith, omega arith)
  left_on_lem (suc t) k =
      let l = left_after s e.left - (suc t - 1) in
      let z : left_after s e.left - (suc (suc t) - 1) ≡ l - 1 = omega arith in
      (z ∙ left-next s l (λ h. omega arith), omega arith)

  same-last : e.last ≡ c.last
  same-last = same ∙ w.ended

  module _ (d : List ℕ) (n x y : ℕ) (by_first : (x + (pair_on b v c 0).first) % 2 ^ 32 ≡ e.last + 1 - e.cells) (x-small : x < 2 ^ 32)
      (by-second : (y + (pair_on b v c 0).second) % 2 ^ 32 ≡ e.last + 1 - e.rank - e.empty) (y-small : y < 2 ^ 32)
      (a : Along e (walked_as (next b v) (next b v c) n)) (r : RoomAll (pages_coder s) e (walked_as (next b v) (next b v c) n) (length d)) where
    abbrev bytes : ℕ → List ℕ
    bytes t = copied b (v.second + 8 * (c.next - 1)) x y e.second t d

    abbrev Gone : ℕ → Type 0
    Gone t = Written (next b v) (pages_coder s) d (next b v c) e n (bytes t) (next b v (cursor_at t)) (encoder_at t) (n - ranks t)

    none_gone : Gone 0
    unfolding copied
    none_gone =
        let z : n - ranks 0 ≡ n = ap (λ (k : ℕ). n - k) (on.ranks-none b v c m w) ∙ sub-zero n in
        rw (z, encoder_here, on.cursor-here b v c m w) (written_begin (next b v) (pages_coder s) d (next b v c) e n a r)

    entry_is : (t : ℕ) → t ≤ m → page_entry (encoder_at t) ≡ pair (add32 (pair_on b v c t).first x) (add32 (pair_on b v c t).second y)
    unfolding page_entry encoder_on
    entry_is t k =
        let p = on.apart b v c m w t k in
        let q = a.sound in
        let f = fits e.last e.rank e.cells e.empty (pair_on b v c 0).first (cells t) (pair_on b v c t).first (pair_on b v c 0).second (on.empty_on b v c m w t)
        (pair_on b v c t).second (ranks t) (on.N b v c m w) c.last c.rank c.empty some q.cells-most q.empty-most p.first p.second p.stored p.most w.ranks w.below in
        let l : e.last < 16777216 = rw same-last w.below in
        ap₂ pair (first_shifted (pair_on b v c 0).first (pair_on b v c t).first x (cells t) e.last e.cells by_first x-small p.first f.0 f.1 l)
        (second_shifted (pair_on b v c 0).second (pair_on b v c t).second y _ (cells t) (ranks t) e.last e.rank e.empty by-second y-small p.second p.stored f.2 f.3 l)
      where
        fits : (l r z u g h i j q o n f w p k : ℕ) → 1 ≤ r → z ≤ l + 1 - (1 - r) → u + r ≤ l + 1 - (1 - r) → g + h ≡ i → j + q ≡ o → q + n ≡ h → f + i ≤ 16777216
            → w ≡ p + (k + j) → w < 16777216 → (i ≤ 16777216) × (z ≤ l + 1) × (o ≤ 33554432) × (u + r ≤ l + 1)
        fits l r z u g h i j q o n f w p k a b c d e s m t y = (omega arith, omega arith, omega arith, omega arith)

    module _ (t : ℕ) (k : t < m) (g : Gone t) where
      page : c.used + t < v.step
      page = let u = w.used in omega arith

      few : c.next + t < 16777216
      few = let h = w.next in let f = w.few in omega arith

      more_gone : ranks (suc t) ≤ n → Gone (suc t)
      unfolding copied
      more_gone h =
          let i = on.begins b v c m w t k in
          let j = on.read b v c m w t k in
          let l = on.last b v c m w t k in
          let count = on.count b v c m w t k in
          let o = left_on_lem t k in
          let p = begins-at c _ _ _ _ _ count i t b v page few j l in
          let z = left_less n (ranks t) count (ranks (suc t)) i.sum in
          rw z at
          (written_turn (next b v) (pages_coder s) (next-along b v) (next b v (cursor_at t)) (encoder_at t) count (n - ranks t) (in_cells c _ _ _ _ _ count i t b v page few j l n h)
          (keeps_pages s) d (next b v c) e n (bytes t) (bytes (suc t)) (next b v (cursor_at (suc t))) (encoder_at (suc t))
          (stepped c _ _ _ _ _ count i t b v page few j l)
          (rw p (taken c _ _ _ _ _ count i t s e (left_on t) (left_on (suc t)) some same-last o.0 o.1))
          (rw (p, pair_on_lem b v c m w t (omega arith), ← entry_is t (omega arith)) (put_entry c _ _ _ _ _ count i t s e (left_on t) (left_on (suc t)) some same-last o.0 o.1 (bytes t))) g)

    pub gone : (t : ℕ) → t ≤ m → ranks t ≤ n → Gone t
    gone zero k h = none_gone
    gone (suc t) k h =
        let u = on.ranks_up b v c m w t (omega arith) in
        more_gone t (omega arith) (gone t (omega arith) (omega arith)) h
