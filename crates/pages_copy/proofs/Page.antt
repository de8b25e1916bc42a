-- Some ranks behind a cursor, put out by the entries of its page: what the code needs of its numbers, and what it leaves. Assumes nothing.
use Rattle.std.proofs.Common.{◌≡◌, ℕ, ◌+◌, ◌-◌, ◌*◌, ◌%◌, ◌^◌, ◌<◌, ◌≤◌, List, length, sym, refl, ap, ◌∙◌, le_refl, add-zero, arith}
use Rattle.format.specs.declared.View.{View}
use Rattle.wire.specs.declared.Pair.{Pair}
use Rattle.wire.specs.Wire.{field_pair}
use Rattle.parts.specs.declared.Cursor.{Cursor}
use Rattle.parts.specs.declared.Encoder.{Encoder}
use Rattle.parts.specs.Cursor.{walked_as, stepped_as}
use Rattle.parts.specs.Encoder.{Coder, left_after, taken_all_by}
use Rattle.parts.specs.Batch.{Along, RoomAll}
use Rattle.rises.specs.Copied.{copied}
use Rattle.parts.proofs.Taking.{if_more}
use Rattle.parts.proofs.Carried.{Written, written_end, put_as, end-put, turn_now, turn_room_now}
use Rattle.page_walk.specs.Steps.{next}
use Rattle.page_entries.specs.Coding.{pages_coder}
use Rattle.pages_copy.specs.Page.{cursor_on, encoder_on, Fits, Further}
use Rattle.pages_copy.proofs.Behind.{pair_on, Behind, pair_on_lem, pair-here}
use Rattle.pages_copy.proofs.Apart as on
use Rattle.pages_copy.proofs.Copying.{left_on, gone}

-- a difference of 32 bits, which wraps; the number that was taken off gives the first back
abbrev pub sub32 : ℕ → ℕ → ℕ
sub32 a b = (a + (2 ^ 32 - b)) % 2 ^ 32

pub sub32_back : (a b : ℕ) → a < 2 ^ 32 → b < 2 ^ 32 → (sub32 a b + b) % 2 ^ 32 ≡ a
sub32_back a b h k = omega arith

-- none
pub none-further : (f : Cursor → Cursor) (k : Coder) (c : Cursor) (e : Encoder) (left : ℕ) (d : List ℕ) → Further f k c e left d (record { c = c; e = e }) d
none-further f k c e left d =
    record {
      ranks = 0;
      most = omega arith;
      rank = sym (add-zero c.rank);
      put = put_as f k (f c) e 0 d (f c) e d (unfold stepped_as in refl) (unfold walked_as taken_all_by in refl) (sym (end-put f k (f c) e 0 (le_refl 0) d));
    }

-- all of m runs, by the entries x and y of the cursor's run and the last
module _ (b : List ℕ) (v : View) (c : Cursor) (m : ℕ) (w : Behind b v c m) (x y : Pair) (read : x ≡ field_pair (v.second + 8 * (c.next - 1)) b)
    (read-last : y ≡ field_pair (v.second + 8 * (c.next - 1) + 8 * m) b) where
  abbrev cells : ℕ
  cells = y.first - x.first

  abbrev ranks : ℕ
  ranks = y.first - x.first - (y.second - x.second)

  first_is : x ≡ pair_on b v c 0
  first_is = read ∙ pair-here b v c m w

  last_is : y ≡ pair_on b v c m
  last_is = read-last ∙ pair_on_lem b v c m w m (le_refl m)

  pub page_apart : on.Apart (on.N b v c m w) x y cells (y.second - x.second) ranks
  page_apart = rw (first_is, last_is) (on.apart b v c m w m (le_refl m))

  module _ (s : ℕ) (e : Encoder) (some : 1 ≤ e.rank) (same : e.last ≡ c.at) (room : m ≤ left_after s e.left) (one : 1 ≤ m) (d : List ℕ) (left : ℕ)
      (a : Along e (walked_as (next b v) (next b v c) left)) (r : RoomAll (pages_coder s) e (walked_as (next b v) (next b v c) left) (length d)) (most : ranks ≤ left) where
    abbrev bytes : ℕ → ℕ → List ℕ
    bytes f g = copied b (v.second + 8 * (c.next - 1)) f g e.second m d

    abbrev after : Encoder
    after = encoder_on e cells ranks m (left_after s e.left - (m - 1))

    module _ (f g : ℕ) (by_first : (f + x.first) % 2 ^ 32 ≡ e.last + 1 - e.cells) (f-small : f < 2 ^ 32)
        (by-second : (g + x.second) % 2 ^ 32 ≡ e.last + 1 - e.rank - e.empty) (g-small : g < 2 ^ 32) where
      pub page_written : Written (next b v) (pages_coder s) d (next b v c) e ranks (bytes f g) (next b v (cursor_on c cells ranks m)) after 0
      page_written =
          let n = ranks in
          let k : ranks ≡ on.ranks_on b v c m w m = rw (first_is, last_is) in
          let z : n - ranks ≡ 0 = none_left ranks in
          let l : left_on b v c m w s e some same room m ≡ left_after s e.left - (m - 1) = if_more m e.left _ (λ h. omega arith) in
          let t = gone b v c m w s e some same room d n f g (rw first_is at by_first) f-small (rw first_is at by-second) g-small
          (turn_now (next b v) (pages_coder s) (next b v c) e n left most a) (turn_room_now (next b v) (pages_coder s) (next b v c) e n left most (length d) r) m (le_refl m)
          (rw k (le_refl _)) in
          rw z at (rw (l, ← first_is, ← last_is) at t)
        where
          none_left : (n : ℕ) → n - n ≡ 0
          none_left n = omega arith

      pub page-further : Further (next b v) (pages_coder s) c e left d (record { c = cursor_on c cells ranks m; e = after }) (bytes f g)
      page-further =
          record {
            ranks = ranks;
            most = most;
            rank = unfold cursor_on in refl;
            put = written_end (next b v) (pages_coder s) d (next b v c) e ranks (bytes f g) (next b v (cursor_on c cells ranks m)) after 0 (le_refl 0) page_written;
          }

      -- no number wraps, and the entries have room
      pub page-fits : Fits c e cells ranks m × (e.second + 8 * m ≤ length d) × (length (bytes f g) ≡ length d)
      unfolding encoder_on
      page-fits =
          let p = page_apart in
          let t = page_written in
          let q = t.room.second in
          let z = t.same in
          let u = t.rest.sound.passed-most in
          let i = t.rest.sound.empty-most in
          let j = t.rest.sound.second-most in
          let n = fits x.first x.second y.first y.second cells (y.second - x.second) ranks (on.N b v c m w) c.last c.rank c.empty (pair_on b v c 0).first _
          p.first p.stored p.most w.cells w.ranks (ap (λ (o : Pair). o.first) first_is) in
          let h = w.next in
          let k = w.few in
          let o = w.used in
          let l = w.small in (
            record { rank = n.1; last = n.0; next = omega arith; used = omega arith; taken = omega arith; end = omega arith; place = omega arith },
            omega arith,
            z,
          )
        where
          fits : (a b f s c e r n l k z i j : ℕ) → a + c ≡ f → e + r ≡ c → n + f ≤ 16777216 → l + 1 ≡ n + i → l ≡ k + (z + j) → a ≡ i → (l + c < 2 ^ 32) × (k + r < 2 ^ 32)
          fits a b f s c e r n l k z i j p q o h t u = (omega arith, omega arith)
