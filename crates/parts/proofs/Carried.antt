-- A stretch of ranks from a cursor into an encoder, by any step and any coder: m of them first, then the rest. Assumes nothing.
use Rattle.std.proofs.Common.{◌≡◌, ℕ, zero, suc, ◌+◌, ◌-◌, ◌<◌, ◌≤◌, List, [], ◌∷◌, ◌++◌, length, sym, refl, ap, ◌∙◌, ap₂, append_assoc, le_refl, arith, length-append}
use Rattle.format.specs.Tools.{range}
use Rattle.laws.proofs.Stored.{Rising}
use Rattle.stores.specs.Put.{put}
use Rattle.stores.proofs.Laws.{length-put, put3_step}
use Rattle.parts.specs.declared.Cursor.{Cursor}
use Rattle.parts.specs.declared.Encoder.{Encoder}
use Rattle.parts.specs.declared.walk.Walk.{Walk}
use Rattle.parts.specs.Cursor.{walked_as, stepped_as}
use Rattle.parts.specs.Encoder.{Coder, taken_by, taken_all_by}
use Rattle.parts.specs.Ready.{passed, Sound, Keeps}
use Rattle.parts.specs.Batch.{added_first_by, added_second_by, Along, RoomAll, put_all_by}
use Rattle.parts.specs.Walks.{GoesAlong}
use Rattle.parts.specs.Carried.{carried, PutAs}
use Rattle.parts.proofs.Batches.{walked_as_add, stepped_as_add}
use Rattle.parts.proofs.Along.{walked-along, stretch_inside}
use Rattle.parts.proofs.Added.{taken-append, first-place, second-place, along_by_lem, rising-front}
use Rattle.parts.proofs.Taken.{put-all-end}

-- ---- what two lists of positions add, one after the other

module _ (k : Coder) where
  first_by : (e : Encoder) (xs ys : List ℕ) → added_first_by k e (xs ++ ys) ≡ added_first_by k e xs ++ added_first_by k (taken_all_by k e xs) ys
  unfolding added_first_by taken_all_by
  first_by e [] ys = refl
  first_by e (p ∷ xs) ys =
      let t : Encoder = taken_by k e p in
      ap (λ (l : List ℕ). k.first e p ++ l) (first_by t xs ys)
      ∙ sym (append_assoc (k.first e p) (added_first_by k t xs) (added_first_by k (taken_all_by k t xs) ys))

  second_by : (e : Encoder) (xs ys : List ℕ) → added_second_by k e (xs ++ ys) ≡ added_second_by k e xs ++ added_second_by k (taken_all_by k e xs) ys
  unfolding added_second_by taken_all_by
  second_by e [] ys = refl
  second_by e (p ∷ xs) ys =
      let t : Encoder = taken_by k e p in
      ap (λ (l : List ℕ). k.second e p ++ l) (second_by t xs ys)
      ∙ sym (append_assoc (k.second e p) (added_second_by k t xs) (added_second_by k (taken_all_by k t xs) ys))

pub length-put-all : (k : Coder) (d : List ℕ) (e : Encoder) (ls : List ℕ) → length (put_all_by k d e ls) ≡ length d
unfolding put_all_by
length-put-all k d e ls = length-put _ e.second (added_second_by k e ls) ∙ length-put d e.first (added_first_by k e ls)

pub along-front : (e : Encoder) (xs ys : List ℕ) → Along e (xs ++ ys) → Along e xs
along-front e xs ys a = record { sound = a.sound; rising = rising-front (passed e) 16777216 xs ys a.rising }

module _ (k : Coder) (e : Encoder) (xs ys : List ℕ) (n : ℕ) (r : RoomAll k e (xs ++ ys) n) where
  abbrev after : Encoder
  after = taken_all_by k e xs

  length-first : length (added_first_by k e (xs ++ ys)) ≡ length (added_first_by k e xs) + length (added_first_by k after ys)
  length-first = ap length (first_by k e xs ys) ∙ length-append (added_first_by k e xs) (added_first_by k after ys)

  length-second : length (added_second_by k e (xs ++ ys)) ≡ length (added_second_by k e xs) + length (added_second_by k after ys)
  length-second = ap length (second_by k e xs ys) ∙ length-append (added_second_by k e xs) (added_second_by k after ys)

  pub room-front : RoomAll k e xs n
  room-front =
      let f = length-first in
      let g = length-second in
      let a = r.first in
      let b = r.second in
      record { first = omega arith; second = omega arith }

  pub room_rest : RoomAll k after ys n
  room_rest =
      let f = length-first in
      let g = length-second in
      let a = r.first in
      let b = r.second in
      let p = first-place k e xs in
      let q = second-place k e xs in
      record { first = omega arith; second = omega arith }

  -- the bytes of xs first, then those of ys
  pub put-all-append : (d : List ℕ) → put_all_by k d e (xs ++ ys) ≡ put_all_by k (put_all_by k d e xs) after ys
  unfolding put_all_by put
  put-all-append d =
      let x : List ℕ = added_first_by k e xs in
      let x' : List ℕ = added_first_by k after ys in
      let y : List ℕ = added_second_by k e xs in
      let y' : List ℕ = added_second_by k after ys in
      let v = e.second + length (y ++ y') in
      let p = first_by k e xs ys in
      let q = second_by k e xs ys in
      let h : e.first + length (x ++ x') ≤ e.second = rw (← p) r.first in
      rw (p, q) (put3_step d e.first x x' e.second y y' v [] [] h (le_refl v))
      ∙ ap₂ (λ (f g : ℕ). put (put (put (put d e.first x) e.second y) f x') g y') (sym (first-place k e xs)) (sym (second-place k e xs))

-- ---- m ranks, then the rest

module _ (f : Cursor → Cursor) (c : Cursor) (m n : ℕ) (h : m ≤ n) where
  sum : m + (n - m) ≡ n
  sum = omega arith

  walked_split : walked_as f c n ≡ walked_as f c m ++ walked_as f (stepped_as f c m) (n - m)
  walked_split = rw sum at (walked_as_add f c m (n - m))

  stepped_split : stepped_as f (stepped_as f c m) (n - m) ≡ stepped_as f c n
  stepped_split = sym (rw sum at (stepped_as_add f c m (n - m)))

-- one turn: m of the n ranks that are left from c
module _ (f : Cursor → Cursor) (k : Coder) (c : Cursor) (e : Encoder) (m n : ℕ) (h : m ≤ n) where
  abbrev now : List ℕ
  now = walked_as f c m

  abbrev later : List ℕ
  later = walked_as f (stepped_as f c m) (n - m)

  pub turn_whole : carried f k (stepped_as f c m) (taken_all_by k e now) (n - m) ≡ carried f k c e n
  unfolding carried
  turn_whole =
      let t : taken_all_by k (taken_all_by k e now) later ≡ taken_all_by k e (walked_as f c n)
      = sym (taken-append k e now later) ∙ ap (taken_all_by k e) (sym (walked_split f c m n h)) in
      rw (stepped_split f c m n h, t)

  pub turn_now : Along e (walked_as f c n) → Along e now
  turn_now a = along-front e now later (rw (walked_split f c m n h) at a)

  pub turn_later : Keeps k → Along e (walked_as f c n) → Along (taken_all_by k e now) later
  turn_later p a = along_by_lem k p e now later (rw (walked_split f c m n h) at a)

  module _ (z : ℕ) (r : RoomAll k e (walked_as f c n) z) where
    split_room : RoomAll k e (now ++ later) z
    split_room = rw (walked_split f c m n h) at r

    pub turn_room_now : RoomAll k e now z
    turn_room_now = room-front k e now later z split_room

    pub turn_room_later : RoomAll k (taken_all_by k e now) later z
    turn_room_later = room_rest k e now later z split_room

    pub turn_put : (d : List ℕ) → put_all_by k (put_all_by k d e now) (taken_all_by k e now) later ≡ put_all_by k d e (walked_as f c n)
    turn_put d = sym (put-all-append k e now later z split_room d) ∙ ap (put_all_by k d e) (sym (walked_split f c m n h))

-- no rank is left
module _ (f : Cursor → Cursor) (k : Coder) (c : Cursor) (e : Encoder) (n : ℕ) (h : n ≤ 0) where
  none_left : n ≡ 0
  none_left = omega arith

  pub end_whole : carried f k c e n ≡ record { c = c; e = e }
  unfolding carried walked_as stepped_as taken_all_by
  end_whole = rw none_left

  pub end-put : (d : List ℕ) → put_all_by k d e (walked_as f c n) ≡ d
  unfolding walked_as
  end-put d = rw none_left (put-all-end k d e)

-- ---- run by run

-- before a turn, with left of the n ranks to go: the cursor c, the encoder e and the bytes d give the whole of those from c₀, e₀ and d₀
pub record Written (f : Cursor → Cursor) (k : Coder) (d₀ : List ℕ) (c₀ : Cursor) (e₀ : Encoder) (n : ℕ) (d : List ℕ) (c : Cursor) (e : Encoder) (left : ℕ) : Type 0 where
  pub rest : Along e (walked_as f c left)
  pub whole : carried f k c e left ≡ carried f k c₀ e₀ n
  pub room : RoomAll k e (walked_as f c left) (length d)
  pub same : length d ≡ length d₀
  pub written : put_all_by k d e (walked_as f c left) ≡ put_all_by k d₀ e₀ (walked_as f c₀ n)

pub written_begin : (f : Cursor → Cursor) (k : Coder) (d : List ℕ) (c : Cursor) (e : Encoder) (n : ℕ) → Along e (walked_as f c n)
    → RoomAll k e (walked_as f c n) (length d) → Written f k d c e n d c e n
written_begin f k d c e n a r = record { rest = a; whole = refl; room = r; same = refl; written = refl }

pub put_as : (f : Cursor → Cursor) (k : Coder) (c : Cursor) (e : Encoder) (n : ℕ) (d : List ℕ) (c' : Cursor) (e' : Encoder) (d' : List ℕ) → c' ≡ stepped_as f c n
    → e' ≡ taken_all_by k e (walked_as f c n) → d' ≡ put_all_by k d e (walked_as f c n) → PutAs f k c e n d (record { c = c'; e = e' }) d'
unfolding carried
put_as f k c e n d c' e' d' cursor encoder bytes = record { walk = rw (cursor, encoder); bytes = bytes }

-- the next m ranks are put out
module _ (f : Cursor → Cursor) (k : Coder) (keeps : Keeps k) (d₀ : List ℕ) (c₀ : Cursor) (e₀ : Encoder) (n : ℕ) (d : List ℕ) (c : Cursor) (e : Encoder) (left : ℕ)
    (i : Written f k d₀ c₀ e₀ n d c e left) where
  pub written_then : (m : ℕ) → m ≤ left → (w : Walk) (d' : List ℕ) → PutAs f k c e m d w d' → Written f k d₀ c₀ e₀ n d' w.c w.e (left - m)
  unfolding carried
  written_then m h w d' p =
      let a : w.c ≡ stepped_as f c m = ap (λ (x : Walk). x.c) p.walk in
      let t : w.e ≡ taken_all_by k e (walked_as f c m) = ap (λ (x : Walk). x.e) p.walk in
      let o = p.bytes in
      let z : length d' ≡ length d = ap length o ∙ length-put-all k d e (walked_as f c m) in
      record {
        rest = rw (a, t) (turn_later f k c e m left h keeps i.rest);
        whole = rw (a, t) (turn_whole f k c e m left h) ∙ i.whole;
        room = rw (z, a, t) (turn_room_later f k c e m left h (length d) i.room);
        same = z ∙ i.same;
        written = rw (o, a, t) (turn_put f k c e m left h (length d) i.room d) ∙ i.written;
      }

-- m ranks of the run at c, of those left
pub record Cells (c : Cursor) (m left : ℕ) : Type 0 where
  pub most : m ≤ left
  pub some : 0 < m
  pub in_run : 1 < m → c.at + m ≤ c.last + 1

pub cells : (c : Cursor) (m left : ℕ) → 0 < left → (m ≤ left) × (0 < left → 0 < m) × (1 < m → c.at + m ≤ c.last + 1) → Cells c m left
cells c m left l h = record { most = h.0; some = h.1 l; in_run = h.2 }

-- where a rising range lies
range-rising : (n a B p : ℕ) → 0 < n → Rising a B (range p n) → (a ≤ p) × (p + n ≤ B)
unfolding range
range-rising zero a B p l r = absurd (omega arith)
range-rising (suc zero) a B p l r = (r.0, omega arith)
range-rising (suc (suc n)) a B p l r = let t = range-rising (suc n) (suc p) B (suc p) (omega arith) r.2 in (r.0, omega arith)

module _ (f : Cursor → Cursor) (k : Coder) (goes : GoesAlong f) (c : Cursor) (e : Encoder) (m left : ℕ) (q : Cells c m left) where
  positions : walked_as f c m ≡ range c.at m
  positions =
      let z = q.some in
      let s : suc (m - 1) ≡ m = omega arith in
      rw s at (walked-along f goes (m - 1) c (stretch_inside m c.at c.last q.in_run))

  pub run_asked : Along e (walked_as f c left) → Sound e × (passed e ≤ c.at) × (c.at + m ≤ 16777216)
  run_asked a =
      let t = turn_now f k c e m left q.most a in
      let r = range-rising m (passed e) 16777216 c.at q.some (rw positions at t.rising) in
      (t.sound, r.0, r.1)

  pub run_room : (z : ℕ) → RoomAll k e (walked_as f c left) z → RoomAll k e (range c.at m) z
  run_room z r = rw positions at (turn_room_now f k c e m left q.most z r)

  -- one turn, to the cursor c', the encoder e' and the bytes d'
  pub written_turn : Keeps k → (d₀ : List ℕ) (c₀ : Cursor) (e₀ : Encoder) (n : ℕ) (d d' : List ℕ) (c' : Cursor) (e' : Encoder) → c' ≡ stepped_as f c m
      → e' ≡ taken_all_by k e (range c.at m) → d' ≡ put_all_by k d e (range c.at m) → Written f k d₀ c₀ e₀ n d c e left → Written f k d₀ c₀ e₀ n d' c' e' (left - m)
  written_turn keeps d₀ c₀ e₀ n d d' c' e' cursor take bytes i =
      let w = put_as f k c e m d c' e' d' cursor (rw positions take) (rw positions bytes) in
      written_then f k keeps d₀ c₀ e₀ n d c e left i m q.most _ d' w

pub written_end : (f : Cursor → Cursor) (k : Coder) (d₀ : List ℕ) (c₀ : Cursor) (e₀ : Encoder) (n : ℕ) (d : List ℕ) (c : Cursor) (e : Encoder) (left : ℕ) → left ≤ 0
    → Written f k d₀ c₀ e₀ n d c e left → PutAs f k c₀ e₀ n d₀ (record { c = c; e = e }) d
written_end f k d₀ c₀ e₀ n d c e left h i =
    record { walk = sym (end_whole f k c e left h) ∙ i.whole; bytes = sym (end-put f k c e left h d) ∙ i.written }
