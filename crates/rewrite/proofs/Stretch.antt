-- A stretch of ranks of a file into an encoder, batch by batch, by the file's kind and a setting. Assumes nothing.
use Prim.Native.Nat.{ℕ, suc, ◌+◌, ◌-◌, ◌≤◌, ◌<◌}
use mathlib.Core.Path.{◌≡◌, refl, sym, ap, ◌∙◌}
use mathlib.Core.Bool.{true}
use mathlib.Core.List.{List, [], ◌++◌}
use native.Mathlib.Omega.{arith}
use lib.ListN.{length, take, drop}
use lib.Seq.{length-take-le, length_front, take-append_seam}
use Rattle.format.specs.declared.Setting.{Setting}
use Rattle.format.specs.declared.View.{View}
use Rattle.format.specs.Kinds.{setting_allowed}
use Rattle.stores.specs.Put.{put}
use Rattle.parts.specs.declared.Cursor.{Cursor}
use Rattle.parts.specs.declared.Encoder.{Encoder}
use Rattle.parts.specs.Cursor.{stepped_as}
use Rattle.parts.specs.Encoder.{taken_all_by}
use Rattle.parts.specs.Batch.{Along, RoomAll, put_all_by}
use Rattle.parts.proofs.Carried as carried
use Rattle.kinds.specs.Steps.{next_of, walked, stepped_by}
use Rattle.kinds.specs.Coding.{coder, taken_all, added_first, added_second}
use Rattle.kinds.proofs.Laws.{codes}
use Rattle.kinds.proofs.Walks.{length-walked}
use Rattle.rewrite.specs.Walk.{along}

-- ---- two lists of positions, one after the other

module _ (s : Setting) (e : Encoder) (xs ys : List ℕ) (n : ℕ) (r : RoomAll (coder s) e (xs ++ ys) n) where
  pub room_rest : RoomAll (coder s) (taken_all s e xs) ys n
  unfolding taken_all
  room_rest = carried.room_rest (coder s) e xs ys n r

  pub put-all-append : (d : List ℕ) → put_all_by (coder s) d e (xs ++ ys) ≡ put_all_by (coder s) (put_all_by (coder s) d e xs) (taken_all s e xs) ys
  unfolding taken_all
  put-all-append = carried.put-all-append (coder s) e xs ys n r

-- the same bytes by the setting
pub put-all_is : (s : Setting) (e : Encoder) (ls : List ℕ) (d : List ℕ)
    → put (put d e.first (added_first s e ls)) e.second (added_second s e ls) ≡ put_all_by (coder s) d e ls
unfolding put_all_by added_first added_second
put-all_is s e ls d = refl

pub all_end : (s : Setting) (e : Encoder) → taken_all s e [] ≡ e
unfolding taken_all taken_all_by
all_end s e = refl

-- ---- batch by batch

-- a batch of k ranks in a buffer, whose first k elements have become out, with the cursor d
pub record Batch (b : List ℕ) (v : View) (c d : Cursor) (k : ℕ) (buffer out : List ℕ) : Type 0 where
  pub cursor : d ≡ stepped_by b v c k
  pub front : take k (out ++ drop k buffer) ≡ walked b v c k
  pub count : length (take k (out ++ drop k buffer)) ≡ k
  pub size : length (out ++ drop k buffer) ≡ length buffer

pub batch : (b : List ℕ) (v : View) (c d : Cursor) (k : ℕ) (buffer out : List ℕ) → k ≤ length buffer
    → d ≡ stepped_by b v c (length (take k buffer)) → out ≡ walked b v c (length (take k buffer)) → Batch b v c d k buffer out
batch b v c d k buffer out h s w =
    let n = length-take-le k buffer h in
    let o : out ≡ walked b v c k = rw n at w in
    let l : length out ≡ k = ap length o ∙ length-walked b v c k in
    let f : take k (out ++ drop k buffer) ≡ walked b v c k = rw l at (take-append_seam out (drop k buffer)) ∙ o in
    record {
      cursor = rw n at s;
      front = f;
      count = ap length f ∙ length-walked b v c k;
      size = length_front buffer out k (l ∙ sym n);
    }

-- one turn: k of the n ranks that are left from c
module _ (s : Setting) (b : List ℕ) (v : View) (c : Cursor) (e : Encoder) (k n : ℕ) (h : k ≤ n) where
  abbrev now : List ℕ
  now = walked b v c k

  abbrev later : List ℕ
  later = walked b v (stepped_by b v c k) (n - k)

  pub turn_whole : along s b v (stepped_by b v c k) (taken_all s e now) (n - k) ≡ along s b v c e n
  unfolding along walked stepped_by taken_all
  turn_whole = carried.turn_whole (next_of b v) (coder s) c e k n h

  pub turn_now : Along e (walked b v c n) → Along e now
  unfolding walked
  turn_now a = carried.turn_now (next_of b v) (coder s) c e k n h a

  pub turn_later : setting_allowed s ≡ true → Along e (walked b v c n) → Along (taken_all s e now) later
  unfolding walked stepped_by taken_all
  turn_later p a = carried.turn_later (next_of b v) (coder s) c e k n h (codes s p).keeps a

  module _ (m : ℕ) (r : RoomAll (coder s) e (walked b v c n) m) where
    pub turn_room_now : RoomAll (coder s) e now m
    unfolding walked
    turn_room_now = carried.turn_room_now (next_of b v) (coder s) c e k n h m r

    pub turn_room_later : RoomAll (coder s) (taken_all s e now) later m
    unfolding walked stepped_by taken_all
    turn_room_later = carried.turn_room_later (next_of b v) (coder s) c e k n h m r

    pub turn_put : (d : List ℕ) → put_all_by (coder s) (put_all_by (coder s) d e now) (taken_all s e now) later ≡ put_all_by (coder s) d e (walked b v c n)
    unfolding walked stepped_by taken_all
    turn_put = carried.turn_put (next_of b v) (coder s) c e k n h m r

-- one rank of those that are left after i, then the rest
pub skip_turn : (b : List ℕ) (v : View) (c : Cursor) (n i : ℕ) → i < n → stepped_by b v (next_of b v c) (n - (i + 1)) ≡ stepped_by b v c (n - i)
unfolding stepped_by stepped_as
skip_turn b v c n i h = let e : n - i ≡ suc (n - (i + 1)) = omega arith in rw e

pub skip_end : (b : List ℕ) (v : View) (c : Cursor) (n i : ℕ) → n ≤ i → stepped_by b v c (n - i) ≡ c
unfolding stepped_by stepped_as
skip_end b v c n i h = let e : n - i ≡ 0 = omega arith in rw e

-- no rank is left
module _ (s : Setting) (b : List ℕ) (v : View) (c : Cursor) (e : Encoder) (n : ℕ) (h : n ≤ 0) where
  pub end_whole : along s b v c e n ≡ record { c = c; e = e }
  unfolding along
  end_whole = carried.end_whole (next_of b v) (coder s) c e n h

  pub end-put : (d : List ℕ) → put_all_by (coder s) d e (walked b v c n) ≡ d
  unfolding walked
  end-put = carried.end-put (next_of b v) (coder s) c e n h
