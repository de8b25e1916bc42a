-- An edit in three stretches: the ranks before it, its own position, the ranks after it; then the end. Assumes nothing.
use Prim.Native.Nat.{ℕ, ◌+◌, ◌-◌, ◌≤◌}
use mathlib.Core.Path.{◌≡◌, refl, sym, ap, ap₂, ◌∙◌}
use mathlib.Core.Bool.{true}
use mathlib.Core.List.{List, [], ◌++◌, append-nil}
use native.Mathlib.Nat.{zero-add, le_refl}
use native.Mathlib.Omega.{arith}
use lib.ListN.{length, drop}
use Rattle.format.specs.declared.Setting.{Setting}
use Rattle.format.specs.declared.View.{View}
use Rattle.format.specs.Kinds.{setting_allowed}
use Rattle.format.specs.Accepted.{positions_of}
use Rattle.laws.proofs.Stored.{Rising, rising_widen}
use Rattle.stores.specs.Put.{put}
use Rattle.parts.specs.declared.Cursor.{Cursor}
use Rattle.parts.specs.declared.Encoder.{Encoder}
use Rattle.parts.specs.Holds.{ViewOf, kind_of}
use Rattle.parts.specs.Encoder.{begun, firsts_by, seconds_by}
use Rattle.parts.specs.Ready.{Sound}
use Rattle.parts.specs.Batch.{Along, RoomAll, put_all_by}
use Rattle.parts.specs.Cursor.{before, stepped_as}
use Rattle.parts.specs.Carried.{carried, Reached}
use Rattle.parts.proofs.Batches.{stepped_as_add}
use Rattle.parts.proofs.Seen.{seen}
use Rattle.parts.proofs.Sounds.{sound-begun}
use Rattle.parts.proofs.Carried.{length-put-all, along-front, room-front}
use Rattle.kinds.specs.Steps.{next_of, start_of, walked, stepped_by}
use Rattle.kinds.specs.Coding.{coder, taken_all, firsts, seconds, added_first, added_second, Apart}
use Rattle.kinds.proofs.Walks.{Batched, batched, walk_start}
use Rattle.kinds.proofs.Driving.{all_append, along-added, sound-added, room-first-all, room-second-all, apart_added, put_turn_all}
use Rattle.edits.specs.declared.Edit.{Edit}
use Rattle.edits.specs.Edit.{edited, EditOf}
use Rattle.rewrite.specs.Walk.{along, added}
use Rattle.rewrite.proofs.Stretch.{room_rest, put-all-append, put-all_is}

-- ---- the stretches are the edited positions

pub along-cursor : (s : Setting) (b : List ℕ) (v : View) (c : Cursor) (e : Encoder) (n : ℕ) → (along s b v c e n).c ≡ stepped_by b v c n
unfolding along carried stepped_by
along-cursor s b v c e n = refl

pub along_encoder : (s : Setting) (b : List ℕ) (v : View) (c : Cursor) (e : Encoder) (n : ℕ) → (along s b v c e n).e ≡ taken_all s e (walked b v c n)
unfolding along carried taken_all walked
along_encoder s b v c e n = refl

-- where the ranks before the edit end, and where those after it begin; the positions of both
module _ (b : List ℕ) (v : View) (x : Edit) where
  abbrev pub halfway : Cursor
  halfway = stepped_by b v (start_of b v) x.before

  abbrev pub onward : Cursor
  onward = stepped_by b v halfway (x.after - x.before)

  abbrev pub front : List ℕ
  front = walked b v (start_of b v) x.before

  abbrev pub rest : List ℕ
  rest = walked b v onward (v.words - x.after)

pub allowed : (b : List ℕ) (v : View) → ViewOf b v → (kind_of v).allowed ≡ true
allowed b v o = (seen b v o).header.counted.allowed

module _ (b : List ℕ) (v : View) (o : ViewOf b v) (x : Edit) (i : EditOf b x) where
  -- the ranks are there, and the positions rise below the cells
  pub ranks-there : (x.before ≤ x.after) × (x.after ≤ v.words)
  ranks-there = (i.ordered, rw (seen b v o).words i.inside)

  pub edit-rising : Rising 0 v.cells (edited x (positions_of b))
  edit-rising = rw (seen b v o).header.cells i.rising

  pub cells-most : v.cells ≤ 16777216
  cells-most = (seen b v o).header.counted.cells-most

  pub edit-below : Rising 0 16777216 (edited x (positions_of b))
  edit-below = rising_widen 0 v.cells 16777216 (edited x (positions_of b)) cells-most edit-rising

  first_batch : Batched b v (start_of b v) 0 x.before
  first_batch = let t = ranks-there in batched b v (start_of b v) 0 x.before (omega arith) (walk_start b v o)

  second_batch : Batched b v (halfway b v x) x.before (x.after - x.before)
  second_batch =
      let t = ranks-there in
      batched b v (halfway b v x) x.before (x.after - x.before) (omega arith) (rw zero-add at first_batch.rest)

  pub all-edited : front b v x ++ added x ++ rest b v x ≡ edited x (positions_of b)
  unfolding edited
  all-edited =
      let p = i.ordered in
      let n : x.before + (x.after - x.before) ≡ x.after = omega arith in
      let r : rest b v x ≡ drop x.after (positions_of b) = rw n at second_batch.rest in
      ap₂ (λ (f l : List ℕ). f ++ added x ++ l) first_batch.positions r

-- ---- three lists of positions into an encoder, and the end

module _ (s : Setting) (e : Encoder) (xs ms ys : List ℕ) where
  abbrev pub e1 : Encoder
  e1 = taken_all s e xs

  abbrev pub e2 : Encoder
  e2 = taken_all s e1 ms

  abbrev pub e3 : Encoder
  e3 = taken_all s e2 ys

  -- the bytes put out so far, from d on
  abbrev pub d1 : List ℕ → List ℕ
  d1 d = put_all_by (coder s) d e xs

  abbrev pub d2 : List ℕ → List ℕ
  d2 d = put_all_by (coder s) (d1 d) e1 ms

  abbrev pub d3 : List ℕ → List ℕ
  d3 d = put_all_by (coder s) (d2 d) e2 ys

  pub length_d1 : (d : List ℕ) → length (d1 d) ≡ length d
  length_d1 d = length-put-all (coder s) d e xs

  pub length_d2 : (d : List ℕ) → length (d2 d) ≡ length d
  length_d2 d = length-put-all (coder s) (d1 d) e1 ms ∙ length_d1 d

  pub length_d3 : (d : List ℕ) → length (d3 d) ≡ length d
  length_d3 d = length-put-all (coder s) (d2 d) e2 ys ∙ length_d2 d

  pub record Three : Type 0 where
    pub front : Along e xs
    pub middle : Along e1 ms
    pub rest : Along e2 ys
    pub sound : Sound e3
    pub all : e3 ≡ taken_all s e (xs ++ ms ++ ys)

  both : e2 ≡ taken_all s e (xs ++ ms)
  both = sym (all_append s e xs ms)

  whole : e3 ≡ taken_all s e (xs ++ ms ++ ys)
  whole = ap (λ (t : Encoder). taken_all s t ys) both ∙ sym (all_append s e (xs ++ ms) ys)

  pub three : setting_allowed s ≡ true → Along e (xs ++ ms ++ ys) → Three
  three p a =
      let f = along-front e (xs ++ ms) ys a in
      record {
        front = along-front e xs ms f;
        middle = along-added s e xs ms p f.sound f.rising;
        rest = rw both (along-added s e (xs ++ ms) ys p a.sound a.rising);
        sound = rw whole (sound-added s e (xs ++ ms ++ ys) p a.sound a.rising);
        all = whole;
      }

  pub record Rooms (n : ℕ) : Type 0 where
    pub front : RoomAll (coder s) e xs n
    pub middle : RoomAll (coder s) e1 ms n
    pub rest : RoomAll (coder s) e2 ys n
    pub first : e3.first + length ((coder s).end_first e3) ≤ n
    pub second : e3.second + length ((coder s).end_second e3) ≤ n

  module _ (n : ℕ) (a : Apart s e (xs ++ ms ++ ys) n) where
    room-all : (e : Encoder) (us ws : List ℕ) → Apart s e (us ++ ws) n → RoomAll (coder s) e us n
    room-all e us ws p = make (room-first-all s e us ws n p) (room-second-all s e us ws n p n (le_refl n))
      where
        make : e.first + length (added_first s e us) ≤ e.second → e.second + length (added_second s e us) ≤ n → RoomAll (coder s) e us n
        make f g = record { first = unfold added_first in f; second = unfold added_second in g }

    end_apart : Apart s e (xs ++ ms ++ ys ++ []) n
    end_apart = rw (append-nil (xs ++ ms ++ ys)) a

    last_apart : Apart s e3 [] n
    last_apart = rw whole (apart_added s e (xs ++ ms ++ ys) [] n end_apart)

    end-room : Apart s e3 [] n → (e3.first + length ((coder s).end_first e3) ≤ n) × (e3.second + length ((coder s).end_second e3) ≤ n)
    unfolding firsts seconds firsts_by seconds_by
    end-room a = (omega (arith, a.first, a.second), a.second)

    rest_room : RoomAll (coder s) e2 ys n
    rest_room =
        let t : Apart s e2 ys n = rw both (apart_added s e (xs ++ ms) ys n a) in
        room-all e2 ys [] (rw (append-nil ys) t)

    front-room : RoomAll (coder s) e (xs ++ ms) n
    front-room = room-all e (xs ++ ms) ys a

    pub three_rooms : Rooms n
    three_rooms =
        record {
          front = room-front (coder s) e xs ms n front-room;
          middle = room_rest s e xs ms n front-room;
          rest = rest_room;
          first = (end-room last_apart).0;
          second = (end-room last_apart).1;
        }

    -- the stretches one after the other put out all, and the end adds what is left of the parts
    put_three : (d : List ℕ) → d3 d ≡ put_all_by (coder s) d e (xs ++ ms ++ ys)
    put_three d =
        ap₂ (λ (l : List ℕ) (t : Encoder). put_all_by (coder s) l t ys) (sym (put-all-append s e xs ms n front-room d)) both
        ∙ sym (put-all-append s e (xs ++ ms) ys n (room-all e (xs ++ ms ++ ys) [] end_apart) d)

    put-end-all : (d : List ℕ) (t : Encoder) → t ≡ taken_all s e (xs ++ ms ++ ys)
        → put (put (put_all_by (coder s) d e (xs ++ ms ++ ys)) t.first ((coder s).end_first t)) t.second ((coder s).end_second t)
        ≡ put (put d e.first (firsts s e (xs ++ ms ++ ys))) e.second (seconds s e (xs ++ ms ++ ys))
    unfolding put firsts seconds firsts_by seconds_by
    put-end-all d t q =
        let w : List ℕ = xs ++ ms ++ ys in
        let u : Encoder = taken_all s e w in
        let z = rw (append-nil w) at (put_turn_all s e w [] n end_apart d [] []) in
        rw (q, ← put-all_is s e w d) (sym z)

    pub three-put : (d : List ℕ)
        → put (put (d3 d) e3.first ((coder s).end_first e3)) e3.second ((coder s).end_second e3)
        ≡ put (put d e.first (firsts s e (xs ++ ms ++ ys))) e.second (seconds s e (xs ++ ms ++ ys))
    three-put d = rw (put_three d) (put-end-all d e3 whole)

-- ---- the stretches of an edit, from the beginning on

module _ (b : List ℕ) (v : View) (o : ViewOf b v) (x : Edit) (i : EditOf b x) (s : Setting) (f g : ℕ) where
  pub edit-along : setting_allowed s ≡ true → f ≤ 4294967296 → g ≤ 4294967296 → Three s (begun f g) (front b v x) (added x) (rest b v x)
  unfolding begun
  edit-along p h k =
      three s (begun f g) (front b v x) (added x) (rest b v x) p
      (record { sound = sound-begun f g h k; rising = rw (all-edited b v o x i) (edit-below b v o x i) })

  -- the encoder after them, and after the edited positions
  pub edit-all : Three s (begun f g) (front b v x) (added x) (rest b v x) → e3 s (begun f g) (front b v x) (added x) (rest b v x) ≡ taken_all s (begun f g) (edited x (positions_of b))
  edit-all t = t.all ∙ ap (taken_all s (begun f g)) (all-edited b v o x i)

  pub edit_rooms : (n : ℕ) → Apart s (begun f g) (edited x (positions_of b)) n → Rooms s (begun f g) (front b v x) (added x) (rest b v x) n
  edit_rooms n a = three_rooms s (begun f g) (front b v x) (added x) (rest b v x) n (rw (all-edited b v o x i) a)

  pub edit-put : (n : ℕ) → Apart s (begun f g) (edited x (positions_of b)) n → (d : List ℕ)
      → put
      (put (d3 s (begun f g) (front b v x) (added x) (rest b v x) d)
      (e3 s (begun f g) (front b v x) (added x) (rest b v x)).first ((coder s).end_first (e3 s (begun f g) (front b v x) (added x) (rest b v x))))
      (e3 s (begun f g) (front b v x) (added x) (rest b v x)).second ((coder s).end_second (e3 s (begun f g) (front b v x) (added x) (rest b v x)))
      ≡ put (put d f (firsts s (begun f g) (edited x (positions_of b)))) g (seconds s (begun f g) (edited x (positions_of b)))
  edit-put n a d =
      three-put s (begun f g) (front b v x) (added x) (rest b v x) n (rw (all-edited b v o x i) a) d
      ∙ ap (λ (l : List ℕ). put (put d (begun f g).first (firsts s (begun f g) l)) (begun f g).second (seconds s (begun f g) l)) (all-edited b v o x i)
      ∙ at_begin
    where
      at_begin : put (put d (begun f g).first (firsts s (begun f g) (edited x (positions_of b)))) (begun f g).second (seconds s (begun f g) (edited x (positions_of b)))
          ≡ put (put d f (firsts s (begun f g) (edited x (positions_of b)))) g (seconds s (begun f g) (edited x (positions_of b)))
      at_begin = unfold begun in refl

-- ---- both stretches begin where the steps from before rank 0 lead

module _ (b : List ℕ) (v : View) (o : ViewOf b v) (x : Edit) (i : EditOf b x) where
  pub reached_first : Reached (next_of b v) v.words (start_of b v) x.before
  unfolding start_of stepped_as
  reached_first = let t = ranks-there b v o x i in let p = t.0 in let q = t.1 in record { rank = 0; steps = refl; most = omega arith }

  pub reached_rest : Reached (next_of b v) v.words (onward b v x) (v.words - x.after)
  unfolding start_of stepped_by stepped_as
  reached_rest =
      let t = ranks-there b v o x i in
      let p = t.0 in
      let q = t.1 in
      let z : x.before + (x.after - x.before) ≡ x.after = omega arith in
      let u : stepped_as (next_of b v) (next_of b v before) x.after ≡ onward b v x = rw z at (stepped_as_add (next_of b v) (next_of b v before) x.before (x.after - x.before)) in
      record { rank = x.after; steps = sym u; most = omega arith }
