-- The opened file (document 01, "The calls"): the caller's bytes with the header's numbers. Assumes nothing.
use Rattle.std.specs.Prelude.{ℕ, zero, suc, ◌<◌, ◌≡◌, List, [], eqb}
use Rattle.std.specs.Borrow.{Bor}
use Rattle.format.specs.declared.View.{View}
use Rattle.format.specs.Tools.{pick}
use Rattle.format.specs.Signals.{BEYOND}
use Rattle.format.specs.Answers.{Answer, refused, empty, given}
use Rattle.format.specs.Picture.{cells, dimensions_allowed}
use Rattle.format.specs.Accepted.{setting_of, dimensions_of, empty_of, words_count, first_count, second_count, first_offset, second_offset, words_offset, check_number}
use Rattle.format.specs.Lookups.{cell_answer, rank_answer, position_answer}

-- the header's numbers, of any bytes; no cells where the dimensions are not a picture's
unfoldable pub view_of : List ℕ → View
view_of b =
    record {
      kind = (setting_of b).kind;
      width = (setting_of b).width;
      step = (setting_of b).step;
      cells = pick (dimensions_allowed (dimensions_of b)) (cells (dimensions_of b)) 0;
      empty = empty_of b;
      words = words_count b;
      firsts = first_count b;
      seconds = second_count b;
      start = first_offset b;
      second = second_offset b;
      place = words_offset b;
    }

-- all counts 0
abbrev pub no_view : View
no_view = record { kind = 0; width = 0; step = 0; cells = 0; empty = 0; words = 0; firsts = 0; seconds = 0; start = 0; second = 0; place = 0 }

pub record Opened : Type 0 where
  pub bytes : List ℕ
  pub view : View

-- opening makes the complete check; a refused opening opens no bytes, with all counts 0
unfoldable pub opening : List ℕ → Opened
opening b =
    let opened : Opened = record { bytes = b; view = view_of b } in
    pick (eqb (check_number b) 0) opened (record { bytes = []; view = no_view })

-- the contract of opening the lent slice x: what is kept, and, where it is accepted, that the bytes are the caller's own. Check is the companion call
-- that gives the number.
pub record OpeningOf (x r : Bor (List ℕ)) (v : View) : Type 0 where
  pub view : v ≡ (opening x.now).view
  pub bytes : r.now ≡ (opening x.now).bytes
  pub own : check_number x.now ≡ 0 → r ≡ x

-- ---- lookups through an opened file

-- through an opening of b: the direct lookup's answer, or 8 where the opening was refused
abbrev pub via_opening : ℕ → Answer → Answer
via_opening zero a = a
via_opening (suc n) a = refused BEYOND

-- One answer is free (document 01, "What the surveyor looks for"): through a value that somebody put together over unchecked bytes a lookup gives 8,
-- "empty" with any number (rank at a position alone: a declared `PositionAnswer` has no such case; document 02, S-9), or a number below a bound.
pub data Free (bound : ℕ) : Answer → Type 0 where
  beyond : Free bound (refused BEYOND)
  none : (n : ℕ) → Free bound (empty n)
  number : (n : ℕ) → n < bound → Free bound (given n)

-- 8, or any word (a declared `CellAnswer` holds 32 bits)
pub data FreeWord : Answer → Type 0 where
  beyond : FreeWord (refused BEYOND)
  word : (x : ℕ) → FreeWord (given x)

pub record OpenedCell (o : Opened) (p : ℕ) (answer : Answer) : Type 0 where
  pub right : (b : List ℕ) → o ≡ opening b → answer ≡ via_opening (check_number b) (cell_answer b p)
  pub free : FreeWord answer

pub record OpenedRank (o : Opened) (p : ℕ) (answer : Answer) : Type 0 where
  pub right : (b : List ℕ) → o ≡ opening b → answer ≡ via_opening (check_number b) (rank_answer b p)
  pub free : Free o.view.words answer

pub record OpenedPosition (o : Opened) (r : ℕ) (answer : Answer) : Type 0 where
  pub right : (b : List ℕ) → o ≡ opening b → answer ≡ via_opening (check_number b) (position_answer b r)
  pub free : Free o.view.cells answer
