-- The words of a file after an edit as three stretches of bytes. Assumes nothing.
use Prim.Native.Nat.{ℕ, ◌+◌, ◌-◌, ◌*◌, ◌≤◌}
use mathlib.Core.Path.{◌≡◌, refl, sym, ap, ◌∙◌}
use mathlib.Core.List.{List, [], ◌∷◌, ◌++◌, append-nil}
use native.Mathlib.Omega.{arith}
use lib.ListN.{length, take, drop, length-append, length-drop}
use lib.Seq.{drop-drop, take_all, length-take-le}
use Rattle.std.specs.Prelude.{Some}
use Rattle.std.specs.Option.{option_and}
use Rattle.format.specs.Bytes.{bytes, bytes_of}
use Rattle.laws.proofs.Bytes.{length-bytes_of, bytes-append}
use Rattle.format.specs.declared.View.{View}
use Rattle.format.specs.Accepted.{kept_of}
use Rattle.laws.proofs.Files.{from_words}
use Rattle.laws.proofs.RankRange.{take-bytes_of, drop-bytes_of}
use Rattle.stores.specs.Put.{put}
use Rattle.stores.proofs.Laws.{put-append, put-numbers_nil}
use Rattle.parts.specs.Holds.{ViewOf}
use Rattle.parts.proofs.Seen.{Seen, seen}
use Rattle.edits.specs.declared.Edit.{Edit}
use Rattle.edits.specs.Edit.{listed, overlaid, EditOf}

-- ---- one word, or none

pub word_size : (w : ℕ) → length (bytes_of 4 (w ∷ [])) ≡ 4
word_size w = length-bytes_of 4 (w ∷ [])

pub put_one : (d : List ℕ) (at w : ℕ) → put d at (bytes_of 4 (w ∷ [])) ≡ put d at (bytes 4 w)
unfolding bytes_of
put_one d at w = rw (append-nil (bytes 4 w))

pub none-size : length (bytes_of 4 []) ≡ 0
unfolding bytes_of
none-size = refl

pub put-none : (d : List ℕ) (at : ℕ) → put d at (bytes_of 4 []) ≡ d
put-none d at = put-numbers_nil 4 d at

-- ---- the words of an accepted file after an edit

module _ (b : List ℕ) (v : View) (o : ViewOf b v) (x : Edit) (i : EditOf b x) (w : ℕ) where
  abbrev vs : List ℕ
  vs = kept_of b

  abbrev new : List ℕ
  new = listed (option_and x.added (Some w))

  abbrev from : ℕ
  from = v.place + 4 * x.after

  file : Seen b v
  file = seen b v o

  there : (x.before ≤ x.after) × (x.after ≤ v.words) × (length vs ≡ v.words) × (length b ≡ v.place + 4 * v.words)
  there = (i.ordered, rw file.words i.inside, file.kept-size, file.header.long)

  -- both stretches of ranks are in the file
  pub front-there : v.place + 4 * x.before ≤ length b
  front-there = let t = there in omega arith

  pub rest_there : from ≤ length b
  rest_there = let t = there in omega arith

  words-there : drop v.place b ≡ bytes_of 4 vs
  words-there =
      rw file.header.place (from_words _ _ _ _ b file.file) ∙ ap (bytes_of 4) (sym file.kept)

  front_bytes : take (4 * x.before) (drop v.place b) ≡ bytes_of 4 (take x.before vs)
  front_bytes = rw words-there (take-bytes_of 4 x.before vs)

  rest_bytes : take (length b - from) (drop from b) ≡ bytes_of 4 (drop x.after vs)
  rest_bytes =
      take_all (length b - from) (drop from b) (let n = length-drop from b in omega arith)
      ∙ rw (← drop-drop (4 * x.after) v.place b, words-there) (drop-bytes_of 4 x.after vs)

  three : bytes_of 4 (overlaid x w vs) ≡ bytes_of 4 (take x.before vs) ++ bytes_of 4 new ++ bytes_of 4 (drop x.after vs)
  unfolding overlaid
  three =
      bytes-append 4 (take x.before vs ++ new) (drop x.after vs)
      ∙ ap (λ (l : List ℕ). l ++ bytes_of 4 (drop x.after vs)) (bytes-append 4 (take x.before vs) new)

  front-size : length (bytes_of 4 (take x.before vs)) ≡ 4 * x.before
  front-size =
      let t = there in
      length-bytes_of 4 (take x.before vs) ∙ ap (λ (n : ℕ). 4 * n) (length-take-le x.before vs (omega arith))

  pub all-size : 4 * length (overlaid x w vs) ≡ 4 * x.before + length (bytes_of 4 new) + (length b - from)
  all-size =
      let f = bytes_of 4 (take x.before vs) in
      let r = bytes_of 4 (drop x.after vs) in
      let a = length-bytes_of 4 (overlaid x w vs) in
      let t = ap length three ∙ length-append (f ++ bytes_of 4 new) r in
      let u = length-append f (bytes_of 4 new) in
      let z : length r ≡ 4 * (v.words - x.after)
      = length-bytes_of 4 (drop x.after vs) ∙ ap (λ (n : ℕ). 4 * n) (length-drop x.after vs ∙ ap (λ (n : ℕ). n - x.after) file.kept-size) in
      let q = there in
      let s = front-size in
      omega arith

  pub all-put : (d : List ℕ) (place : ℕ)
      → put (put (put d place (take (4 * x.before) (drop v.place b))) (place + 4 * x.before) (bytes_of 4 new))
      (place + 4 * x.before + length (bytes_of 4 new)) (take (length b - from) (drop from b))
      ≡ put d place (bytes_of 4 (overlaid x w vs))
  all-put d place =
      let f = bytes_of 4 (take x.before vs) in
      let r = bytes_of 4 (drop x.after vs) in
      let s : place + length (f ++ bytes_of 4 new) ≡ place + 4 * x.before + length (bytes_of 4 new)
      = let u = length-append f (bytes_of 4 new) in let t = front-size in omega arith in
      rw (front_bytes, rest_bytes, three)
      (sym (put-append d place (f ++ bytes_of 4 new) r ∙ rw (s, put-append d place f (bytes_of 4 new), front-size)))
