-- The lines of an accepted file, put one after the other: what is left gives the whole. Assumes nothing.
use Prim.Native.Nat.{ℕ, suc, ◌+◌, ◌*◌, ◌≤◌, ◌<◌}
use mathlib.Core.Path.{◌≡◌, sym, ap, ◌∙◌, subst}
use mathlib.Core.List.{List, [], ◌∷◌, ◌++◌}
use native.Mathlib.Numerals.{add-one}
use native.Mathlib.Omega.{arith}
use lib.ListN.{length, get_or, drop, length-append, drop_of_length-le}
use lib.Seq.{drop-cons}
use Rattle.format.specs.declared.View.{View}
use Rattle.format.specs.Tools.{Below, first, others}
use Rattle.format.specs.Bytes.{field}
use Rattle.format.specs.Picture.{cells}
use Rattle.format.specs.Accepted.{setting_of, dimensions_of, words_count, positions_of, kept_of}
use Rattle.format.specs.Lister.{most_listed, line, rank_lines, file_lines}
use Rattle.laws.proofs.Settings.{small-setting}
use Rattle.laws.proofs.Bounds.{below-rising, below_widen}
use Rattle.stores.specs.Put.{put}
use Rattle.stores.proofs.Laws.{put-append, put_nil}
use Rattle.parts.specs.declared.Cursor.{Cursor}
use Rattle.parts.specs.Holds.{ViewOf}
use Rattle.parts.proofs.Seen.{Seen, seen}
use Rattle.kinds.proofs.Walks.{Ahead, Turned, walk-next}
use Rattle.scatter.proofs.Turn.{word_seen}
use Rattle.text.specs.Text.{Room, TextPut}
use Rattle.text.proofs.Decimal.{length-decimal, decimal-most}
use Rattle.text.proofs.Placing.{text_then, room-first, room-then, length-line}

-- of the text, to be put into `before` from index at on, `rest` is left, from index to on
pub record Left (text before : List ℕ) (at : ℕ) (rest : List ℕ) (to : ℕ) (now : List ℕ) : Type 0 where
  pub place : to + length rest ≡ at + length text
  pub bytes : put now to rest ≡ put before at text

left_turn : (text before : List ℕ) (at : ℕ) (xs ys d e : List ℕ) (to m : ℕ) → Left text before at (xs ++ ys) to d → TextPut xs d to m e
    → Left text before at ys m e
left_turn text before at xs ys d e to m h t =
    let p = h.place in
    let q = t.place in
    record { place = omega (arith, length-append xs ys); bytes = rw (t.bytes, q) (sym (put-append d to xs ys)) ∙ h.bytes }

left_end : (text before : List ℕ) (at : ℕ) (rest d : List ℕ) (to : ℕ) → rest ≡ [] → Left text before at rest to d → TextPut text before at to d
left_end text before at rest d to e h =
    let p = h.place in
    let n : length rest ≡ 0 = ap length e in
    record { place = omega arith; bytes = sym (put_nil d to) ∙ ap (put d to) (sym e) ∙ h.bytes }

left-room : (text before : List ℕ) (at : ℕ) (xs ys d : List ℕ) (to : ℕ) → Room text before at → length d ≡ length before
    → Left text before at (xs ++ ys) to d → Room xs d to
left-room text before at xs ys d to k n h = let p = h.place in room-first xs ys d to (omega arith)

rank_turn : (r : ℕ) (ls vs : List ℕ) → r < length ls → r < length vs
    → rank_lines r (drop r ls) (drop r vs) ≡ line r (get_or ls r 0) (get_or vs r 0) ++ rank_lines (r + 1) (drop (r + 1) ls) (drop (r + 1) vs)
unfolding rank_lines
rank_turn r ls vs h k = rw (drop-cons ls r 0 h, drop-cons vs r 0 k, add-one r)

rank-end : (r : ℕ) (ls vs : List ℕ) → length ls ≤ r → rank_lines r (drop r ls) vs ≡ []
unfolding rank_lines
rank-end r ls vs h = rw (drop_of_length-le ls {i = r} h)

-- the line of a rank in a file of at most 65,536 bytes
rank-length : (r l x : ℕ) → r < 16371 → l < 16777216 → length (line r l x) ≤ 26
rank-length r l x h k =
    let a = length-decimal 4 r (omega arith) in
    let b = length-decimal 7 l (omega arith) in
    let c = decimal-most x in
    rw (length-line r l x) (omega arith)

ranks-length : (r : ℕ) (ls vs : List ℕ) → r + length ls ≤ 16371 → Below 16777216 ls → length (rank_lines r ls vs) ≤ 26 * length ls
unfolding rank_lines
ranks-length r [] vs h k = omega arith
ranks-length r (l ∷ ls) vs h k =
    let a = rank-length r l (first vs) (omega arith) k.0 in
    let b = ranks-length (suc r) ls (others vs) (omega arith) k.1 in
    rw (length-append (line r l (first vs)) (rank_lines (suc r) ls (others vs))) (omega arith)

-- ---- of the view v of an accepted file b
module _ (b : List ℕ) (v : View) (o : ViewOf b v) where
  known : Seen b v
  known = seen b v o

  -- the lines of the ranks, and those from rank r on
  abbrev lines : List ℕ
  lines = rank_lines 0 (positions_of b) (kept_of b)

  abbrev lines_from : ℕ → List ℕ
  lines_from r = rank_lines r (drop r (positions_of b)) (drop r (kept_of b))

  -- a file of at most 65,536 bytes has few words
  few_words : length b ≤ most_listed → v.words ≤ 16371
  few_words h = let k = known.header in omega (arith, k.long, k.start, k.counted.second, k.behind)

  pub word-inside : (r : ℕ) → r < v.words → v.place + 4 * r + 4 ≤ length b
  word-inside r h = omega (arith, known.header.long)

  -- the first line
  first_seen : line v.kind v.cells v.words ≡ line (setting_of b).kind (cells (dimensions_of b)) (words_count b)
  first_seen = rw (known.kind, known.header.cells, known.words)

  first-length : length b ≤ most_listed → length (line v.kind v.cells v.words) ≤ 20
  first-length h =
      let s = small-setting (setting_of b) known.header.right.setting in
      let k = s.kind in
      let m = known.header.counted.cells-most in
      let w = few_words h in
      let t = known.kind in
      let x = length-decimal 0 v.kind (omega arith) in
      let y = length-decimal 7 v.cells (omega arith) in
      let z = length-decimal 4 v.words (omega arith) in
      rw (length-line v.kind v.cells v.words) (omega arith)

  lines_of : line v.kind v.cells v.words ++ lines ≡ file_lines b
  unfolding file_lines
  lines_of = ap (λ (l : List ℕ). l ++ lines) first_seen

  pub first-room : (d : List ℕ) → Room (file_lines b) d 0 → Room (line v.kind v.cells v.words) d 0
  first-room d h = room-first (line v.kind v.cells v.words) lines d 0 (rw lines_of h)

  module _ (d e : List ℕ) (m : ℕ) (x : TextPut (line v.kind v.cells v.words) d 0 m e) where
    pub ranks-room : Room (file_lines b) d 0 → Room lines e m
    ranks-room h = room-then (line v.kind v.cells v.words) lines d e 0 m (rw lines_of h) x

    pub first_then : (f : List ℕ) (r : ℕ) → TextPut lines e m r f → TextPut (file_lines b) d 0 r f
    first_then f r y = subst (λ (l : List ℕ). TextPut l d 0 r f) lines_of (text_then (line v.kind v.cells v.words) lines d e f 0 m r x y)

  -- all lines
  pub length-file : length (file_lines b) ≡ length (line v.kind v.cells v.words) + length lines
  length-file = rw (← lines_of) (length-append (line v.kind v.cells v.words) lines)

  pub file-most : length b ≤ most_listed → length (file_lines b) ≤ 426000
  file-most h =
      let n = few_words h in
      let z = known.holds.size in
      let m = known.header.counted.cells-most in
      let low = below_widen v.cells 16777216 (positions_of b) (omega arith) (below-rising 0 v.cells (positions_of b) known.holds.rising) in
      let x = first-length h in
      let y = ranks-length 0 (positions_of b) (kept_of b) (omega arith) low in
      omega (arith, length-file)

  pub ranks-most : length b ≤ most_listed → length lines ≤ 426000
  ranks-most h = omega (arith, length-file, file-most h)

  -- no line is left after the last rank
  none_left : (r : ℕ) → v.words ≤ r → lines_from r ≡ []
  none_left r h = rank-end r (positions_of b) (drop r (kept_of b)) (omega (arith, known.holds.size))

  pub lines_end : (before : List ℕ) (at r to : ℕ) (d : List ℕ) → v.words ≤ r → Left lines before at (lines_from r) to d → TextPut lines before at to d
  lines_end before at r to d h = left_end lines before at (lines_from r) d to (none_left r h)

  pub total-end : (r total : ℕ) → v.words ≤ r → total + length (lines_from r) ≡ length lines → total ≡ length lines
  total-end r total h e = let z : length (lines_from r) ≡ 0 = ap length (none_left r h) in omega arith

  -- ---- one rank
  module _ (r : ℕ) (c : Cursor) (word : ℕ) (h : r < v.words) (walk : Ahead b v c r)
      (at : word ≡ field 4 (v.place + 4 * r) b) where
    pub step : Turned b v c r
    step = walk-next b v o c r h walk

    this_line : line r c.at word ++ lines_from (r + 1) ≡ lines_from r
    this_line =
        rw (step.position, at, word_seen b v o r h)
        (sym (rank_turn r (positions_of b) (kept_of b) (omega (arith, known.holds.size)) (omega (arith, known.kept-size))))

    pub lines_turn : (before : List ℕ) (from : ℕ) (d e : List ℕ) (to m : ℕ) → Left lines before from (lines_from r) to d → TextPut (line r c.at word) d to m e
        → Left lines before from (lines_from (r + 1)) m e
    lines_turn before from d e to m l t =
        left_turn lines before from (line r c.at word) (lines_from (r + 1)) d e to m
        (subst (λ (x : List ℕ). Left lines before from x to d) (sym this_line) l) t

    pub line-room : (before : List ℕ) (from : ℕ) (d : List ℕ) (to : ℕ) → Room lines before from → length d ≡ length before
        → Left lines before from (lines_from r) to d → Room (line r c.at word) d to
    line-room before from d to k n l =
        left-room lines before from (line r c.at word) (lines_from (r + 1)) d to k n
        (subst (λ (x : List ℕ). Left lines before from x to d) (sym this_line) l)

    -- measured
    pub total_turn : (total : ℕ) → total + length (lines_from r) ≡ length lines
        → total + length (line r c.at word) + length (lines_from (r + 1)) ≡ length lines
    total_turn total e =
        let n : length (lines_from r) ≡ length (line r c.at word) + length (lines_from (r + 1))
        = ap length (sym this_line) ∙ length-append (line r c.at word) (lines_from (r + 1)) in
        omega arith
