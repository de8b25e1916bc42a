-- A row by its stored cells and the empty ones between: what is left of it gives the whole. Assumes nothing.
use Prim.Native.Nat.{ℕ, zero, suc, ◌+◌, ◌-◌, ◌*◌, ◌≤◌, ◌<◌}
use mathlib.Core.Path.{◌≡◌, refl, sym, ap, ap₂, ◌∙◌}
use mathlib.Core.List.{List, ◌∷◌, ◌++◌, append_assoc}
use native.Mathlib.Nat.{lt_of_not-le}
use native.Mathlib.Decide.{dec_le}
use native.Mathlib.Omega.{arith}
use borrow.Rule.Slice.PartMut.{put_mid}
use lib.ListN.{length, get_or, take, drop, replicate, length-replicate, length-drop}
use lib.Seq.{drop-drop, length-take-le}
use lib.Arith.{lt_of_le-ne}
use borrow.Author.Tests.{lt-ltb}
use Rattle.std.specs.Prelude.{Ok}
use Rattle.format.specs.declared.View.{View}
use Rattle.format.specs.declared.Rank.{Rank}
use Rattle.format.specs.declared.RankAnswer.{RankAnswer}
use Rattle.format.specs.declared.RankAnswer.TheVariants as ra
use Rattle.format.specs.Tools.{range, first}
use Rattle.format.specs.Bytes.{field, numbers_of}
use Rattle.format.specs.Answers.{Answer, refused, empty, given, values_of, rank_says}
use Rattle.format.specs.Accepted.{words_of}
use Rattle.format.specs.Lookups.{cell_in}
use Rattle.laws.proofs.Tools.{length-range}
use Rattle.laws.proofs.Numbers.{numbers_turn, numbers-end}
use Rattle.stores.specs.Put.{put}
use Rattle.stores.proofs.Laws.{put-append, put-fits, length-put}
use Rattle.wire.specs.Wire.{whole}
use Rattle.wire.proofs.Laws.{whole-there}
use Rattle.parts.specs.declared.Cursor.{Cursor}
use Rattle.parts.specs.Holds.{ViewOf}
use Rattle.parts.proofs.Seen.{seen}
use Rattle.kinds.specs.Steps.{stores_runs}
use Rattle.search.specs.Searched.{RankSearched}
use Rattle.search.proofs.Cells.{cell_by, cell-searched}
use Rattle.search.proofs.RankAnswers.{no_rank}
use Rattle.box_rows.specs.declared.Filled.{Filled}
use Rattle.row_seek.specs.Ready.{Ready, Reached}
use Rattle.box_rows.specs.Filling.{words_on, RowFilled}
use Rattle.row_seek.proofs.Resumed.{ready_later, sought-none, sought-here, sought-past, sought-empty}
use Rattle.row_seek.proofs.Runs.{ranks-inside, sought-along}
use Rattle.box_region.proofs.Counted.{range-append}
use Rattle.box_rows.proofs.Turns.{words_append, length-words_on}

-- ---- the word of a cell, by the answer of the search

-- 1 where an answer is a rank
abbrev is_rank : Answer → ℕ
is_rank (refused n) = 0
is_rank (empty n) = 0
is_rank (given r) = 1

module _ (b : List ℕ) (v : View) (o : ViewOf b v) (p : ℕ) (k : p < v.cells) where
  cell_is : (a : Answer) → RankSearched b v p a → cell_by b v a ≡ given (get_or (words_of b) p 0)
  unfolding cell_in
  cell_is a s = (cell-searched b v p a s).right o ∙ rw (lt-ltb p (length (words_of b)) (rw (seen b v o).words_size k))

  word-stored : (r : ℕ) → RankSearched b v p (given r) → whole 4 (v.place + 4 * r) b ≡ get_or (words_of b) p 0
  word-stored r s = ap (λ (x : Answer). first (values_of x)) (cell_is (given r) s)

  word_none : (n : ℕ) → RankSearched b v p (empty n) → v.empty ≡ get_or (words_of b) p 0
  word_none n s = ap (λ (x : Answer). first (values_of x)) (cell_is _ s)

  module _ (c : Cursor) (y : Reached b v c p) (a : RankAnswer) (s : RankSearched b v p (rank_says (Ok a))) where
    -- two answers are the same
    agree : (x : Answer) → RankSearched b v p x → rank_says (Ok a) ≡ x
    agree x t = s.right o ∙ sym (t.right o)

    -- where the answer is no rank, the cursor stands past the position
    pub stands-past : ((r : Rank) → a ≡ ra.Rank r → ⊥) → c.rank < v.words → p < c.at
    stands-past h more =
        let z = no_rank a h in
        lt_of_le-ne (y.past more)
        (λ e. let t = ap is_rank (rw z.1 at (agree _ (sought-here b v o c p y.ready more k (sym e)))) in omega arith)

    -- where it is one, the cursor stands there
    pub stands_here : (r : Rank) → a ≡ ra.Rank r → (c.rank < v.words) × (c.at ≡ p) × (c.rank ≡ r.0)
    stands_here r e =
        elim (dec_le v.words c.rank) [
          | yes n ↦ absurd (none _ (sought-none b v o c p y.ready k n))
          | no n ↦
              let more = lt_of_not-le n in
              elim (dec_le c.at p) [
                | yes q ↦
                    let z : c.at ≡ p = let l = y.past more in omega arith in
                    let t = ap (λ (x : Answer). first (values_of x)) (rw e at (agree _ (sought-here b v o c p y.ready more k z))) in
                    (more, z, sym t)
                | no q ↦ absurd (none _ (sought-past b v o c p y.ready more k (lt_of_not-le q)))
              ]
        ]
      where
        none : (n : ℕ) → RankSearched b v p (empty n) → ⊥
        none n t = let z = ap is_rank (rw e at (agree (empty n) t)) in omega arith

-- the cells before the next stored one
pub words-empty : (b : List ℕ) (v : View) → ViewOf b v → (c : Cursor) (p m : ℕ) → Ready b v c p → p + m ≤ v.cells
    → (c.rank < v.words → p + m ≤ c.at) → replicate m v.empty ≡ words_on b (range p m)
unfolding words_on range
words-empty b v o c p zero y k h = refl
words-empty b v o c p (suc m) y k h =
    let e = word_none b v o p (omega arith) _ (sought-empty b v o c p y (omega arith) (λ n. let z = h n in omega arith)) in
    let i = words-empty b v o c (suc p) m (ready_later b v c p (suc p) (omega arith) y) (omega arith) (λ n. let z = h n in omega arith) in
    ap₂ (λ (x : ℕ) (xs : List ℕ). x ∷ xs) e i

-- numbers of 4 bytes that are the words of the cells from p on
words_read : (b : List ℕ) (at p m : ℕ) → ((i : ℕ) → i < m → field 4 (at + 4 * i) b ≡ get_or (words_of b) (p + i) 0) → numbers_of 4 m (drop at b) ≡ words_on b (range p m)
unfolding words_on range
words_read b at p zero h = numbers-end 4 0 (drop at b) (omega arith)
words_read b at p (suc m) h =
    let later : (i : ℕ) → i < m → field 4 (at + 4 + 4 * i) b ≡ get_or (words_of b) (suc p + i) 0
    = λ i k.
    let z : at + 4 + 4 * i ≡ at + 4 * suc i = omega arith in
    let y : suc p + i ≡ p + suc i = omega arith in
    rw (z, y) (h (suc i) (omega arith)) in
    let z : at + 4 * 0 ≡ at = omega arith in
    let y : p + 0 ≡ p = omega arith in
    let l : suc m - 1 ≡ m = omega arith in
    rw l at (numbers_turn 4 (suc m) at b (omega arith)) ∙ ap₂ (λ (x : ℕ) (xs : List ℕ). x ∷ xs) (rw (z, y) at (h 0 (omega arith))) (words_read b (at + 4) (suc p) m later)

-- the stored cells ahead
module _ (b : List ℕ) (v : View) (o : ViewOf b v) (c : Cursor) (p m : ℕ) (y : Ready b v c p) (more : c.rank < v.words) (e : c.at ≡ p)
    (h : 1 < m → stores_runs v.kind × (c.at + m ≤ c.last + 1)) where
  pub words-there : v.place + 4 * c.rank + 4 * m ≤ length b
  words-there = let n = ranks-inside b v o c p m y more e h in let l = (seen b v o).header.long in omega arith

  pub words-stored : p + m ≤ v.cells → numbers_of 4 m (drop (v.place + 4 * c.rank) b) ≡ words_on b (range p m)
  words-stored k =
      words_read b (v.place + 4 * c.rank) p m
      (λ i l.
      let n = words-there in
      let z : v.place + 4 * c.rank + 4 * i ≡ v.place + 4 * (c.rank + i) = omega arith in
      rw z
      (sym (whole-there 4 (v.place + 4 * (c.rank + i)) b (omega arith))
      ∙ word-stored b v o (p + i) (omega arith) (c.rank + i) (sought-along b v o c p m y more e h i l (omega arith))))

-- a part lent and filled
pub part_filled : (d ys : List ℕ) (a n x : ℕ) → a + n ≤ length d → ys ≡ replicate (length (take (a + n - a) (drop a d))) x
    → put_mid a (a + n - a) d ys ≡ put d a (replicate n x)
part_filled d ys a n x h e =
    let z : a + n - a ≡ n = omega arith in
    let l : length (take n (drop a d)) ≡ n = length-take-le n (drop a d) (omega (arith, length-drop a d)) in
    let w = length-replicate n x in
    rw (e, z, l, drop-drop n a d) (sym (append_assoc (take a d) (replicate n x) (drop (a + n) d)) ∙ sym (put-fits d a (replicate n x) (rw w h) ∙ rw w))

-- ---- the row

-- n cells from a position on, with k₀ words in the destination before; the next cell is p, and k words are there
pub record RowLeft (b : List ℕ) (v : View) (from n k₀ : ℕ) (dst₀ dst : List ℕ) (c : Cursor) (p k : ℕ) : Type 0 where
  pub most : k ≤ k₀ + n
  pub place : p + (k₀ + n) ≡ from + n + k
  pub size : length dst ≡ length dst₀
  pub rest : put dst k (words_on b (range p (k₀ + n - k))) ≡ put dst₀ k₀ (words_on b (range from n))
  pub ready : Ready b v c p

module _ (b : List ℕ) (v : View) (from n k₀ : ℕ) (dst₀ : List ℕ) where
  pub row_start : (c : Cursor) → Ready b v c from → RowLeft b v from n k₀ dst₀ dst₀ c from k₀
  row_start c y =
      let z : k₀ + n - k₀ ≡ n = omega arith in
      record { most = omega arith; place = omega arith; size = refl; rest = rw z; ready = y }

  module _ (dst : List ℕ) (c : Cursor) (p k : ℕ) (w : RowLeft b v from n k₀ dst₀ dst c p k) where
    pub row_inside : (m most : ℕ) → k + m ≤ k₀ + n → from + n ≤ most → p + m ≤ most
    row_inside m most h l = let e = w.place in omega arith

    -- m cells more
    pub row_turn : (d : Cursor) (m : ℕ) (xs after : List ℕ) → k + m ≤ k₀ + n → xs ≡ words_on b (range p m) → after ≡ put dst k xs → Ready b v d p
        → RowLeft b v from n k₀ dst₀ after d (p + m) (k + m)
    row_turn d m xs after h e a y =
        let q = w.place in
        let l = k₀ + n - (k + m) in
        let z : k₀ + n - k ≡ m + l = omega arith in
        let x : length xs ≡ m = ap length e ∙ length-words_on b (range p m) ∙ length-range p m in
        let s : words_on b (range p (m + l)) ≡ xs ++ words_on b (range (p + m) l)
        = ap (words_on b) (range-append p m l) ∙ words_append b (range p m) (range (p + m) l) ∙ rw (← e) in
        let t : put dst k (words_on b (range p (k₀ + n - k))) ≡ put after (k + m) (words_on b (range (p + m) l))
        = rw (z, s, a) (put-append dst k xs (words_on b (range (p + m) l)) ∙ rw x) in
        record {
          most = h;
          place = omega arith;
          size = ap length a ∙ length-put dst k xs ∙ w.size;
          rest = sym t ∙ w.rest;
          ready = ready_later b v d p (p + m) (omega arith) y;
        }

    pub row-end : (s : Filled) → k₀ ≡ s.words → k₀ + n ≤ k → RowFilled b v s from n dst₀ (record { cursor = c; words = k }) dst
    unfolding words_on range put
    row-end s z h =
        let l = w.most in
        let q = w.place in
        let m : k₀ + n - k ≡ 0 = omega arith in
        let t : p ≡ from + n = omega arith in
        record { put = rw (← z) (rw m at w.rest); words = rw (← z) (omega arith); ready = rw (← t) w.ready }
