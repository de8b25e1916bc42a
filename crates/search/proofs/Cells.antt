-- The word of a cell by its rank. Assumes nothing.
use Prim.Native.Nat.{ℕ, zero, suc, ◌+◌, ◌*◌, ◌<◌}
use mathlib.Core.Path.{◌≡◌, sym, ap, subst, ◌∙◌}
use mathlib.Core.Bool.{false}
use mathlib.Core.List.{List, [], ◌∷◌}
use native.Mathlib.Omega.{arith}
use lib.ListN.{length, get_or, take}
use lib.Dec.{eqb, ltb}
use borrow.Author.Tests.{eqb-true, ltb-true}
use Rattle.std.specs.Prelude.{Ok}
use Rattle.format.specs.declared.Rank.{Rank}
use Rattle.format.specs.declared.View.{View}
use Rattle.format.specs.declared.RankAnswer.{RankAnswer}
use Rattle.format.specs.declared.RankAnswer.TheVariants as ra
use Rattle.format.specs.Answers.{Answer, refused, empty, given, rank_says}
use Rattle.format.specs.Stored.{stored, kept, rank_at}
use Rattle.format.specs.Accepted.{empty_of, words_of, words_count, words_at, kept_of}
use Rattle.format.specs.Lookups.{cell_in, rank_in}
use Rattle.format.specs.Opened.{view_of, Free, FreeWord}
use Rattle.wire.specs.Wire.{whole}
use Rattle.wire.proofs.Laws.{whole-there}
use Rattle.laws.proofs.Tools.{cases}
use Rattle.laws.proofs.Numbers.{numbers-at}
use Rattle.laws.proofs.Stored.{length-stored}
use Rattle.laws.proofs.Files.{kept_back, words-count-back}
use Rattle.laws.proofs.Acceptance.{accepted_has_file}
use Rattle.parts.specs.Holds.{ViewOf}
use Rattle.parts.proofs.Seen.{seen}
use Rattle.search.specs.Searched.{CellSearched, RankSearched}
use Rattle.search.proofs.RankAnswers.{no_rank}

-- the word at the rank of a stored cell is the cell's
kept_at : (E p : ℕ) (ws : List ℕ) → p < length ws → eqb (get_or ws p 0) E ≡ false → get_or (kept E ws) (length (kept E (take p ws))) 0 ≡ get_or ws p 0
unfolding kept
kept_at E p [] h e = absurd (omega arith)
kept_at E zero (x ∷ ws) h e = rw e
kept_at E (suc p) (x ∷ ws) h e =
    cases (eqb x E)
    (λ t. rw t (kept_at E p ws (omega arith) e))
    (λ t. rw t (kept_at E p ws (omega arith) e))

-- what a cell is, by the answer of the rank search
abbrev pub cell_by : List ℕ → View → Answer → Answer
cell_by b v (refused n) = refused n
cell_by b v (empty n) = given v.empty
cell_by b v (given r) = given (whole 4 (v.place + 4 * r) b)

word_at : (b : List ℕ) (v : View) → ViewOf b v → (r : ℕ) → r < words_count b → whole 4 (v.place + 4 * r) b ≡ get_or (kept_of b) r 0
unfolding kept_of
word_at b v o r h =
    let n = seen b v o in
    let l = n.header.long in
    let w = n.words in
    let p = n.header.place in
    rw (whole-there 4 (v.place + 4 * r) b (omega arith), p) (sym (numbers-at 4 (words_count b) (words_at b) r b h))

ranks-below : (E p : ℕ) (ws : List ℕ) → p < length ws → eqb (get_or ws p 0) E ≡ false → length (kept E (take p ws)) < length (kept E ws)
unfolding kept
ranks-below E p [] h e = absurd (omega arith)
ranks-below E zero (x ∷ ws) h e = rw e (omega arith)
ranks-below E (suc p) (x ∷ ws) h e =
    let i = ranks-below E p ws (omega arith) e in
    cases (eqb x E) (λ t. rw t i) (λ t. rw t (omega arith))

cell_by_rank : (b : List ℕ) (v : View) → ViewOf b v → (p : ℕ) → cell_by b v (rank_in (empty_of b) (words_of b) p) ≡ cell_in (words_of b) p
unfolding rank_in cell_in rank_at stored view_of
cell_by_rank b v o p =
    let h = accepted_has_file b o.accepted in
    let ws = words_of b in
    let E = empty_of b in
    cases (ltb p (length ws))
    (λ t.
    let k = ltb-true p (length ws) t in
    cases (eqb (get_or ws p 0) E)
    (λ e. rw (t, e) (ap given (ap (λ (x : View). x.empty) o.view ∙ sym (eqb-true (get_or ws p 0) E e))))
    (λ e.
    let l = length-stored E 0 (take p ws) in
    let n : length (kept E (take p ws)) < words_count b = rw (words-count-back _ _ _ _ b h) (ranks-below E p ws k e) in
    rw (t, e, l) (ap given (word_at b v o _ n ∙ ap (λ (x : List ℕ). get_or x (length (kept E (take p ws))) 0) (kept_back _ _ _ _ b h) ∙ kept_at E p ws k e))))
    (λ t. rw t)

-- a free answer by a free rank
cell_free : (b : List ℕ) (v : View) (bound : ℕ) (a : Answer) → Free bound a → FreeWord (cell_by b v a)
cell_free b v bound a Free.beyond = FreeWord.beyond
cell_free b v bound a (Free.none n) = FreeWord.word v.empty
cell_free b v bound a (Free.number n h) = FreeWord.word _

pub cell-searched : (b : List ℕ) (v : View) (p : ℕ) (a : Answer) → RankSearched b v p a → CellSearched b v p (cell_by b v a)
cell-searched b v p a s =
    record { right = λ o. ap (cell_by b v) (s.right o) ∙ cell_by_rank b v o p; free = cell_free b v v.words a s.free }

-- an answer that is no rank is "empty"
pub cell-empty : (b : List ℕ) (v : View) (p : ℕ) (a : RankAnswer) → ((r : Rank) → a ≡ ra.Rank r → ⊥) → RankSearched b v p (rank_says (Ok a))
    → CellSearched b v p (given v.empty)
cell-empty b v p a h s =
    let n = no_rank a h in
    cell-searched b v p (empty n.0.0) (subst (λ (x : RankAnswer). RankSearched b v p (rank_says (Ok x))) n.1 s)
