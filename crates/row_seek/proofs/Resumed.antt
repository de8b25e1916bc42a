-- A search that goes on from where a cursor stands. Assumes nothing.
use Prim.Native.Nat.{ℕ, zero, suc, ◌+◌, ◌≤◌, ◌<◌}
use mathlib.Core.Path.{◌≡◌, sym, ap, ◌∙◌, subst}
use mathlib.Core.Logic.{⊎_elim}
use mathlib.Core.Bool.{true, false}
use mathlib.Core.List.{List, [], ◌∷◌}
use native.Mathlib.Nat.{add-zero, zero-add, lt_of_not-le}
use native.Mathlib.Decide.{dec_le}
use native.Mathlib.Numerals.{add-one}
use native.Mathlib.Omega.{arith}
use lib.ListN.{length, get_or, take, drop, drop_of_length-le}
use lib.Seq.{drop-cons}
use borrow.Author.Tests.{eq-eqb, ne_eqb, lt-ltb, le-ltb}
use Rattle.format.specs.declared.View.{View}
use Rattle.format.specs.Tools.{Below}
use Rattle.format.specs.Answers.{empty, given}
use Rattle.format.specs.Opened.{Free}
use Rattle.format.specs.Accepted.{empty_of, words_of, positions_of}
use Rattle.format.specs.Lookups.{rank_in}
use Rattle.laws.proofs.Stored.{Rising}
use Rattle.laws.proofs.Bounds.{below_widen}
use Rattle.laws.proofs.Positions.{rising-at}
use Rattle.laws.proofs.Search.{rank_among, not-among, rank-among}
use Rattle.parts.specs.declared.Cursor.{Cursor}
use Rattle.wire.specs.Wire.{add32}
use Rattle.parts.specs.Cursor.{before}
use Rattle.parts.specs.Holds.{ViewOf}
use Rattle.parts.proofs.Steps.{add32-small}
use Rattle.parts.proofs.Seen.{Seen, seen}
use Rattle.kinds.specs.Steps.{next_of, start_of, by_walk, stores_runs}
use Rattle.kinds.proofs.None.{never}
use Rattle.kinds.proofs.Laws.{rank-next}
use Rattle.kinds.proofs.Walks.{Ahead, walk_start, walk-next}
use Rattle.search.specs.Searched.{RankSearched}
use Rattle.row_seek.specs.Ready.{Ready}

-- ---- among positions

-- no position before rank r is p or above
among-passed : (p q s r : ℕ) (ls : List ℕ) → p ≤ q → r ≤ length ls → Below p (take r ls) → rank_among q s ls ≡ rank_among q (s + r) (drop r ls)
unfolding rank_among
among-passed p q s zero ls h n b = rw (add-zero s)
among-passed p q s (suc r) [] h n b = absurd (omega arith)
among-passed p q s (suc r) (l ∷ ls) h n b =
    let e : s + suc r ≡ suc s + r = omega arith in
    rw (lt-ltb l q (omega (arith, b.0)), e) (among-passed p q (suc s) r ls h (omega arith) b.1)

-- where rank r stands below p, so do those before
passed-through : (a B p r : ℕ) (ls : List ℕ) → Rising a B ls → r < length ls → get_or ls r 0 < p → Below p (take (suc r) ls)
passed-through a B p r [] o n h = tt
passed-through a B p zero (l ∷ ls) o n h = (h, tt)
passed-through a B p (suc r) (l ∷ ls) o n h =
    let i = rising-at (suc l) B ls r o.2 (omega arith) in
    (omega arith, passed-through (suc l) B p r ls o.2 (omega arith) h)

rising_rest : (a B r x : ℕ) (ls xs : List ℕ) → Rising a B ls → drop r ls ≡ x ∷ xs → Rising x B (x ∷ xs)
rising_rest a B zero x [] xs o e = absurd (let n = ap length e in omega arith)
rising_rest a B (suc r) x [] xs o e = absurd (let n = ap length e in omega arith)
rising_rest a B zero x (l ∷ ls) xs o e =
    let y : l ≡ x = ap (λ (z : List ℕ). get_or z 0 0) e in
    subst (Rising x B) e (omega arith, o.1, o.2)
rising_rest a B (suc r) x (l ∷ ls) xs o e = rising_rest (suc l) B r x ls xs o.2 e

-- ---- a kind's number

pub runs_no_walk : (k : ℕ) → stores_runs k → by_walk k ≡ false
runs_no_walk k s =
    rw (ne_eqb k 4 (λ z. ⊎_elim (λ e. omega arith) (λ e. omega arith) s)) (ne_eqb k 6 (λ z. ⊎_elim (λ e. omega arith) (λ e. omega arith) s))

walk_no_runs : (k : ℕ) → by_walk k ≡ true → stores_runs k → ⊥
walk_no_runs k w s = never (sym (runs_no_walk k s) ∙ w)

-- ---- on an accepted file

pub ready_later : (b : List ℕ) (v : View) (c : Cursor) (p q : ℕ) → p ≤ q → Ready b v c p → Ready b v c q
ready_later b v c p q h y =
    record { rank = y.rank; at = y.at; ahead = y.ahead; run = y.run; passed = below_widen p q (take c.rank (positions_of b)) h y.passed }

module _ (b : List ℕ) (v : View) (o : ViewOf b v) where
  known : Seen b v
  known = seen b v o

  pub words-few : v.words ≤ 16777216
  words-few = let n = known.header.counted in omega (arith, n.words-most, n.cells-most)

  pub passed-at : (p r : ℕ) → r < v.words → get_or (positions_of b) r 0 < p → Below p (take (r + 1) (positions_of b))
  passed-at p r n h = rw (add-one r) (passed-through 0 v.cells p r (positions_of b) known.holds.rising (rw known.holds.size n) h)

  from_rank : (c : Cursor) (r : ℕ) → c.rank ≡ r → Ahead b v c r → Ahead b v c c.rank
  from_rank c r z w = subst (Ahead b v c) (sym z) w

  -- a cursor that can walk on stands at the position of its rank
  by_walk_lem : (stores_runs v.kind → ⊥) → (c : Cursor) (p : ℕ) → c.rank ≤ v.words → Ahead b v c c.rank → Below p (take c.rank (positions_of b))
      → Ready b v c p
  by_walk_lem s c p n w below =
      record { rank = n; at = λ h. (walk-next b v o c c.rank h w).position; ahead = λ k. w; run = λ k. absurd (s k); passed = below }

  rank_start : (start_of b v).rank ≡ 0
  unfolding start_of add32
  rank_start = rank-next b v before known.header.counted.allowed

  pub ready_start : (stores_runs v.kind → ⊥) → (c : Cursor) → c ≡ start_of b v → Ready b v c 0
  ready_start s c e =
      let z : c.rank ≡ 0 = ap (λ (x : Cursor). x.rank) e ∙ rank_start in
      by_walk_lem s c 0 (omega arith) (from_rank c 0 z (rw e (walk_start b v o))) (rw z tt)

  module _ (c : Cursor) (p : ℕ) (y : Ready b v c p) where
    left : p < v.cells → rank_in (empty_of b) (words_of b) p ≡ rank_among p c.rank (drop c.rank (positions_of b))
    left k =
        rank-among (empty_of b) p (words_of b) (rw known.words_size k)
        ∙ ap (rank_among p 0) (sym known.stored)
        ∙ among-passed p p 0 c.rank (positions_of b) (omega arith) (rw known.holds.size y.rank) y.passed
        ∙ ap (λ (r : ℕ). rank_among p r (drop c.rank (positions_of b))) (zero-add c.rank)

    pub sought-none : p < v.cells → v.words ≤ c.rank → RankSearched b v p (empty c.rank)
    unfolding rank_among
    sought-none k h =
        let n : length (positions_of b) ≤ c.rank = rw known.holds.size h in
        record { right = λ z. sym (left k ∙ rw (drop_of_length-le (positions_of b) n)); free = Free.none c.rank }

    module _ (more : c.rank < v.words) where
      next-there : drop c.rank (positions_of b) ≡ c.at ∷ drop (suc c.rank) (positions_of b)
      next-there =
          drop-cons (positions_of b) c.rank 0 (rw known.holds.size more)
          ∙ ap (λ (x : ℕ). x ∷ drop (suc c.rank) (positions_of b)) (sym (y.at more))

      pub sought-here : p < v.cells → c.at ≡ p → RankSearched b v p (given c.rank)
      unfolding rank_among
      sought-here k e = record { right = λ z. sym (left k ∙ rw (next-there, le-ltb c.at p (omega arith), eq-eqb c.at p e)); free = Free.number c.rank more }

      pub sought-past : p < v.cells → p < c.at → RankSearched b v p (empty c.rank)
      sought-past k h =
          let s = rising_rest 0 v.cells c.rank c.at (positions_of b) _ known.holds.rising next-there in
          record {
            right = λ z. sym (left k ∙ rw next-there (not-among p c.rank _ (c.at ∷ drop (suc c.rank) (positions_of b)) (h, s.1, s.2)));
            free = Free.none c.rank;
          }

      pub rank_up : (d : Cursor) → d ≡ next_of b v c → d.rank ≡ c.rank + 1
      rank_up d e = let m = words-few in ap (λ (x : Cursor). x.rank) e ∙ rank-next b v c known.header.counted.allowed ∙ add32-small c.rank 1 (omega arith)

      pub ready-next : by_walk v.kind ≡ true → (d : Cursor) → d ≡ next_of b v c → c.at < p → Ready b v d p
      ready-next k d e h =
          let u = rank_up d e in
          let t = walk-next b v o c c.rank more (y.ahead k) in
          by_walk_lem (walk_no_runs v.kind k) d p (omega arith) (from_rank d (c.rank + 1) u (rw e t.rest)) (rw u (passed-at p c.rank more (rw (← y.at more) h)))

    -- before the next stored cell
    pub sought-empty : p < v.cells → (c.rank < v.words → p < c.at) → RankSearched b v p (empty c.rank)
    sought-empty k h = elim (dec_le v.words c.rank) [ yes n ↦ sought-none k n | no n ↦ let m = lt_of_not-le n in sought-past m k (h m) ]
