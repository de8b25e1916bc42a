-- The stored positions and words of a picture with one word written: a rank more, a rank less, or another word at a rank. Assumes nothing.
use Prim.Native.Nat.{ℕ, suc, ◌+◌, ◌≤◌, ◌<◌}
use mathlib.Core.Path.{◌≡◌, refl, sym, ap, ◌∙◌}
use mathlib.Core.List.{List, [], ◌∷◌, ◌++◌}
use native.Mathlib.Nat.{le_refl, zero-add}
use native.Mathlib.Omega.{arith}
use lib.ListN.{length, get_or, set, take, drop, length-append}
use lib.Seq.{length-take-le, split_at, set_split, take_at, drop_at, get_or_at, set_at, drop-append-add}
use borrow.Author.Tests.{eq-eqb, ne_eqb, lt-ltb}
use Rattle.format.specs.Stored.{stored_from, stored, kept, rank_at}
use Rattle.laws.proofs.Stored.{Rising, rising-stored, length-stored, stored-append, kept_append}
use Rattle.parts.specs.Found.{count_below}
use Rattle.parts.proofs.Places.{count_none}

-- ---- how many are below

count-append : (p : ℕ) (xs ys : List ℕ) → count_below p (xs ++ ys) ≡ count_below p xs + count_below p ys
unfolding count_below
count-append p [] ys = rw zero-add
count-append p (x ∷ xs) ys = let later = count-append p xs ys in omega arith

count-all : (a p : ℕ) (ls : List ℕ) → Rising a p ls → count_below p ls ≡ length ls
unfolding count_below
count-all a p [] r = refl
count-all a p (l ∷ ls) r = let later = count-all (suc l) p ls r.2 in rw (lt-ltb l p r.1) (omega arith)

-- ---- a list with a middle: fs, then perhaps one element, then rs

-- a rank more, a rank less, another element
more : (k v : ℕ) (fs rs ls : List ℕ) → length fs ≡ k → ls ≡ fs ++ rs → fs ++ v ∷ rs ≡ take k ls ++ v ∷ drop k ls
more k v fs rs ls n e = rw (e, take_at fs rs k n, drop_at fs rs k n)

less : (k u : ℕ) (fs rs ls : List ℕ) → length fs ≡ k → ls ≡ fs ++ u ∷ rs → fs ++ rs ≡ take k ls ++ drop (k + 1) ls
less k u fs rs ls n e =
    let d : drop (k + 1) (fs ++ u ∷ rs) ≡ rs = rw n at (drop-append-add fs (u ∷ rs) 1) in
    rw (e, take_at fs (u ∷ rs) k n, d)

other : (k u v : ℕ) (fs rs ls : List ℕ) → length fs ≡ k → ls ≡ fs ++ u ∷ rs → fs ++ v ∷ rs ≡ set ls k v
other k u v fs rs ls n e = rw e (sym (set_at fs u rs v k n))

-- ---- the word y between xs and ys

module _ (E q : ℕ) (xs : List ℕ) (y : ℕ) (ys : List ℕ) where
  stored-empty : y ≡ E → stored_from E q (xs ++ y ∷ ys) ≡ stored_from E q xs ++ stored_from E (suc (q + length xs)) ys
  unfolding stored_from
  stored-empty e = stored-append E q xs (y ∷ ys) ∙ rw (eq-eqb y E e)

  stored_there : (y ≡ E → ⊥) → stored_from E q (xs ++ y ∷ ys) ≡ stored_from E q xs ++ (q + length xs) ∷ stored_from E (suc (q + length xs)) ys
  unfolding stored_from
  stored_there e = stored-append E q xs (y ∷ ys) ∙ rw (ne_eqb y E e)

module _ (E : ℕ) (xs : List ℕ) (y : ℕ) (ys : List ℕ) where
  kept-empty : y ≡ E → kept E (xs ++ y ∷ ys) ≡ kept E xs ++ kept E ys
  unfolding kept
  kept-empty e = kept_append E xs (y ∷ ys) ∙ rw (eq-eqb y E e)

  kept_there : (y ≡ E → ⊥) → kept E (xs ++ y ∷ ys) ≡ kept E xs ++ y ∷ kept E ys
  unfolding kept
  kept_there e = kept_append E xs (y ∷ ys) ∙ rw (ne_eqb y E e)

-- ---- the word at p, which becomes x; k is the rank there

module _ (E p x : ℕ) (ws : List ℕ) (h : p < length ws) where
  abbrev k : ℕ
  k = rank_at E ws p

  abbrev front : List ℕ
  front = take p ws

  abbrev rest : List ℕ
  rest = drop (suc p) ws

  front-size : length front ≡ p
  front-size = length-take-le p ws (omega arith)

  now_split : ws ≡ front ++ get_or ws p 0 ∷ rest
  now_split = split_at ws p 0 h

  then_split : set ws p x ≡ front ++ x ∷ rest
  then_split = set_split ws p x h

  stored-size : length (stored_from E 0 front) ≡ k
  unfolding rank_at stored
  stored-size = refl

  kept-size : length (kept E front) ≡ k
  kept-size = sym (length-stored E 0 front) ∙ stored-size

  place : 0 + length front ≡ p
  place = let n = front-size in omega arith

  -- the stored positions and words where a word y at p is E, and where it is not
  positions-empty : (y : ℕ) → y ≡ E → stored_from E 0 (front ++ y ∷ rest) ≡ stored_from E 0 front ++ stored_from E (suc p) rest
  positions-empty y e = rw place at (stored-empty E 0 front y rest e)

  positions-there : (y : ℕ) → (y ≡ E → ⊥) → stored_from E 0 (front ++ y ∷ rest) ≡ stored_from E 0 front ++ p ∷ stored_from E (suc p) rest
  positions-there y e = rw place at (stored_there E 0 front y rest e)

  stored_now : stored E ws ≡ stored_from E 0 (front ++ get_or ws p 0 ∷ rest)
  unfolding stored
  stored_now = ap (stored_from E 0) now_split

  stored-then : stored E (set ws p x) ≡ stored_from E 0 (front ++ x ∷ rest)
  unfolding stored
  stored-then = ap (stored_from E 0) then_split

  kept_now : kept E ws ≡ kept E (front ++ get_or ws p 0 ∷ rest)
  kept_now = ap (kept E) now_split

  kept_then : kept E (set ws p x) ≡ kept E (front ++ x ∷ rest)
  kept_then = ap (kept E) then_split

  -- an empty cell is written: a rank more
  pub put-positions : get_or ws p 0 ≡ E → (x ≡ E → ⊥) → stored E (set ws p x) ≡ take k (stored E ws) ++ p ∷ drop k (stored E ws)
  put-positions a b =
      stored-then ∙ positions-there x b
      ∙ more k p (stored_from E 0 front) (stored_from E (suc p) rest) (stored E ws) stored-size (stored_now ∙ positions-empty (get_or ws p 0) a)

  pub put-words : get_or ws p 0 ≡ E → (x ≡ E → ⊥) → kept E (set ws p x) ≡ take k (kept E ws) ++ x ∷ drop k (kept E ws)
  put-words a b =
      kept_then ∙ kept_there E front x rest b
      ∙ more k x (kept E front) (kept E rest) (kept E ws) kept-size (kept_now ∙ kept-empty E front (get_or ws p 0) rest a)

  -- a stored cell becomes empty: a rank less
  pub removed_positions : (get_or ws p 0 ≡ E → ⊥) → x ≡ E → stored E (set ws p x) ≡ take k (stored E ws) ++ drop (k + 1) (stored E ws)
  removed_positions a b =
      stored-then ∙ positions-empty x b
      ∙ less k p (stored_from E 0 front) (stored_from E (suc p) rest) (stored E ws) stored-size (stored_now ∙ positions-there (get_or ws p 0) a)

  pub removed_words : (get_or ws p 0 ≡ E → ⊥) → x ≡ E → kept E (set ws p x) ≡ take k (kept E ws) ++ drop (k + 1) (kept E ws)
  removed_words a b =
      kept_then ∙ kept-empty E front x rest b
      ∙ less k (get_or ws p 0) (kept E front) (kept E rest) (kept E ws) kept-size (kept_now ∙ kept_there E front (get_or ws p 0) rest a)

  -- a stored cell gets another word: the same positions, and that word at its rank
  pub other_positions : (get_or ws p 0 ≡ E → ⊥) → (x ≡ E → ⊥) → stored E (set ws p x) ≡ stored E ws
  other_positions a b = stored-then ∙ positions-there x b ∙ sym (stored_now ∙ positions-there (get_or ws p 0) a)

  pub other_words : (get_or ws p 0 ≡ E → ⊥) → (x ≡ E → ⊥) → kept E (set ws p x) ≡ set (kept E ws) k x
  other_words a b =
      kept_then ∙ kept_there E front x rest b
      ∙ other k (get_or ws p 0) x (kept E front) (kept E rest) (kept E ws) kept-size (kept_now ∙ kept_there E front (get_or ws p 0) rest a)

  -- the rank at p
  pub rank_most : k ≤ length (stored E ws)
  rank_most =
      let n = ap length (stored_now ∙ stored-append E 0 front (get_or ws p 0 ∷ rest)) in
      let m = length-append (stored_from E 0 front) (stored_from E (0 + length front) (get_or ws p 0 ∷ rest)) in
      let s = stored-size in
      omega arith

  pub rank-there : (get_or ws p 0 ≡ E → ⊥) → k < length (stored E ws)
  rank-there a =
      let n = ap length (stored_now ∙ positions-there (get_or ws p 0) a) in
      let m = length-append (stored_from E 0 front) (p ∷ stored_from E (suc p) rest) in
      let s = stored-size in
      omega arith

  pub rank-position : (get_or ws p 0 ≡ E → ⊥) → get_or (stored E ws) k 0 ≡ p
  rank-position a =
      rw (stored_now ∙ positions-there (get_or ws p 0) a) (get_or_at (stored_from E 0 front) p (stored_from E (suc p) rest) 0 k stored-size)

  pub rank-counts : k ≡ count_below p (stored E ws)
  rank-counts =
      let tail = stored_from E (0 + length front) (get_or ws p 0 ∷ rest) in
      let f = count-all 0 p (stored_from E 0 front) (rising-stored E 0 p front (omega (arith, front-size))) in
      let t = count_none (0 + length front) p _ tail (omega (arith, front-size)) (rising-stored E (0 + length front) _ (get_or ws p 0 ∷ rest) (le_refl _)) in
      let c = ap (count_below p) (stored_now ∙ stored-append E 0 front (get_or ws p 0 ∷ rest)) ∙ count-append p (stored_from E 0 front) tail in
      let s = stored-size in
      omega arith
