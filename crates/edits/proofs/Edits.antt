-- The edits that a write needs, on an accepted file: which positions and words they give, and that they are edits of it. Assumes nothing.
use Prim.Native.Nat.{ℕ, ◌+◌, ◌≤◌, ◌<◌}
use mathlib.Core.Path.{◌≡◌, refl, sym, ap, ◌∙◌}
use mathlib.Core.List.{List, ◌∷◌, ◌++◌, append-nil}
use native.Mathlib.Numerals.{add-one}
use native.Mathlib.Omega.{arith}
use lib.ListN.{length, get_or, set, take, drop, take-append-drop, length-set}
use lib.Seq.{append_snoc, split_at, set_split, set-get_or}
use Rattle.std.specs.Prelude.{Some, None}
use Rattle.format.specs.declared.Position.{Position}
use Rattle.format.specs.Stored.{stored, kept, rank_at}
use Rattle.format.specs.declared.View.{View}
use Rattle.format.specs.Picture.{cells}
use Rattle.format.specs.Accepted.{dimensions_of, empty_of, words_count, positions_of, kept_of, words_of}
use Rattle.laws.proofs.Stored.{Rising, rising-stored, stored-kept}
use Rattle.parts.specs.Holds.{ViewOf}
use Rattle.parts.specs.Found.{count_below}
use Rattle.parts.proofs.Seen.{Seen, seen}
use Rattle.edits.specs.declared.Edit.{Edit}
use Rattle.edits.specs.Edit.{edited, overlaid, EditOf, Writes}
use Rattle.edits.proofs.Written.{put-positions, put-words, removed_positions, removed_words, other_positions, other_words, rank_most, rank-there, rank-position, rank-counts}

-- ---- for a rank k: a new one before it, none in its place, another in its place, or all as they are

abbrev pub adding : ℕ → Position → Edit
adding k q = record { before = k; added = Some q; after = k }

abbrev pub removing : ℕ → Edit
removing k = record { before = k; added = None; after = k + 1 }

abbrev pub replacing : ℕ → Position → Edit
replacing k q = record { before = k; added = Some q; after = k + 1 }

abbrev pub keeping : ℕ → Edit
keeping k = record { before = k; added = None; after = k }

pub keeping_positions : (n : ℕ) (ls : List ℕ) → edited (keeping n) ls ≡ ls
unfolding edited
keeping_positions n ls = rw (append-nil (take n ls)) (take-append-drop n ls)

pub keeping_words : (n w : ℕ) (vs : List ℕ) → overlaid (keeping n) w vs ≡ vs
unfolding overlaid
keeping_words n w vs = rw (append-nil (take n vs)) (take-append-drop n vs)

-- ---- on an accepted file

module _ (b : List ℕ) (v : View) (o : ViewOf b v) where
  abbrev E : ℕ
  E = empty_of b

  abbrev ws : List ℕ
  ws = words_of b

  file : Seen b v
  file = seen b v o

  size : length (stored E ws) ≡ words_count b
  size = ap length (sym file.stored) ∙ file.holds.size ∙ file.words

  rising : (us : List ℕ) → length us ≡ length ws → Rising 0 (cells (dimensions_of b)) (stored E us)
  unfolding stored
  rising us n = let c = file.file.size in rising-stored E 0 (cells (dimensions_of b)) us (omega arith)

  -- nothing is changed
  pub keeps : (n : ℕ) → n ≤ words_count b → EditOf b (keeping n)
  keeps n h =
      record { ordered = omega arith; near = omega arith; inside = h; rising = rw (keeping_positions n (positions_of b), file.stored) (rising ws refl) }

  module _ (q : Position) (w : ℕ) (n : q.0 < length ws) where
    abbrev p : ℕ
    p = q.0

    abbrev pub k : ℕ
    k = rank_at E ws p

    -- the rank at p, by the file's positions
    pub rank_below : k ≡ count_below p (positions_of b)
    rank_below = rank-counts E p w ws n ∙ ap (count_below p) (sym file.stored)

    writes : (x : Edit) → x.before ≤ x.after → x.after ≤ x.before + 1 → x.after ≤ words_count b
        → edited x (stored E ws) ≡ stored E (set ws p w) → overlaid x w (kept E ws) ≡ kept E (set ws p w) → Writes b p w x
    writes x o k i e f =
        let s : edited x (positions_of b) ≡ stored E (set ws p w) = ap (edited x) file.stored ∙ e in
        record {
          edit = record { ordered = o; near = k; inside = i; rising = rw s (rising (set ws p w) (length-set ws p w)) };
          positions = s;
          words = ap (overlaid x w) file.kept ∙ f;
        }

    -- an empty cell is written
    pub adds : get_or ws p 0 ≡ E → (w ≡ E → ⊥) → Writes b p w (adding k q)
    unfolding edited overlaid
    adds a c =
        let m = rank_most E p w ws n in
        writes (adding k q) (omega arith) (omega arith) (omega (arith, size))
        (append_snoc (take k (stored E ws)) p (drop k (stored E ws)) ∙ sym (put-positions E p w ws n a c))
        (append_snoc (take k (kept E ws)) w (drop k (kept E ws)) ∙ sym (put-words E p w ws n a c))

    -- a stored cell becomes empty
    pub removes : (get_or ws p 0 ≡ E → ⊥) → w ≡ E → Writes b p w (removing k)
    unfolding edited overlaid
    removes a c =
        let m = rank-there E p w ws n a in
        writes (removing k) (omega arith) (omega arith) (omega (arith, size))
        (rw (append-nil (take k (stored E ws))) (sym (removed_positions E p w ws n a c)))
        (rw (append-nil (take k (kept E ws))) (sym (removed_words E p w ws n a c)))

    -- a stored cell gets another word
    pub replaces : (get_or ws p 0 ≡ E → ⊥) → (w ≡ E → ⊥) → Writes b p w (replacing k q)
    unfolding edited overlaid
    replaces a c =
        let m = rank-there E p w ws n a in
        let l : take k (stored E ws) ++ p ∷ drop (k + 1) (stored E ws) ≡ stored E ws
        = rw add-one (sym (rw (rank-position E p w ws n a) at (split_at (stored E ws) k 0 m))) in
        let s : set (kept E ws) k w ≡ take k (kept E ws) ++ w ∷ drop (k + 1) (kept E ws)
        = rw add-one (set_split (kept E ws) k w (omega (arith, stored-kept E ws))) in
        writes (replacing k q) (omega arith) (omega arith) (omega (arith, size))
        (append_snoc (take k (stored E ws)) p (drop (k + 1) (stored E ws)) ∙ l ∙ sym (other_positions E p w ws n a c))
        (append_snoc (take k (kept E ws)) w (drop (k + 1) (kept E ws)) ∙ sym s ∙ sym (other_words E p w ws n a c))

    -- the word is there already
    pub same_word : get_or ws p 0 ≡ w → Writes b p w (keeping k)
    same_word a =
        let s : set ws p w ≡ ws = rw (← a) (set-get_or ws p 0) in
        let m = rank_most E p w ws n in
        record {
          edit = keeps k (omega (arith, size));
          positions = rw s (keeping_positions k (positions_of b) ∙ file.stored);
          words = rw s (keeping_words k w (kept_of b) ∙ file.kept);
        }
