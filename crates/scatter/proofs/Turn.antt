-- The turns of the loops that scatter, and their end. Assumes nothing.
use Prim.Native.Nat.{ℕ, zero, suc, ◌+◌, ◌-◌, ◌*◌, ◌≤◌, ◌<◌}
use mathlib.Core.Path.{◌≡◌, refl, sym, ap, ◌∙◌, subst}
use mathlib.Core.List.{List, [], ◌∷◌, ◌++◌}
use native.Mathlib.Nat.{sub-zero}
use native.Mathlib.Numerals.{add-one}
use native.Mathlib.Omega.{arith}
use lib.ListN.{length, get_or, take, drop, set, drop_of_length-le, length-drop, take-append-drop}
use lib.Seq.{drop-cons, drop-drop, length-take-le, get_or-take}
use Rattle.format.specs.declared.View.{View}
use Rattle.format.specs.Tools.{Below, first, others}
use Rattle.format.specs.Bytes.{field}
use Rattle.format.specs.Picture.{cells}
use Rattle.format.specs.Accepted.{dimensions_of, empty_of, words_count, words_at, positions_of, kept_of, words_of}
use Rattle.laws.proofs.Numbers.{numbers-at}
use Rattle.laws.proofs.Stored.{Rising}
use Rattle.parts.specs.Holds.{ViewOf}
use Rattle.parts.proofs.Seen.{Seen, seen}
use Rattle.scatter.specs.Scatter.{scattered}
use Rattle.scatter.proofs.Scattered.{scatter_placed}
use Rattle.scatter.proofs.Blank.{blank, blank_scattered, Cut, cut}

scatter_turn : (d ls vs : List ℕ) (i j : ℕ) → i < length ls → j < length vs
    → scattered d (drop i ls) (drop j vs) ≡ scattered (set d (get_or ls i 0) (get_or vs j 0)) (drop (i + 1) ls) (drop (j + 1) vs)
unfolding scattered
scatter_turn d ls vs i j h k = rw (drop-cons ls i 0 h, drop-cons vs j 0 k, add-one i, add-one j)

pub scatter_end : (d ls vs : List ℕ) (i : ℕ) → length ls ≤ i → scattered d (drop i ls) vs ≡ d
unfolding scattered
scatter_end d ls vs i h = rw (drop_of_length-le ls {i = i} h)

-- some positions, then others
scatter_add : (d xs ys vs : List ℕ) → scattered d (xs ++ ys) vs ≡ scattered (scattered d xs vs) ys (drop (length xs) vs)
unfolding scattered
scatter_add d [] ys vs = refl
scatter_add d (x ∷ xs) ys vs = scatter_add (set d x (first vs)) xs ys (others vs) ∙ rw (others-drop (length xs) vs)
  where
    others-drop : (n : ℕ) (l : List ℕ) → drop n (others l) ≡ drop (suc n) l
    others-drop zero [] = refl
    others-drop (suc n) [] = refl
    others-drop n (x ∷ l) = refl

-- positions below a bound
pub below_at : (B : ℕ) (xs : List ℕ) (i : ℕ) → i < length xs → Below B xs → get_or xs i 0 < B
below_at B [] i k h = absurd (omega arith)
below_at B (x ∷ xs) zero k h = h.0
below_at B (x ∷ xs) (suc i) k h = below_at B xs i (omega arith) h.1

-- ---- of the view v of an accepted file b
module _ (b : List ℕ) (v : View) (o : ViewOf b v) where
  known : Seen b v
  known = seen b v o

  pub word_seen : (r : ℕ) → r < v.words → field 4 (v.place + 4 * r) b ≡ get_or (kept_of b) r 0
  unfolding kept_of
  word_seen r h = rw known.header.place (sym (numbers-at 4 (words_count b) (words_at b) r b (rw known.words at h)))

  -- the word of rank r + i, in a batch of n from rank r on
  pub word-there : (r n i : ℕ) → r + n ≤ v.words → i < n → v.place + 4 * r + 4 * i + 4 ≤ length b
  word-there r n i h k = omega (arith, known.header.long)

  pub turned : (d at : List ℕ) (r i x : ℕ) → r + length at ≤ v.words → i < length at → x ≡ field 4 (v.place + 4 * r + 4 * i) b
      → scattered (set d (get_or at i 0) x) (drop (i + 1) at) (drop (r + (i + 1)) (kept_of b)) ≡ scattered d (drop i at) (drop (r + i) (kept_of b))
  turned d at r i x h k e =
      let n : r + i < v.words = omega arith in
      let p : v.place + 4 * r + 4 * i ≡ v.place + 4 * (r + i) = omega arith in
      let q : r + (i + 1) ≡ r + i + 1 = omega arith in
      rw (e, p, q, word_seen (r + i) n) (sym (scatter_turn d at (kept_of b) i (r + i) k (omega (arith, known.kept-size))))

  -- a batch of n from rank r on
  batch_turned : (d : List ℕ) (r n : ℕ) → r + n ≤ v.words
      → scattered (scattered d (take n (drop r (positions_of b))) (drop r (kept_of b))) (drop (r + n) (positions_of b)) (drop (r + n) (kept_of b))
      ≡ scattered d (drop r (positions_of b)) (drop r (kept_of b))
  batch_turned d r n h =
      let ls = drop r (positions_of b) in
      let k : length (take n ls) ≡ n = length-take-le n ls (rw (length-drop r (positions_of b)) (omega (arith, known.holds.size))) in
      let s = scatter_add d (take n ls) (drop n ls) (drop r (kept_of b)) in
      rw (← drop-drop n r (positions_of b), ← drop-drop n r (kept_of b)) (sym (rw (take-append-drop n ls, k) at s))

  -- at the end
  pub past : (r : ℕ) → v.words ≤ r → length (positions_of b) ≤ r
  past r h = omega (arith, known.holds.size)

  -- the same where positions rise from f on: the last of the batch, in a buffer that begins with it
  pub batch_cut : (f r n : ℕ) (buffer : List ℕ) → 0 < n → r + n ≤ v.words → take n buffer ≡ take n (drop r (positions_of b))
      → Rising f v.cells (drop r (positions_of b))
      → Cut f v.cells (get_or buffer (n - 1) 0) (take n (drop r (positions_of b))) (drop (r + n) (positions_of b))
  batch_cut f r n buffer some h front rises =
      let ls = drop r (positions_of b) in
      let k : length (take n ls) ≡ n = length-take-le n ls (rw (length-drop r (positions_of b)) (omega (arith, known.holds.size))) in
      let s : ls ≡ take n ls ++ drop (r + n) (positions_of b) = sym (take-append-drop n ls) ∙ rw (drop-drop n r (positions_of b)) in
      let g : get_or (take n ls) (n - 1) 0 ≡ get_or buffer (n - 1) 0
      = ap (λ (l : List ℕ). get_or l (n - 1) 0) (sym front) ∙ get_or-take n buffer (n - 1) 0 (omega arith) in
      subst (λ (x : ℕ). Cut f v.cells x (take n ls) (drop (r + n) (positions_of b))) g
      (cut f v.cells (n - 1) (take n ls) (drop (r + n) (positions_of b)) (omega arith) (subst (Rising f v.cells) s rises))

  -- a destination d that is filled up to f becomes e, filled up to m, and then g by the words of the batch
  pub expand_turned : (d e g : List ℕ) (f m r n : ℕ) → r + n ≤ v.words → v.cells ≤ length e → m ≤ v.cells
      → Below m (take n (drop r (positions_of b))) → blank v.empty v.cells m e ≡ blank v.empty v.cells f d
      → g ≡ scattered e (take n (drop r (positions_of b))) (drop r (kept_of b))
      → scattered (blank v.empty v.cells m g) (drop (r + n) (positions_of b)) (drop (r + n) (kept_of b))
      ≡ scattered (blank v.empty v.cells f d) (drop r (positions_of b)) (drop r (kept_of b))
  expand_turned d e g f m r n h k low below same q =
      let xs = take n (drop r (positions_of b)) in
      let vs = drop r (kept_of b) in
      ap (λ (l : List ℕ). scattered l (drop (r + n) (positions_of b)) (drop (r + n) (kept_of b)))
      (ap (blank v.empty v.cells m) q ∙ blank_scattered v.empty v.cells m e xs vs below low k
      ∙ ap (λ (l : List ℕ). scattered l xs vs) same)
      ∙ batch_turned (blank v.empty v.cells f d) r n h

  -- all scattered over empty cells
  pub all-scattered : (d : List ℕ) → scattered (blank v.empty v.cells 0 d) (positions_of b) (kept_of b) ≡ words_of b ++ drop v.cells d
  unfolding blank words_of
  all-scattered d =
      let c : v.cells ≡ cells (dimensions_of b) = known.header.cells in
      rw (known.empty, c, sub-zero)
      (scatter_placed (empty_of b) (cells (dimensions_of b)) (drop (cells (dimensions_of b)) d) (positions_of b) (kept_of b) (rw c at known.holds.rising))
