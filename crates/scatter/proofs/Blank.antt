-- A destination that is filled up to a cell, as if the cells after it were empty: filling on, and scattering, keep it. Assumes nothing.
use Prim.Native.Nat.{ℕ, zero, suc, ◌+◌, ◌-◌, ◌≤◌, ◌<◌}
use mathlib.Core.Path.{◌≡◌, refl, sym, ap, ◌∙◌}
use mathlib.Core.List.{List, [], ◌∷◌, ◌++◌, append_assoc}
use native.Mathlib.Numerals.{add-one}
use native.Mathlib.Omega.{arith}
use lib.ListN.{length, get_or, take, drop, set, replicate, length-append, length-replicate, length-set, replicate-append-replicate, length-drop}
use borrow.Rule.Slice.PartMut.{put_mid}
use lib.Seq.{length-take-le, take-append_seam, drop-append-add, drop-drop, set-append_left, drop-set-lt, take-set-lt}
use Rattle.format.specs.Tools.{Below, first, others}
use Rattle.laws.proofs.Stored.{Rising}
use Rattle.scatter.specs.Scatter.{scattered}

-- of n cells those before k are filled; E is the empty word
unfoldable pub blank : ℕ → ℕ → ℕ → List ℕ → List ℕ
blank E n k d = take k d ++ (replicate (n - k) E ++ drop n d)

-- ---- filling on

-- a range, lent and filled
pub range-filled : (d ys : List ℕ) (a e x : ℕ) → a ≤ e → e ≤ length d → ys ≡ replicate (length (take (e - a) (drop a d))) x
    → put_mid a (e - a) d ys ≡ take a d ++ (replicate (e - a) x ++ drop e d)
range-filled d ys a e x low high h =
    let l : length (take (e - a) (drop a d)) ≡ e - a = length-take-le (e - a) (drop a d) (omega (arith, length-drop a d)) in
    let s : a + (e - a) ≡ e = omega arith in
    rw (h, l, drop-drop (e - a) a d, s)

module _ (E n k m : ℕ) (d e : List ℕ) (low : k ≤ m) (high : m ≤ n) (fits : n ≤ length d)
    (filled : e ≡ take k d ++ (replicate (m - k) E ++ drop m d)) where
  front : List ℕ
  front = take k d ++ replicate (m - k) E

  length-begun : length front ≡ m
  unfolding front
  length-begun =
      length-append (take k d) (replicate (m - k) E)
      ∙ omega (arith, length-take-le k d (omega arith), length-replicate (m - k) E)

  begun : e ≡ front ++ drop m d
  unfolding front
  begun = filled ∙ sym (append_assoc (take k d) (replicate (m - k) E) (drop m d))

  pub length-filled : length e ≡ length d
  length-filled = ap length begun ∙ length-append front (drop m d) ∙ omega (arith, length-begun, length-drop m d)

  begun-take : take m e ≡ front
  begun-take = ap (take m) begun ∙ rw length-begun at (take-append_seam front (drop m d))

  begun-drop : drop n e ≡ drop n d
  begun-drop =
      let s : n ≡ m + (n - m) = omega arith in
      let t : drop (m + (n - m)) (front ++ drop m d) ≡ drop (n - m) (drop m d) = rw length-begun at (drop-append-add front (drop m d) (n - m)) in
      ap (drop n) begun ∙ ap (λ (i : ℕ). drop i (front ++ drop m d)) s ∙ t ∙ drop-drop (n - m) m d ∙ ap (λ (i : ℕ). drop i d) (sym s)

  pub blank_filled : blank E n m e ≡ blank E n k d
  unfolding blank front
  blank_filled =
      let s : m - k + (n - m) ≡ n - k = omega arith in
      rw (begun-take, begun-drop)
      (append_assoc (take k d) (replicate (m - k) E) (replicate (n - m) E ++ drop n d)
      ∙ ap (λ (l : List ℕ). take k d ++ l)
      (sym (append_assoc (replicate (m - k) E) (replicate (n - m) E) (drop n d))
      ∙ ap (λ (l : List ℕ). l ++ drop n d) (replicate-append-replicate (m - k) (n - m) E ∙ ap (λ (i : ℕ). replicate i E) s)))

-- ---- scattering

blank_set : (E n k : ℕ) (d : List ℕ) (p x : ℕ) → p < k → k ≤ n → n ≤ length d → blank E n k (set d p x) ≡ set (blank E n k d) p x
unfolding blank
blank_set E n k d p x h low fits =
    rw (take-set-lt k d p x h, drop-set-lt n d p x (omega arith))
    (sym (set-append_left (take k d) (replicate (n - k) E ++ drop n d) p x (omega (arith, length-take-le k d (omega arith)))))

pub blank_scattered : (E n k : ℕ) (d ls vs : List ℕ) → Below k ls → k ≤ n → n ≤ length d
    → blank E n k (scattered d ls vs) ≡ scattered (blank E n k d) ls vs
unfolding scattered
blank_scattered E n k d [] vs h low fits = refl
blank_scattered E n k d (p ∷ ls) vs h low fits =
    blank_scattered E n k (set d p (first vs)) ls (others vs) h.1 low (rw (length-set d p (first vs)) fits)
    ∙ ap (λ (l : List ℕ). scattered l ls (others vs)) (blank_set E n k d p (first vs) h.0 low fits)

-- ---- rising positions, cut after the last of xs

pub record Cut (p B last : ℕ) (xs ys : List ℕ) : Type 0 where
  pub low : p ≤ last
  pub high : last < B
  pub below : Below (last + 1) xs
  pub rest : Rising (last + 1) B ys

pub cut : (p B n : ℕ) (xs ys : List ℕ) → length xs ≡ suc n → Rising p B (xs ++ ys) → Cut p B (get_or xs n 0) xs ys
cut p B n [] ys e r = absurd (omega arith)
cut p B zero (x ∷ []) ys e r = record { low = r.0; high = r.1; below = (omega arith, tt); rest = rw (add-one x) r.2 }
cut p B (suc n) (x ∷ []) ys e r = absurd (omega arith)
cut p B zero (x ∷ y ∷ xs) ys e r = absurd (omega arith)
cut p B (suc n) (x ∷ y ∷ xs) ys e r =
    let c = cut (suc x) B n (y ∷ xs) ys (omega arith) r.2 in
    let l = c.low in
    let k = r.0 in
    record { low = omega arith; high = c.high; below = (omega arith, c.below); rest = c.rest }
