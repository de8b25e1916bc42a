-- Laws of the encoder that hold for every kind. Assumes nothing.
use Rattle.std.proofs.Common.{◌≡◌, ℕ, zero, suc, ◌+◌, ◌-◌, ◌^◌, ◌≤◌, Bool, true, false, not, eqb, List, [], ◌∷◌, ◌++◌, length, sym, refl, ap, ◌∙◌, ap₂, add-zero, add-one, arith, length-append}
use Rattle.format.specs.Tools.{pick}
use Rattle.stores.specs.Put.{put}
use Rattle.stores.proofs.Laws.{put_nil, length-put}
use Rattle.parts.specs.declared.Encoder.{Encoder}
use Rattle.parts.specs.Ready.{moved, put_by}
use Rattle.parts.specs.Encoder.{Coder, if_zero, unchanged, left_after, run_ends, taken_by, ended_by, firsts_by, seconds_by, taken_all_by}

-- ---- a number that is 0 or not

module _ {ℓ} {X : Type ℓ} where
  pub if_zero_lem : (n : ℕ) (x y : X) → n ≡ 0 → if_zero n x y ≡ x
  if_zero_lem n x y h = rw h

  pub if_more : (n : ℕ) (x y : X) → (n ≡ 0 → ⊥) → if_zero n x y ≡ y
  if_more zero x y h = absurd (h refl)
  if_more (suc n) x y h = refl

  pub if_suc : (n k : ℕ) (x y : X) → n ≡ suc k → if_zero n x y ≡ y
  if_suc n k x y h = rw h

-- ---- tests

pub ends-none : (e : Encoder) (p : ℕ) → e.rank ≡ 0 → false ≡ run_ends e p
unfolding run_ends
ends-none e p h = sym (if_zero_lem e.rank false (not (eqb p (e.last + 1))) h)

pub ends_later : (e : Encoder) (p : ℕ) → (e.rank ≡ 0 → ⊥) → not (eqb p (e.last + 1)) ≡ run_ends e p
unfolding run_ends
ends_later e p h = sym (if_more e.rank false (not (eqb p (e.last + 1))) h)

-- after the first position
pub run_ends_lem : (e : Encoder) (r p : ℕ) → e.rank ≡ suc r → run_ends e p ≡ not (eqb p (suc e.last))
unfolding run_ends
run_ends_lem e r p h = if_suc e.rank r false (not (eqb p (e.last + 1))) h ∙ ap (λ (n : ℕ). not (eqb p n)) (add-one e.last)

pub left-first : (l n : ℕ) → n ≡ 0 → l - 1 ≡ left_after l n
unfolding left_after
left-first l n h = sym (if_zero_lem n (l - 1) (n - 1) h)

pub left-next : (l n : ℕ) → (n ≡ 0 → ⊥) → n - 1 ≡ left_after l n
unfolding left_after
left-next l n h = sym (if_more n (l - 1) (n - 1) h)

pub width-1 : (w : ℕ) → w ≡ 1 → 255 ≡ 256 ^ w - 1
width-1 w h = rw h

pub width-2 : (w : ℕ) → w ≡ 2 → 65535 ≡ 256 ^ w - 1
width-2 w h = rw h

pub pick-most : (t : Bool) (x : List ℕ) (m : ℕ) → length x ≤ m → length (pick t x []) ≤ m
pick-most true x m h = h
pick-most false x m h = omega arith

pub if_most : (n : ℕ) (x : List ℕ) (m : ℕ) → length x ≤ m → length (if_zero n x []) ≤ m
if_most zero x m h = h
if_most (suc n) x m h = omega arith

pub if_le : (n x y a m : ℕ) → x + a ≤ m → y + a ≤ m → if_zero n x y + a ≤ m
if_le zero x y a m h k = h
if_le (suc n) x y a m h k = k

-- ---- any kind

module _ (k : Coder) where
  pub no_firsts : (e : Encoder) (ls : List ℕ) → ((e : Encoder) (p : ℕ) → k.first e p ≡ []) → ((e : Encoder) → k.end_first e ≡ [])
      → firsts_by k e ls ≡ []
  unfolding firsts_by
  no_firsts e [] h z = z e
  no_firsts e (p ∷ ls) h z = ap₂ (λ (x y : List ℕ). x ++ y) (h e p) (no_firsts (taken_by k e p) ls h z)

  pub no_seconds : (e : Encoder) (ls : List ℕ) → ((e : Encoder) (p : ℕ) → k.second e p ≡ []) → ((e : Encoder) → k.end_second e ≡ [])
      → seconds_by k e ls ≡ []
  unfolding seconds_by
  no_seconds e [] h z = z e
  no_seconds e (p ∷ ls) h z = ap₂ (λ (x y : List ℕ). x ++ y) (h e p) (no_seconds (taken_by k e p) ls h z)

  pub same_fit : (e : Encoder) (ls : List ℕ) → ((e : Encoder) (p : ℕ) → (k.inside e p).fits ≡ e.fits) → (taken_all_by k e ls).fits ≡ e.fits
  unfolding taken_all_by taken_by
  same_fit e [] h = refl
  same_fit e (p ∷ ls) h = same_fit (taken_by k e p) ls h ∙ h e p

  -- the counts and places at the end
  pub rank-all : (e : Encoder) (ls : List ℕ) → (taken_all_by k e ls).rank ≡ e.rank + length ls
  unfolding taken_all_by taken_by
  rank-all e [] = sym (add-zero e.rank)
  rank-all e (p ∷ ls) = let i = rank-all (taken_by k e p) ls in i ∙ omega arith

  pub first-all : (e : Encoder) (ls : List ℕ) → (ended_by k (taken_all_by k e ls)).first ≡ e.first + length (firsts_by k e ls)
  unfolding taken_all_by ended_by firsts_by taken_by
  first-all e [] = refl
  first-all e (p ∷ ls) =
      first-all (taken_by k e p) ls ∙ omega (arith, length-append (k.first e p) (firsts_by k (taken_by k e p) ls))

  pub second-all : (e : Encoder) (ls : List ℕ) → (ended_by k (taken_all_by k e ls)).second ≡ e.second + length (seconds_by k e ls)
  unfolding taken_all_by ended_by seconds_by taken_by
  second-all e [] = refl
  second-all e (p ∷ ls) =
      second-all (taken_by k e p) ls ∙ omega (arith, length-append (k.second e p) (seconds_by k (taken_by k e p) ls))

-- ---- the encoder after one more position, and the bytes that it adds

module _ (e : Encoder) (p : ℕ) where
  -- only the places change
  pub taken-moved : (k : Coder) (f g : ℕ) → k.inside e p ≡ unchanged e → e.first + length (k.first e p) ≡ f → e.second + length (k.second e p) ≡ g
      → moved e p f g ≡ taken_by k e p
  unfolding taken_by moved unchanged
  taken-moved k f g h a b = rw (h, a, b)

module _ (k : Coder) (d : List ℕ) (e : Encoder) (p : ℕ) where
  pub put_both : (x y : List ℕ) → k.first e p ≡ x → k.second e p ≡ y → put (put d e.first x) e.second y ≡ put_by k d e p
  unfolding put_by
  put_both x y h g = rw (h, g)

  pub put_first : (x : List ℕ) → k.first e p ≡ x → k.second e p ≡ [] → put d e.first x ≡ put_by k d e p
  put_first x h g = sym (put_nil (put d e.first x) e.second) ∙ put_both x [] h g

  pub put_second : (y : List ℕ) → k.first e p ≡ [] → k.second e p ≡ y → put d e.second y ≡ put_by k d e p
  put_second y h g = ap (λ (l : List ℕ). put l e.second y) (sym (put_nil d e.first)) ∙ put_both [] y h g

  pub put-none : k.first e p ≡ [] → k.second e p ≡ [] → d ≡ put_by k d e p
  put-none h g = sym (put_nil d e.first) ∙ put_first [] h g

  pub length-put_by : length (put_by k d e p) ≡ length d
  unfolding put_by
  length-put_by = length-put (put d e.first (k.first e p)) e.second (k.second e p) ∙ length-put d e.first (k.first e p)
