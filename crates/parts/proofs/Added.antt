-- The positions of a list in batches: those of xs first, then those of ys, then the end. Assumes nothing.
use Rattle.std.proofs.Common.{◌≡◌, ℕ, suc, ◌+◌, List, [], ◌∷◌, ◌++◌, length, sym, refl, ap, ◌∙◌, append_assoc, add-zero, arith}
use Rattle.laws.proofs.Stored.{Rising}
use Rattle.parts.specs.declared.Encoder.{Encoder}
use Rattle.parts.specs.Encoder.{Coder, taken_by, firsts_by, seconds_by, taken_all_by}
use Rattle.parts.specs.Ready.{Keeps}
use Rattle.parts.specs.Batch.{added_first_by, added_second_by, Along}
use Rattle.parts.proofs.Taken.{along_tail, length-first, length-second}

module _ (k : Coder) where
  pub firsts_by_lem : (e : Encoder) (xs ys : List ℕ) → firsts_by k e (xs ++ ys) ≡ added_first_by k e xs ++ firsts_by k (taken_all_by k e xs) ys
  unfolding firsts_by added_first_by taken_all_by
  firsts_by_lem e [] ys = refl
  firsts_by_lem e (p ∷ xs) ys =
      let t : Encoder = taken_by k e p in
      ap (λ (l : List ℕ). k.first e p ++ l) (firsts_by_lem t xs ys)
      ∙ sym (append_assoc (k.first e p) (added_first_by k t xs) (firsts_by k (taken_all_by k t xs) ys))

  pub seconds_by_lem : (e : Encoder) (xs ys : List ℕ) → seconds_by k e (xs ++ ys) ≡ added_second_by k e xs ++ seconds_by k (taken_all_by k e xs) ys
  unfolding seconds_by added_second_by taken_all_by
  seconds_by_lem e [] ys = refl
  seconds_by_lem e (p ∷ xs) ys =
      let t : Encoder = taken_by k e p in
      ap (λ (l : List ℕ). k.second e p ++ l) (seconds_by_lem t xs ys)
      ∙ sym (append_assoc (k.second e p) (added_second_by k t xs) (seconds_by k (taken_all_by k t xs) ys))

  pub taken-append : (e : Encoder) (xs ys : List ℕ) → taken_all_by k e (xs ++ ys) ≡ taken_all_by k (taken_all_by k e xs) ys
  unfolding taken_all_by
  taken-append e [] ys = refl
  taken-append e (p ∷ xs) ys = taken-append (taken_by k e p) xs ys

  pub first-place : (e : Encoder) (xs : List ℕ) → (taken_all_by k e xs).first ≡ e.first + length (added_first_by k e xs)
  unfolding taken_all_by added_first_by taken_by
  first-place e [] = sym (add-zero e.first)
  first-place e (p ∷ xs) = first-place (taken_by k e p) xs ∙ omega (arith, length-first k e p xs)

  pub second-place : (e : Encoder) (xs : List ℕ) → (taken_all_by k e xs).second ≡ e.second + length (added_second_by k e xs)
  unfolding taken_all_by added_second_by taken_by
  second-place e [] = sym (add-zero e.second)
  second-place e (p ∷ xs) = second-place (taken_by k e p) xs ∙ omega (arith, length-second k e p xs)

  pub along_by_lem : Keeps k → (e : Encoder) (xs ys : List ℕ) → Along e (xs ++ ys) → Along (taken_all_by k e xs) ys
  unfolding taken_all_by
  along_by_lem s e [] ys a = a
  along_by_lem s e (p ∷ xs) ys a = along_by_lem s (taken_by k e p) xs ys (along_tail k e p (xs ++ ys) s a)

-- of positions that rise, the first ones
pub rising-front : (n B : ℕ) (xs ys : List ℕ) → Rising n B (xs ++ ys) → Rising n B xs
rising-front n B [] ys r = tt
rising-front n B (x ∷ xs) ys r = (r.0, r.1, rising-front (suc x) B xs ys r.2)
