-- The encoder puts out the bases and the offsets, keeps whether the offsets fit, and measures the parts. Assumes nothing.
use Rattle.std.proofs.Common.{◌≡◌, ℕ, zero, suc, ◌+◌, ◌-◌, ◌*◌, ◌/◌, ◌^◌, ◌≤◌, Bool, true, false, not, leb, List, [], ◌∷◌, ◌++◌, length, sym, refl, ap, ◌∙◌, ap₂, arith}
use Rattle.format.specs.Tools.{both, every}
use Rattle.format.specs.Bytes.{bytes, bytes_of}
use Rattle.format.specs.BaseOffset.{bases, offsets, offsets_fit, based_parts, based_kind}
use Rattle.laws.proofs.Tools.{both_one, both_assoc}
use Rattle.laws.proofs.Bytes.{length-bytes, length-bytes_of}
use Rattle.laws.proofs.Streams.{bases_from, offsets_from, bases_stream, offsets_stream}
use Rattle.parts.specs.declared.Encoder.{Encoder}
use Rattle.parts.specs.Encoder.{begun, left_after, sizes_as, taken_by, ended_by, firsts_by, seconds_by, taken_all_by}
use Rattle.parts.specs.Ready.{Next, Keeps}
use Rattle.parts.specs.Codes.{sizes_in, Codes}
use Rattle.parts.proofs.Outright.{outright}
use Rattle.parts.proofs.Taking.{if_zero_lem, if_suc, if_most, if_le, rank-all, first-all, second-all}
use Rattle.parts.proofs.Sounds.{Kept, sound_by}
use Rattle.base_groups.specs.Coding.{offset_at, based, coder}
use Rattle.base_groups.proofs.Rule.{allows}

-- ---- at a new base, and at a rank that the present one serves

left_new : (l n : ℕ) → n ≡ 0 → left_after l n ≡ l - 1
unfolding left_after
left_new l n h = if_zero_lem n (l - 1) (n - 1) h

left-suc : (l n k : ℕ) → n ≡ suc k → left_after l n ≡ k
unfolding left_after
left-suc l n k h = if_suc n k (l - 1) (n - 1) h ∙ omega arith

offset_new : (e : Encoder) (p : ℕ) → e.left ≡ 0 → offset_at e p ≡ 0
unfolding offset_at
offset_new e p h = if_zero_lem e.left 0 (p - e.base) h

offset_suc : (e : Encoder) (p k base : ℕ) → e.left ≡ suc k → e.base ≡ base → offset_at e p ≡ p - base
unfolding offset_at
offset_suc e p k base h b = if_suc e.left k 0 (p - e.base) h ∙ ap (λ (x : ℕ). p - x) b

module _ (w l : ℕ) where
  -- ---- the bytes

  pub firsts_from : (e : Encoder) (k : ℕ) (ls : List ℕ) → e.left ≡ k → firsts_by (coder w l) e ls ≡ bytes_of 4 (bases_from l k ls)
  unfolding firsts_by coder based taken_by bases_from bytes_of
  firsts_from e k [] h = refl
  firsts_from e zero (p ∷ ls) h =
      ap₂ (λ (x y : List ℕ). x ++ y) (if_zero_lem e.left (bytes 4 p) [] h)
      (firsts_from (taken_by (coder w l) e p) (l - 1) ls (left_new l e.left h))
  firsts_from e (suc k) (p ∷ ls) h =
      ap₂ (λ (x y : List ℕ). x ++ y) (if_suc e.left k (bytes 4 p) [] h)
      (firsts_from (taken_by (coder w l) e p) k ls (left-suc l e.left k h))

  pub seconds_from : (e : Encoder) (k base : ℕ) (ls : List ℕ) → e.left ≡ k → e.base ≡ base
      → seconds_by (coder w l) e ls ≡ bytes_of w (offsets_from l k base ls)
  unfolding seconds_by coder based taken_by offsets_from bytes_of
  seconds_from e k base [] h b = refl
  seconds_from e zero base (p ∷ ls) h b =
      ap₂ (λ (x y : List ℕ). x ++ y) (ap (bytes w) (offset_new e p h))
      (seconds_from (taken_by (coder w l) e p) (l - 1) p ls (left_new l e.left h) (if_zero_lem e.left p e.base h))
  seconds_from e (suc k) base (p ∷ ls) h b =
      ap₂ (λ (x y : List ℕ). x ++ y) (ap (bytes w) (offset_suc e p k base h b))
      (seconds_from (taken_by (coder w l) e p) k base ls (left-suc l e.left k h) (if_suc e.left k p e.base h ∙ b))

  firsts_are : (f g : ℕ) (ls : List ℕ) → 1 ≤ l → firsts_by (coder w l) (begun f g) ls ≡ bytes_of 4 (bases l ls)
  unfolding begun
  firsts_are f g ls h = firsts_from (begun f g) 0 ls refl ∙ ap (bytes_of 4) (sym (bases_stream l ls h))

  seconds_are : (f g : ℕ) (ls : List ℕ) → 1 ≤ l → seconds_by (coder w l) (begun f g) ls ≡ bytes_of w (offsets l ls)
  unfolding begun
  seconds_are f g ls h = seconds_from (begun f g) 0 0 ls refl refl ∙ ap (bytes_of w) (sym (offsets_stream l ls h))

  -- ---- the fit

  fit : ℕ → Bool
  fit o = leb o (256 ^ w - 1)

  fits_from : (e : Encoder) (k base : ℕ) (ls : List ℕ) → e.left ≡ k → e.base ≡ base
      → (taken_all_by (coder w l) e ls).fits ≡ both e.fits (every fit (offsets_from l k base ls))
  unfolding taken_all_by coder based taken_by offsets_from fit
  fits_from e k base [] h b = sym (both_one e.fits)
  fits_from e zero base (p ∷ ls) h b =
      fits_from (taken_by (coder w l) e p) (l - 1) p ls (left_new l e.left h) (if_zero_lem e.left p e.base h)
      ∙ both_assoc e.fits (fit (offset_at e p)) (every fit (offsets_from l (l - 1) p ls))
      ∙ ap (λ (o : ℕ). both e.fits (both (fit o) (every fit (offsets_from l (l - 1) p ls)))) (offset_new e p h)
  fits_from e (suc k) base (p ∷ ls) h b =
      fits_from (taken_by (coder w l) e p) k base ls (left-suc l e.left k h) (if_suc e.left k p e.base h ∙ b)
      ∙ both_assoc e.fits (fit (offset_at e p)) (every fit (offsets_from l k base ls))
      ∙ ap (λ (o : ℕ). both e.fits (both (fit o) (every fit (offsets_from l k base ls)))) (offset_suc e p k base h b)

  fits_are : (f g : ℕ) (ls : List ℕ) → 1 ≤ l → (taken_all_by (coder w l) (begun f g) ls).fits ≡ not ((based_kind w l).unfit ls)
  unfolding begun based_kind offsets_fit fit
  fits_are f g ls h =
      fits_from (begun f g) 0 0 ls refl refl ∙ ap (every fit) (sym (offsets_stream l ls h)) ∙ not-not (offsets_fit w l ls)
    where
      not-not : (t : Bool) → t ≡ not (not t)
      not-not true = refl
      not-not false = refl

  -- ---- what the code needs is kept

  kept : w ≤ 2 → (e : Encoder) (p : ℕ) → Next e p → Kept (coder w l) e p
  unfolding coder based
  kept h e p n =
      let s = n.sound in
      let b = if_le e.left p e.base 0 (p + 1) (omega arith) (omega arith) in
      record {
        first = if_most e.left (bytes 4 p) 8 (omega (arith, length-bytes 4 p));
        second = omega (arith, length-bytes w (offset_at e p));
        base = omega arith;
        cells = omega arith;
        empty = omega arith;
      }

  pub keeps : w ≤ 2 → Keeps (coder w l)
  keeps h = sound_by (coder w l) (kept h)

  -- ---- the sizes

  sizes-same : (e : Encoder) (n c f g : ℕ) → e.rank ≡ n → e.first ≡ f → e.second ≡ g → f ≡ 4 * c
      → sizes_as e (e.first / 4) e.rank ≡ record { words = n; firsts = c; seconds = n; first = f; second = g }
  sizes-same e n c f g r a b q = let d : f / 4 ≡ c = omega arith in rw (r, a, b, d)

  sizes_are : (B : ℕ) (ls : List ℕ) → 1 ≤ l
      → (coder w l).sizes (ended_by (coder w l) (taken_all_by (coder w l) (begun 0 0) ls)) ≡ sizes_in (length ls) ((based_kind w l).parts B ls)
  unfolding coder sizes_in based_kind based_parts ended_by begun
  sizes_are B ls h =
      let k = coder w l in
      let r = rank-all k (begun 0 0) ls in
      let f = first-all k (begun 0 0) ls in
      let g = second-all k (begun 0 0) ls in
      let m = ap length (firsts_are 0 0 ls h) in
      let n = ap length (seconds_are 0 0 ls h) in
      sizes-same (ended_by k (taken_all_by k (begun 0 0) ls)) (length ls) (length (bases l ls)) (length (bytes_of 4 (bases l ls)))
      (length (bytes_of w (offsets l ls))) (omega arith) (omega arith) (omega arith) (length-bytes_of 4 (bases l ls))

pub codes : (w l : ℕ) → (based_kind w l).allowed ≡ true → Codes (coder w l) (based_kind w l)
codes w l h =
    let a = allows w l h in
    let s = a.step-least in
    record {
      keeps = keeps w l a.width-most;
      fits = λ f g ls. fits_are w l f g ls s;
      out = λ B ls m o.
          outright (coder w l) (based_kind w l) B ls (λ z start d. unfold coder in refl)
          (λ f g. unfold based_kind based_parts in firsts_are w l f g ls s)
          (λ f g. unfold based_kind based_parts in seconds_are w l f g ls s)
          (λ u. sizes_are w l B ls s);
    }
