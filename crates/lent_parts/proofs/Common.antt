-- Two accepted files are of one picture exactly when header, stored words and stored positions agree. Assumes nothing.
use Prim.Native.Nat.{ℕ}
use mathlib.Core.Path.{◌≡◌, refl, sym, ap, ap₂, ◌∙◌}
use mathlib.Core.Bool.{Bool, true, false}
use mathlib.Core.List.{List, [], ◌∷◌, ◌++◌}
use native.Mathlib.Omega.{arith}
use lib.ListN.{length, get_or, take, drop}
use lib.Seq.{drop-drop}
use lib.Dec.{eqb}
use borrow.Author.Tests.{eqb-true, eq-eqb, ne_eqb}
use Rattle.format.specs.declared.Dimensions.{Dimensions}
use Rattle.format.specs.declared.View.{View}
use Rattle.format.specs.Tools.{both, same}
use Rattle.format.specs.Bytes.{field, numbers_of}
use Rattle.format.specs.Stored.{stored, kept}
use Rattle.format.specs.Accepted.{dimensions_of, empty_of, words_count, positions_of, kept_of, words_of}
use Rattle.format.specs.Shorter.{same_picture}
use Rattle.laws.proofs.Tools.{both_true, both_make, same_refl, same_true}
use Rattle.laws.proofs.Numbers.{numbers-at}
use Rattle.laws.proofs.Shorter.{dimensions_path, same_picture_iff}
use Rattle.parts.specs.Holds.{ViewOf}
use Rattle.parts.proofs.Seen.{seen}
use Rattle.lent_parts.specs.Pair.{same_header}

-- two tests that pass together
by_both : (a b : Bool) → (a ≡ true → b ≡ true) → (b ≡ true → a ≡ true) → a ≡ b
by_both true b f g = sym (f refl)
by_both false true f g = g refl
by_both false false f g = refl

-- ---- the header

-- the extents, E and N
abbrev numbered : List ℕ → List ℕ
numbered b = numbers_of 4 6 (drop 4 b)

header-numbers : (b : List ℕ) → numbered b ≡ (dimensions_of b).extents ++ (empty_of b ∷ words_count b ∷ [])
unfolding numbers_of dimensions_of empty_of words_count field
header-numbers b = rw (drop-drop 4 4 b, drop-drop 4 8 b, drop-drop 4 12 b, drop-drop 4 16 b, drop-drop 4 20 b)

front : (b : List ℕ) → take 4 (numbered b) ≡ numbers_of 4 4 (drop 4 b)
unfolding numbers_of
front b = refl

-- what a header says of the picture
pub record Alike (b₁ b₂ : List ℕ) : Type 0 where
  pub dims : dimensions_of b₁ ≡ dimensions_of b₂
  pub empty : empty_of b₁ ≡ empty_of b₂
  pub count : words_count b₁ ≡ words_count b₂

module _ (b₁ b₂ : List ℕ) where
  pub header-alike : same_header b₁ b₂ ≡ true → Alike b₁ b₂
  unfolding same_header dimensions_of empty_of words_count
  header-alike h =
      let t = both_true (eqb (field 1 1 b₁) (field 1 1 b₂)) (same (numbered b₁) (numbered b₂)) h in
      let e : numbered b₁ ≡ numbered b₂ = same_true (numbered b₁) (numbered b₂) t.1 in
      record {
        dims = dimensions_path (eqb-true (field 1 1 b₁) (field 1 1 b₂) t.0) (sym (front b₁) ∙ ap (take 4) e ∙ front b₂);
        empty = sym (numbers-at 4 6 4 4 b₁ (omega arith)) ∙ ap (λ (l : List ℕ). get_or l 4 0) e ∙ numbers-at 4 6 4 4 b₂ (omega arith);
        count = sym (numbers-at 4 6 4 5 b₁ (omega arith)) ∙ ap (λ (l : List ℕ). get_or l 5 0) e ∙ numbers-at 4 6 4 5 b₂ (omega arith);
      }

  pub count_differs : (field 1 1 b₁ ≡ field 1 1 b₂ → ⊥) → false ≡ same_header b₁ b₂
  unfolding same_header
  count_differs h = rw (ne_eqb (field 1 1 b₁) (field 1 1 b₂) h)

  pub count_agrees : (q : Bool) → field 1 1 b₁ ≡ field 1 1 b₂ → q ≡ same (numbered b₁) (numbered b₂) → q ≡ same_header b₁ b₂
  unfolding same_header
  count_agrees q h e = rw (eq-eqb (field 1 1 b₁) (field 1 1 b₂) h) e

  alike-numbers : Alike b₁ b₂ → numbered b₁ ≡ numbered b₂
  alike-numbers a =
      header-numbers b₁
      ∙ ap₂ (λ (xs ys : List ℕ). xs ++ ys) (ap (λ (d : Dimensions). d.extents) a.dims) (ap₂ (λ (e n : ℕ). e ∷ n ∷ []) a.empty a.count)
      ∙ sym (header-numbers b₂)

  alike-header : Alike b₁ b₂ → same_header b₁ b₂ ≡ true
  unfolding same_header dimensions_of
  alike-header a =
      let c : field 1 1 b₁ ≡ field 1 1 b₂ = ap (λ (d : Dimensions). d.count) a.dims in
      both_make (eqb (field 1 1 b₁) (field 1 1 b₂)) (same (numbered b₁) (numbered b₂))
      (eq-eqb (field 1 1 b₁) (field 1 1 b₂) c) (rw (alike-numbers a) (same_refl (numbered b₂)))

  -- ---- the picture

  -- as the code compares them
  abbrev compared : Bool
  compared = both (same_header b₁ b₂) (both (same (kept_of b₁) (kept_of b₂)) (same (positions_of b₁) (positions_of b₂)))

  compared_picture : compared ≡ true → same_picture b₁ b₂ ≡ true
  unfolding words_of
  compared_picture h =
      let t = both_true (same_header b₁ b₂) _ h in
      let u = both_true (same (kept_of b₁) (kept_of b₂)) _ t.1 in
      let a = header-alike t.0 in
      (same_picture_iff b₁ b₂).1 (
        a.dims,
        a.empty,
        rw (a.empty, a.dims, same_true (kept_of b₁) (kept_of b₂) u.0, same_true (positions_of b₁) (positions_of b₂) u.1),
      )

  module _ (v w : View) (o : ViewOf b₁ v) (p : ViewOf b₂ w) where
    picture_compared : same_picture b₁ b₂ ≡ true → compared ≡ true
    picture_compared h =
        let q = (same_picture_iff b₁ b₂).0 h in
        let s = seen b₁ v o in
        let t = seen b₂ w p in
        let k : kept_of b₁ ≡ kept_of b₂ = s.kept ∙ ap₂ kept q.1 q.2 ∙ sym t.kept in
        let l : positions_of b₁ ≡ positions_of b₂ = s.stored ∙ ap₂ stored q.1 q.2 ∙ sym t.stored in
        let n : words_count b₁ ≡ words_count b₂ = sym (s.kept-size ∙ s.words) ∙ ap length k ∙ t.kept-size ∙ t.words in
        rw (alike-header (record { dims = q.0; empty = q.1; count = n }), k, l, same_refl (kept_of b₂), same_refl (positions_of b₂))

    pub one_picture : compared ≡ same_picture b₁ b₂
    one_picture = by_both compared (same_picture b₁ b₂) compared_picture picture_compared

    -- what each comparison says
    pub other_header : same_header b₁ b₂ ≡ false → false ≡ same_picture b₁ b₂
    other_header h = rw h at one_picture

    pub other_words : same_header b₁ b₂ ≡ true → same (kept_of b₁) (kept_of b₂) ≡ false → false ≡ same_picture b₁ b₂
    other_words h k = rw (h, k) at one_picture

    pub by_positions : same_header b₁ b₂ ≡ true → same (kept_of b₁) (kept_of b₂) ≡ true → same (positions_of b₁) (positions_of b₂) ≡ same_picture b₁ b₂
    by_positions h k = rw (h, k) at one_picture
