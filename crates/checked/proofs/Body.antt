-- The body is right exactly when the parts are and no kept word is E. Assumes nothing.
use Prim.Native.Nat.{ℕ, ◌<◌}
use mathlib.Core.Path.{◌≡◌, refl, sym, ◌∙◌, subst}
use mathlib.Core.Bool.{Bool, true, false, not}
use mathlib.Core.List.{List, [], ◌∷◌}
use lib.ListN.{drop, get_or}
use lib.Dec.{eqb}
use borrow.Author.Tests.{eqb-false, ne_eqb, not-true}
use Rattle.format.specs.declared.View.{View}
use Rattle.format.specs.Tools.{Below, both, every}
use Rattle.format.specs.Signals.{BODY, refuse}
use Rattle.format.specs.Bytes.{numbers_of}
use Rattle.format.specs.Kinds.{codec}
use Rattle.format.specs.Accepted.{empty_of, positions_of, kept_of, body_right, header_number, check_number}
use Rattle.format.specs.Opened.{view_of}
use Rattle.laws.proofs.Tools.{cases, both_true, both_make, both_false}
use Rattle.laws.proofs.Stored.{Apart}
use Rattle.laws.proofs.Bounds.{below_elements}
use Rattle.laws.proofs.Acceptance.{header-right, accepted_has_file}
use Rattle.laws.proofs.Check.{BodyBy, counts_by, body_by, by_body}
use Rattle.parts.specs.Holds.{said, parts_right, Holds, kind_of, HeaderView}
use Rattle.parts.proofs.Seen.{right_holds, holds_right, Headed, headed, seen}
use Rattle.checked.specs.Verdict.{body_number}

-- ---- no word is E

apart_true : (E : ℕ) (ws : List ℕ) → every (λ x. not (eqb x E)) ws ≡ true → Apart E ws
apart_true E [] h = tt
apart_true E (w ∷ ws) h =
    let t = both_true (not (eqb w E)) _ h in
    (eqb-false w E (not-true (eqb w E) t.0), apart_true E ws t.1)

true_apart : (E : ℕ) (ws : List ℕ) → Apart E ws → every (λ x. not (eqb x E)) ws ≡ true
true_apart E [] a = refl
true_apart E (w ∷ ws) a = both_make (not (eqb w E)) _ (rw (ne_eqb w E a.0)) (true_apart E ws a.1)

-- the words where the view says them
abbrev pub words_right : List ℕ → View → Bool
words_right b v = every (λ x. not (eqb x v.empty)) (numbers_of 4 v.words (drop v.place b))

-- ---- of the header's own numbers

module _ (b : List ℕ) (h : header_number b ≡ 0) where
  own : Headed b (view_of b)
  own = headed b (view_of b) (record { header = h; view = refl })

  words_same : words_right b (view_of b) ≡ every (λ x. not (eqb x (empty_of b))) (kept_of b)
  unfolding view_of kept_of
  words_same = let p = own.place in rw p

  said_same : said (kind_of (view_of b)) b (view_of b) ≡ positions_of b
  unfolding view_of said positions_of codec
  said_same = let p = own.start in let q = own.second in rw (p, q)

  by_holds : Holds (kind_of (view_of b)) b (view_of b) (positions_of b) → Apart (empty_of b) (kept_of b) → BodyBy b
  unfolding view_of codec
  by_holds o a =
      let k = own.cells in
      let p = own.start in
      let q = own.second in
      record {
        rising = rw k at o.rising;
        apart = a;
        size = o.size;
        fits = o.fits;
        first_count_lem = rw k at o.first_count_lem;
        second-count = rw k at o.second-count;
        first = rw (k, p) at o.first;
        second = rw (k, q) at o.second;
      }

  both_right : Below 256 b → both (parts_right (kind_of (view_of b)) b (view_of b)) (words_right b (view_of b)) ≡ true → body_right b ≡ true
  both_right s e =
      let v = view_of b in
      let t = both_true (parts_right (kind_of v) b v) (words_right b v) e in
      let o = subst (Holds (kind_of v) b v) said_same (right_holds (kind_of v) b v own.counted t.0) in
      let r = header-right b h in
      body_by b s r.long (counts_by b r.counts) (by_holds o (apart_true (empty_of b) (kept_of b) (sym words_same ∙ t.1)))

  right-both : body_right b ≡ true → both (parts_right (kind_of (view_of b)) b (view_of b)) (words_right b (view_of b)) ≡ true
  unfolding check_number
  right-both e =
      let v = view_of b in
      let a : check_number b ≡ 0 = rw (h, e) in
      let y = by_body _ _ _ _ b (accepted_has_file b a) in
      both_make (parts_right (kind_of v) b v) (words_right b v)
      (holds_right (kind_of v) b v (positions_of b) (seen b v (record { accepted = a; view = refl })).holds)
      (words_same ∙ true_apart (empty_of b) (kept_of b) y.apart)

  own_split : Below 256 b → body_right b ≡ both (parts_right (kind_of (view_of b)) b (view_of b)) (words_right b (view_of b))
  own_split s =
      cases (both (parts_right (kind_of (view_of b)) b (view_of b)) (words_right b (view_of b)))
      (λ e. both_right s e ∙ sym e)
      (λ e. cases (body_right b) (λ z. z ∙ sym (right-both z)) (λ z. z ∙ sym e))

-- ---- the number of a body, by the two tests

module _ (b : List ℕ) (v : View) (h : HeaderView b v) (small : (i : ℕ) → get_or b i 0 < 256) where
  number_split : body_number b ≡ refuse BODY (not (both (parts_right (kind_of v) b v) (words_right b v))) 0
  unfolding body_number
  number_split = let e = own_split b h.header (below_elements 256 b small) in rw (h.view, e)

  pub parts_wrong : (p : Bool) → p ≡ parts_right (kind_of v) b v → p ≡ false → BODY ≡ body_number b
  parts_wrong p e n = rw (number_split, sym e ∙ n)

  pub words_wrong : (w : Bool) → w ≡ words_right b v → w ≡ false → BODY ≡ body_number b
  words_wrong w e n = rw (number_split, sym e ∙ n, both_false (parts_right (kind_of v) b v))

  pub both_are_right : (p w : Bool) → p ≡ parts_right (kind_of v) b v → p ≡ true → w ≡ words_right b v → w ≡ true → 0 ≡ body_number b
  both_are_right p w e y f z = rw (number_split, sym e ∙ y, sym f ∙ z)
