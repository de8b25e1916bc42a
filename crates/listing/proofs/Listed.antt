-- What the lister prints of each input, as the code finds it. Assumes nothing.
use Prim.Native.Nat.{ℕ, zero, suc, ◌≤◌, ◌<◌}
use mathlib.Core.Path.{◌≡◌, refl, sym, subst, ◌∙◌}
use mathlib.Core.List.{List}
use native.Mathlib.Nat.{zero-add}
use native.Mathlib.Omega.{arith}
use lib.ListN.{length, drop, length-append}
use lib.Dec.{ltb}
use borrow.Author.Tests.{ltb-false, lt-ltb, le-ltb, le-leb, lt-leb}
use Rattle.format.specs.Accepted.{check_number, Checked}
use Rattle.format.specs.Opened.{view_of}
use Rattle.format.specs.Lister.{most_listed, file_lines, refused_line, too_long, listed_as, listing}
use Rattle.laws.proofs.Tools.{cases}
use Rattle.stores.proofs.Laws.{put_front}
use Rattle.text.specs.Text.{TextPut, Offered}
use Rattle.text.proofs.Decimal.{decimal-most}
use Rattle.text.proofs.Placing.{length-refused}
use Rattle.listing.proofs.Lines.{file-most}

-- a text that fits, put at the beginning, and one that does not
pub offered_put : (text d e : List ℕ) (r : ℕ) → length text ≤ length d → TextPut text d 0 r e → Offered text d r e
offered_put text d e r h t =
    record {
      size = t.place ∙ zero-add (length text);
      left = t.bytes ∙ put_front d text h ∙ rw (le-leb (length text) (length d) h);
    }

pub offered_small : (text d : List ℕ) (r : ℕ) → r ≡ length text → length d < length text → Offered text d r d
offered_small text d r e h = record { size = e; left = rw (lt-leb (length text) (length d) h) }

-- which text it is
module _ (b : List ℕ) where
  pub text_long : most_listed < length b → listing b ≡ too_long
  unfolding listing
  text_long h = rw (lt-ltb most_listed (length b) h)

  module _ (h : length b ≤ most_listed) where
    pub text_refused : (n : ℕ) → Checked b n → (n ≡ 0 → ⊥) → listing b ≡ refused_line n
    unfolding listing
    text_refused zero c k = absurd (k refl)
    text_refused (suc n) c k = rw (le-ltb most_listed (length b) h, ← c.number)

    pub text_file : (n : ℕ) → Checked b n → n ≡ 0 → listing b ≡ file_lines b
    unfolding listing
    text_file n c z = rw (le-ltb most_listed (length b) h, ← c.number, z)

-- the same text
pub same_text : (text text' d e : List ℕ) (r : ℕ) → text ≡ text' → Offered text' d r e → Offered text d r e
same_text text text' d e r p o = subst (λ (l : List ℕ). Offered l d r e) (sym p) o

-- ---- no text is longer than 426,000 bytes

pub refused-most : (n : ℕ) → length (refused_line n) ≤ 19
refused-most n = let k = decimal-most n in omega (arith, length-refused n)

text_most : (b : List ℕ) → length b ≤ most_listed → (n : ℕ) → check_number b ≡ n → length (listed_as n b) ≤ 426000
text_most b h zero e = file-most b (view_of b) (record { accepted = e; view = refl }) h
text_most b h (suc n) e = let k = refused-most (suc n) in omega arith

pub listing-length : (b : List ℕ) → length (listing b) ≤ 426000
unfolding listing
listing-length b =
    cases (ltb most_listed (length b))
    (λ t. rw t (omega arith))
    (λ t. rw t (text_most b (ltb-false most_listed (length b) t) (check_number b) refl))

-- what is printed is in a buffer that is as long
pub listed-inside : (b d e : List ℕ) (r : ℕ) → 426000 ≤ length d → Offered (listing b) d r e → r ≤ length e
listed-inside b d e r h o =
    let m = listing-length b in
    let fit : length (listing b) ≤ length d = omega arith in
    let q = o.size in
    rw (o.left, le-leb (length (listing b)) (length d) fit, length-append (listing b) (drop (length (listing b)) d)) (omega arith)
