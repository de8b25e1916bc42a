-- Header, parts and words put one after the other are the file. Assumes nothing.
use Prim.Native.Nat.{ℕ, ◌+◌, ◌≤◌}
use mathlib.Core.Path.{◌≡◌, sym, ap, ◌∙◌}
use mathlib.Core.Bool.{true}
use mathlib.Core.List.{List, ◌++◌}
use native.Mathlib.Omega.{arith}
use lib.ListN.{length, length-append}
use Rattle.format.specs.declared.Setting.{Setting}
use Rattle.format.specs.Codec.{Parts}
use Rattle.format.specs.Kinds.{codec, setting_allowed}
use Rattle.format.specs.File.{header_length}
use Rattle.laws.proofs.Stored.{Rising}
use Rattle.stores.specs.Put.{put}
use Rattle.stores.proofs.Laws.{length-put, put-append, put_comm}
use Rattle.parts.specs.declared.Sizes.{Sizes}
use Rattle.parts.specs.Encoder.{begun}
use Rattle.parts.specs.Codes.{Standing, sizes_in, out_in}
use Rattle.parts.proofs.Outright.{first_in, second_in}
use Rattle.kinds.specs.Coding.{coder, firsts, seconds, derived, Apart}
use Rattle.layout.specs.Laid.{total_of}
use Rattle.layout.proofs.Measuring.{out}

-- ---- puts one after the other

two : (d x y : List ℕ) (n : ℕ) → n ≡ length x → put (put d 0 x) n y ≡ put d 0 (x ++ y)
two d x y n e = sym (put-append d 0 x y ∙ ap (λ (m : ℕ). put (put d 0 x) m y) (let k = e in omega arith))

four_puts : (d a x y w : List ℕ) (n m k : ℕ) → n ≡ length a → m ≡ n + length x → k ≡ m + length y
    → put (put (put (put d 0 a) n x) m y) k w ≡ put d 0 (a ++ x ++ y ++ w)
four_puts d a x y w n m k e f g =
    let l1 = length-append a x in
    let l2 = length-append (a ++ x) y in
    ap (λ (t : List ℕ). put (put t m y) k w) (two d a x n e)
    ∙ ap (λ (t : List ℕ). put t k w) (two d (a ++ x) y m (omega arith))
    ∙ two d (a ++ x ++ y) w k (omega arith)

-- ---- the file

module _ (s : Setting) (a : setting_allowed s ≡ true) (n : ℕ) (ls : List ℕ) (h : n ≤ 16777216) (r : Rising 0 n ls)
    (z : Sizes) (q : z ≡ sizes_in (length ls) ((codec s).parts n ls)) where
  abbrev parts : Parts
  parts = (codec s).parts n ls

  -- where the second part and the words begin
  abbrev pub second : ℕ
  second = header_length + z.first

  abbrev pub place : ℕ
  place = header_length + z.first + z.second

  -- what the encoder puts out
  abbrev first_out : List ℕ
  first_out = firsts s (begun header_length second) ls

  abbrev second-out : List ℕ
  second-out = seconds s (begun header_length second) ls

  -- the encoder's bytes have their places
  pub apart : Apart s (begun header_length second) ls place
  unfolding begun firsts seconds
  apart =
      let f = first_in z (length ls) parts q in
      let g = second_in z (length ls) parts q in
      let l = (out s a n ls h r).first-most header_length second in
      let m = (out s a n ls h r).second-most header_length second in
      record { first = omega arith; second = omega arith }

  module _ (d hd w : List ℕ) (l : length hd ≡ header_length) (room : total_of z ≤ length d) where
    -- the destination before what is made of the parts
    abbrev pub laid : List ℕ
    laid = put (put (put (put d 0 hd) header_length first_out) second second-out) place w

    -- it does not matter that the words went out after the parts
    abbrev around : List ℕ
    around = put (put d 0 hd) place w

    parts_in : laid ≡ out_in (coder s) z header_length ls around
    unfolding out_in firsts seconds begun
    parts_in =
        let a1 = apart.first in
        let a2 = apart.second in
        put_comm (put (put d 0 hd) header_length first_out) second second-out place w (omega arith)
        ∙ ap (λ (t : List ℕ). put t second second-out) (put_comm (put d 0 hd) header_length first_out place w (omega arith))

    inside : place ≤ length around
    inside = let k = length-put (put d 0 hd) place w ∙ length-put d 0 hd in omega arith

    pub standing : Standing (coder s) (codec s) z header_length laid
    standing = record { bound = n; positions = ls; before = around; most = h; rising = r; sizes = q; room = inside; out = parts_in }

    pub assembled : derived s z header_length laid ≡ put d 0 (hd ++ parts.first ++ parts.second ++ w)
    unfolding derived
    assembled =
        let f = first_in z (length ls) parts q in
        let g = second_in z (length ls) parts q in
        ap ((coder s).derived z header_length) parts_in
        ∙ (out s a n ls h r).made z q around header_length inside
        ∙ ap (λ (t : List ℕ). put t second parts.second) (sym (put_comm (put d 0 hd) header_length parts.first place w (omega arith)))
        ∙ sym (put_comm (put (put d 0 hd) header_length parts.first) second parts.second place w (omega arith))
        ∙ four_puts d hd parts.first parts.second w header_length second place (sym l) (omega arith) (omega arith)
