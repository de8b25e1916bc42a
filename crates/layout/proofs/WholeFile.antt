-- What was measured of a picture's file, and its pieces put one after the other: the layout. Assumes nothing.
use Prim.Native.Nat.{ℕ, ◌+◌, ◌*◌, ◌≤◌}
use mathlib.Core.Path.{◌≡◌, refl, sym, ap, subst, ◌∙◌}
use mathlib.Core.Bool.{true}
use mathlib.Core.List.{List, ◌++◌}
use native.Mathlib.Omega.{arith}
use lib.ListN.{length, drop, length-append}
use lib.Dec.{ltb}
use borrow.Author.Tests.{ltb-false}
use Rattle.std.specs.Prelude.{Option, Some}
use Rattle.format.specs.declared.Setting.{Setting}
use Rattle.format.specs.declared.Dimensions.{Dimensions}
use Rattle.format.specs.Signals.{SMALL, refuse}
use Rattle.format.specs.Bytes.{bytes_of}
use Rattle.format.specs.Picture.{cells, most_dimensions}
use Rattle.format.specs.Stored.{stored, kept}
use Rattle.format.specs.Codec.{Parts}
use Rattle.format.specs.Kinds.{codec, setting_allowed}
use Rattle.format.specs.File.{header_length, header, counts_of, file_from, layout}
use Rattle.format.specs.Calls.{out_number}
use Rattle.laws.proofs.Tools.{cases, refuse-zero}
use Rattle.laws.proofs.Bytes.{length-bytes_of}
use Rattle.laws.proofs.Stored.{rising, stored-kept}
use Rattle.stores.specs.Put.{put}
use Rattle.stores.proofs.Laws.{put_front}
use Rattle.parts.specs.declared.Sizes.{Sizes}
use Rattle.parts.specs.Encoder.{begun}
use Rattle.parts.specs.Codes.{Standing, sizes_in}
use Rattle.parts.proofs.Outright.{words_in, first_in, second_in}
use Rattle.kinds.specs.Coding.{coder, firsts, seconds, derived, Apart}
use Rattle.layout.specs.Laid.{counts_in, total_of, Fitting, Measures, out_of, Goes}
use Rattle.layout.proofs.Header.{length-header}
use Rattle.layout.proofs.Measuring.{some_picked, fits}
use Rattle.layout.proofs.Pieces.{apart, standing, assembled}

-- the destination before what is made of the parts: header, the encoder's bytes and the words
abbrev pub laid_out : Setting → Dimensions → ℕ → List ℕ → Sizes → List ℕ → List ℕ
laid_out s d E ws z before =
    put
    (put
    (put (put before 0 (header s d E (counts_in z))) header_length (firsts s (begun header_length (header_length + z.first)) (stored E ws)))
    (header_length + z.first) (seconds s (begun header_length (header_length + z.first)) (stored E ws)))
    (header_length + z.first + z.second)
    (bytes_of 4 (kept E ws))

-- what `put_derived` asks of a destination
abbrev pub Derivable : Setting → Sizes → List ℕ → Type 0
Derivable s z b = Standing (coder s) (codec s) z header_length b

words-length : (E : ℕ) (ws : List ℕ) → length (bytes_of 4 (kept E ws)) ≡ 4 * length (stored E ws)
words-length E ws = length-bytes_of 4 (kept E ws) ∙ ap (λ (n : ℕ). 4 * n) (sym (stored-kept E ws))

-- a picture of as many words as cells
module _ (s : Setting) (a : setting_allowed s ≡ true) (d : Dimensions) (four : length d.extents ≡ most_dimensions) (E : ℕ) (ws : List ℕ)
    (size : cells d ≡ length ws) (few : length ws ≤ 16777216) where
  abbrev ls : List ℕ
  ls = stored E ws

  abbrev parts : Parts
  parts = (codec s).parts (length ws) ls

  module _ (z : Sizes) (q : z ≡ sizes_in (length ls) parts) where
    -- the header put out is the layout's
    same-header : header s d E (counts_in z) ≡ header s d E (counts_of (length (kept E ws)) parts)
    unfolding sizes_in
    same-header = rw q (ap (λ (n : ℕ). header s d E (counts_of n parts)) (stored-kept E ws))

    pieces : header s d E (counts_in z) ++ parts.first ++ parts.second ++ bytes_of 4 (kept E ws) ≡ layout s d E ws
    unfolding layout file_from
    pieces = ap (λ (t : List ℕ). t ++ parts.first ++ parts.second ++ bytes_of 4 (kept E ws)) same-header ∙ rw size

    total-length : total_of z ≡ length (layout s d E ws)
    total-length =
        let hd = header s d E (counts_in z) in
        let l0 = length-header s d E (counts_in z) four in
        let l1 = length-append hd parts.first in
        let l2 = length-append (hd ++ parts.first) parts.second in
        let l3 = length-append (hd ++ parts.first ++ parts.second) (bytes_of 4 (kept E ws)) in
        let w = words-length E ws in
        let f = first_in z (length ls) parts q in
        let g = second_in z (length ls) parts q in
        let n = words_in z (length ls) parts q in
        let p = ap length pieces in
        omega arith

  -- 9 and 10 by what was measured
  pub out-number : (m : Option Sizes) → Measures s (length ws) ls m → (room : ℕ) → out_of m room ≡ out_number s d E ws room
  unfolding out_number
  out-number m k room =
      rw k.sizes
      (cases ((codec s).unfit ls)
      (λ t. rw t)
      (λ t. rw t (ap (λ (n : ℕ). refuse SMALL (ltb room n) 0) (total-length (sizes_in (length ls) parts) refl))))

  -- neither 9 nor 10
  pub goes : (m : Option Sizes) → Measures s (length ws) ls m → (room : ℕ) → out_of m room ≡ 0 → (z : Sizes) → m ≡ Some z → Goes s d E ws z room
  goes m k room o z e =
      let t = some_picked _ _ _ (sym e ∙ k.sizes) in
      let u : refuse SMALL (ltb room (total_of z)) 0 ≡ 0 = rw e at o in
      record {
        allowed = a;
        few = few;
        fits = t.0;
        sizes = t.1;
        room = ltb-false room (total_of z) (refuse-zero 9 (ltb room (total_of z)) 0 u).0;
      }

-- what the code that puts the file out relies on
pub record Laid (s : Setting) (d : Dimensions) (E : ℕ) (ws before : List ℕ) (z : Sizes) : Type 0 where
  pub fitting : Fitting z
  pub long : header_length ≤ length before
  pub apart : Apart s (begun header_length (header_length + z.first)) (stored E ws) (header_length + z.first + z.second)
  pub words-room : header_length + z.first + z.second + 4 * length (kept E ws) ≤ length before
  pub derivable : Derivable s z (laid_out s d E ws z before)
  pub file : derived s z header_length (laid_out s d E ws z before) ≡ layout s d E ws ++ drop (length (layout s d E ws)) before

pub laid_out_lem : (s : Setting) (d : Dimensions) (E : ℕ) (ws before : List ℕ) (z : Sizes) → length d.extents ≡ most_dimensions → cells d ≡ length ws
    → Goes s d E ws z (length before) → Laid s d E ws before z
laid_out_lem s d E ws before z four size g =
    let a = g.allowed in
    let ls = stored E ws in
    let n = length ws in
    let r = rising E ws in
    let q = g.sizes in
    let hd = header s d E (counts_in z) in
    let w = words-length E ws in
    let l = length-header s d E (counts_in z) four in
    let o = g.room in
    let c = words_in z (length ls) ((codec s).parts n ls) q in
    let k = length-bytes_of 4 (kept E ws) in
    let t = total-length s a d four E ws size g.few z q in
    record {
      fitting = subst Fitting (sym q) (fits s a n ls g.few r g.fits);
      long = omega arith;
      apart = apart s a n ls g.few r z q;
      words-room = omega arith;
      derivable = standing s a n ls g.few r z q before hd (bytes_of 4 (kept E ws)) l o;
      file =
          assembled s a n ls g.few r z q before hd (bytes_of 4 (kept E ws)) l o
          ∙ ap (put before 0) (pieces s a d four E ws size g.few z q)
          ∙ put_front before (layout s d E ws) (omega arith);
    }
