-- For a driver that takes the positions of a list in batches: those of xs first, then those of ys, then the end. Assumes nothing.
use Prim.Native.Nat.{ℕ, ◌+◌, ◌≤◌}
use mathlib.Core.Path.{◌≡◌, sym, ap, ap₂, ◌∙◌}
use mathlib.Core.Bool.{true}
use mathlib.Core.List.{List, [], ◌++◌, append-nil}
use native.Mathlib.Omega.{arith}
use lib.ListN.{length, length-append}
use Rattle.format.specs.declared.Setting.{Setting}
use Rattle.format.specs.Kinds.{setting_allowed}
use Rattle.laws.proofs.Stored.{Rising}
use Rattle.stores.specs.Put.{put}
use Rattle.stores.proofs.Laws.{put3_step}
use Rattle.parts.specs.declared.Encoder.{Encoder}
use Rattle.parts.specs.Ready.{passed, Sound}
use Rattle.parts.specs.Batch.{Along}
use Rattle.parts.proofs.Taking.{rank-all}
use Rattle.parts.proofs.Added.{firsts_by_lem, seconds_by_lem, taken-append, first-place, second-place, along_by_lem}
use Rattle.kinds.specs.Coding.{coder, firsts, seconds, taken_all, added_first, added_second, Apart}
use Rattle.kinds.proofs.Laws.{codes}

module _ (s : Setting) (e : Encoder) (xs ys : List ℕ) where
  pub firsts-append : firsts s e (xs ++ ys) ≡ added_first s e xs ++ firsts s (taken_all s e xs) ys
  unfolding firsts added_first taken_all
  firsts-append = firsts_by_lem (coder s) e xs ys

  pub seconds-append : seconds s e (xs ++ ys) ≡ added_second s e xs ++ seconds s (taken_all s e xs) ys
  unfolding seconds added_second taken_all
  seconds-append = seconds_by_lem (coder s) e xs ys

  pub all_append : taken_all s e (xs ++ ys) ≡ taken_all s (taken_all s e xs) ys
  unfolding taken_all
  all_append = taken-append (coder s) e xs ys

module _ (s : Setting) (e : Encoder) (xs : List ℕ) where
  pub rank-added : (taken_all s e xs).rank ≡ e.rank + length xs
  unfolding taken_all
  rank-added = rank-all (coder s) e xs

  pub first-added : (taken_all s e xs).first ≡ e.first + length (added_first s e xs)
  unfolding taken_all added_first
  first-added = first-place (coder s) e xs

  pub second-added : (taken_all s e xs).second ≡ e.second + length (added_second s e xs)
  unfolding taken_all added_second
  second-added = second-place (coder s) e xs

-- the positions of ys can be taken after those of xs
pub along-added : (s : Setting) (e : Encoder) (xs ys : List ℕ) → setting_allowed s ≡ true → Sound e → Rising (passed e) 16777216 (xs ++ ys)
    → Along (taken_all s e xs) ys
unfolding taken_all
along-added s e xs ys a h r = along_by_lem (coder s) (codes s a).keeps e xs ys (record { sound = h; rising = r })

pub sound-added : (s : Setting) (e : Encoder) (xs : List ℕ) → setting_allowed s ≡ true → Sound e → Rising (passed e) 16777216 xs → Sound (taken_all s e xs)
sound-added s e xs a h r = (along-added s e xs [] a h (rw (append-nil xs) r)).sound

module _ (s : Setting) (e : Encoder) (xs ys : List ℕ) (v : ℕ) (a : Apart s e (xs ++ ys) v) where
  length-firsts : length (firsts s e (xs ++ ys)) ≡ length (added_first s e xs) + length (firsts s (taken_all s e xs) ys)
  length-firsts = ap length (firsts-append s e xs ys) ∙ length-append (added_first s e xs) (firsts s (taken_all s e xs) ys)

  length-seconds : length (seconds s e (xs ++ ys)) ≡ length (added_second s e xs) + length (seconds s (taken_all s e xs) ys)
  length-seconds = ap length (seconds-append s e xs ys) ∙ length-append (added_second s e xs) (seconds s (taken_all s e xs) ys)

  -- what xs adds has room, and the parts stay apart
  pub room-first-all : e.first + length (added_first s e xs) ≤ e.second
  room-first-all = let n = length-firsts in let h = a.first in omega arith

  pub room-second-all : (n : ℕ) → v ≤ n → e.second + length (added_second s e xs) ≤ n
  room-second-all n l = let m = length-seconds in let h = a.second in omega arith

  pub apart_added : Apart s (taken_all s e xs) ys v
  apart_added =
      let f = first-added s e xs in
      let g = second-added s e xs in
      let n = length-firsts in
      let m = length-seconds in
      record { first = omega arith; second = omega arith }

  -- the bytes of xs and z, which goes to v, first; then the rest
  pub put_turn_all : (d z zs : List ℕ)
      → put (put (put d e.first (firsts s e (xs ++ ys))) e.second (seconds s e (xs ++ ys))) v (z ++ zs)
      ≡ put
      (put
      (put (put (put (put d e.first (added_first s e xs)) e.second (added_second s e xs)) v z)
      (taken_all s e xs).first (firsts s (taken_all s e xs) ys))
      (taken_all s e xs).second (seconds s (taken_all s e xs) ys))
      (v + length z) zs
  put_turn_all d z zs =
      let x : List ℕ = added_first s e xs in
      let x' : List ℕ = firsts s (taken_all s e xs) ys in
      let y : List ℕ = added_second s e xs in
      let y' : List ℕ = seconds s (taken_all s e xs) ys in
      let p = firsts-append s e xs ys in
      let q = seconds-append s e xs ys in
      let h : e.first + length (x ++ x') ≤ e.second = rw (← p) a.first in
      let k : e.second + length (y ++ y') ≤ v = rw (← q) a.second in
      let b : List ℕ = put (put (put d e.first x) e.second y) v z in
      rw (p, q) (put3_step d e.first x x' e.second y y' v z zs h k)
      ∙ ap₂ (λ (f g : ℕ). put (put (put b f x') g y') (v + length z) zs) (sym (first-added s e xs)) (sym (second-added s e xs))
