-- What an encoder that has taken all stored positions has measured. Assumes nothing.
use Prim.Native.Nat.{ℕ, ◌≤◌}
use mathlib.Core.Path.{◌≡◌, refl, sym, ap, ◌∙◌}
use mathlib.Core.Bool.{Bool, true, false, not}
use mathlib.Core.List.{List}
use native.Mathlib.Omega.{arith}
use lib.ListN.{length}
use Rattle.std.specs.Prelude.{Option, Some, None, IfSome}
use Rattle.format.specs.declared.Setting.{Setting}
use Rattle.format.specs.Tools.{pick}
use Rattle.format.specs.Kinds.{codec, setting_allowed}
use Rattle.laws.proofs.Stored.{Rising, rising_widen, rising-length}
use Rattle.laws.proofs.Parts.{Known, known}
use Rattle.parts.specs.declared.Encoder.{Encoder}
use Rattle.parts.specs.Encoder.{begun}
use Rattle.parts.specs.Codes.{PutOut, sizes_in}
use Rattle.parts.proofs.Sounds.{sound-begun}
use Rattle.parts.proofs.Taking.{first-all, second-all}
use Rattle.parts.specs.declared.Sizes.{Sizes}
use Rattle.kinds.specs.Coding.{coder, taken_all, counted_by}
use Rattle.kinds.proofs.Counts.{ByCount, follows}
use Rattle.kinds.proofs.Laws.{codes}
use Rattle.kinds.proofs.Driving.{rank-added, sound-added}
use Rattle.layout.specs.Laid.{Fitting, Bounded, Measures, measured_by}

pub not-true : (t u : Bool) → t ≡ not u → t ≡ true → u ≡ false
not-true t true e h = sym h ∙ e
not-true t false e h = refl

-- sizes, or none, by a test
picked : (f u : Bool) (x y : Sizes) → f ≡ not u → (u ≡ false → x ≡ y) → pick f (Some x) None ≡ pick u None (Some y)
picked f true x y e h = rw e
picked f false x y e h = rw e (ap Some (h refl))

pub some_picked : (u : Bool) (z y : Sizes) → Some z ≡ pick u None (Some y) → (u ≡ false) × (z ≡ y)
some_picked true z y e = cc
some_picked false z y e = (refl, cc)

if_picked : (u : Bool) (z : Sizes) → (u ≡ false → Fitting z) → IfSome (pick u None (Some z)) Fitting
if_picked true z h = tt
if_picked false z h = h refl

module _ (s : Setting) (a : setting_allowed s ≡ true) (n : ℕ) (ls : List ℕ) (h : n ≤ 16777216) (r : Rising 0 n ls) where
  -- the encoder after the positions
  abbrev pub e : Encoder
  e = taken_all s (begun 0 0) ls

  fit : e.fits ≡ not ((codec s).unfit ls)
  unfolding taken_all
  fit = (codes s a).fits 0 0 ls

  pub out : PutOut (coder s) (codec s) n ls
  out = (codes s a).out n ls h r

  pub measures : Measures s n ls (measured_by s e)
  unfolding measured_by taken_all
  measures = record { sizes = picked e.fits ((codec s).unfit ls) _ _ fit out.sizes }

  -- the same by the counts that the sizes follow from
  pub counts_measure : (ranks runs : ℕ) (z : Sizes) → z ≡ (coder s).sizes (counted_by s.kind ranks runs) → ByCount s ls ranks runs → Measures s n ls (Some z)
  counts_measure ranks runs z q b = let t = follows n ls h r ranks runs s b in record { sizes = rw t.fits (ap Some (q ∙ t.sizes)) }

  few : length ls ≤ n
  few = let m = rising-length 0 n ls (omega arith) r in omega arith

  pub bounded : e.fits ≡ true → Bounded s e
  unfolding taken_all begun
  bounded t =
      let u = not-true e.fits ((codec s).unfit ls) fit t in
      let k : Known (codec s) n ls = known n ls h r s a u in
      let k1 = k.first-most in
      let k2 = k.second-most in
      let o = out in
      let c = rank-added s (begun 0 0) ls in
      let f = first-all (coder s) (begun 0 0) ls in
      let g = second-all (coder s) (begun 0 0) ls in
      let f2 = o.first-most 0 0 in
      let g2 = o.second-most 0 0 in
      let m = few in
      record {
        sound = sound-added s (begun 0 0) ls a (sound-begun 0 0 (omega arith) (omega arith)) (rising_widen 0 n 16777216 ls h r);
        rank = omega arith;
        first = omega arith;
        second = omega arith;
      }

  -- the file's length fits its field
  pub fits : (codec s).unfit ls ≡ false → Fitting (sizes_in (length ls) ((codec s).parts n ls))
  unfolding sizes_in
  fits u =
      let k : Known (codec s) n ls = known n ls h r s a u in
      let k1 = k.first-most in
      let k2 = k.second-most in
      let c = few in
      omega arith

  pub fitting : (m : Option Sizes) → Measures s n ls m → IfSome m Fitting
  fitting m q = rw q.sizes (if_picked ((codec s).unfit ls) _ fits)
