-- The parts are right exactly when the ranks are, checked one by one. Assumes nothing.
use Rattle.std.proofs.Common.{◌≡◌, ℕ, ◌-◌, ◌^◌, ◌<◌, ◌≤◌, Bool, true, leb, List, [], ◌∷◌, length, drop, sym, refl, ap, ◌∙◌, ap₂, arith, length-drop, le-leb}
use native.Mathlib.Nat.{sub-zero}
use Rattle.format.specs.declared.View.{View}
use Rattle.format.specs.Tools.{Below, every, up_to}
use Rattle.format.specs.BaseOffset.{bases, offsets, offsets_fit, based_positions, based_parts, based_kind}
use Rattle.laws.proofs.Tools.{cases, both_make}
use Rattle.laws.proofs.Stored.{Rising}
use Rattle.laws.proofs.Bytes.{below-drop, below-numbers_of}
use Rattle.laws.proofs.Positions.{length-offsets, based-back}
use Rattle.laws.proofs.Streams.{bases_from, offsets_from, bases_stream, offsets_stream}
use Rattle.laws.proofs.Check.{bytes_of-numbers_of, length-numbers_of}
use Rattle.wire.specs.Wire.{entry_size}
use Rattle.parts.specs.Holds.{Counted, Holds, said, parts_right}
use Rattle.parts.proofs.Seen.{right_holds, holds_right}
use Rattle.base_groups.proofs.Climb.{climbs-rising, rising-climbs}
use Rattle.base_groups.proofs.Known.{kind, bases_of, offsets_of, Known, known, bases_are, offsets_are}
use Rattle.base_groups.proofs.RankByRank.{based_from, ranks_right, Sound, sound, complete}

every-below : (w : ℕ) (xs : List ℕ) → Below (256 ^ w) xs → every (λ o. leb o (256 ^ w - 1)) xs ≡ true
every-below w [] h = refl
every-below w (x ∷ xs) h = both_make (leb x (256 ^ w - 1)) _ (le-leb x (256 ^ w - 1) (at_most (256 ^ w) h.0)) (every-below w xs h.1)
  where
    at_most : (m : ℕ) → x < m → x ≤ m - 1
    at_most m g = omega arith

module _ (b : List ℕ) (v : View) (c : Counted (kind v) b v) where
  know : Known b v
  know = known b v c

  ranks : Bool
  ranks = ranks_right v.step 0 0 0 v.cells (bases_of b v) (offsets_of b v)

  -- ---- right parts are right ranks

  parts-ranks : parts_right (kind v) b v ≡ true → ranks ≡ true
  unfolding ranks
  parts-ranks p =
      let ls = said (kind v) b v in
      let h = right_holds (kind v) b v c p in
      let l1 = know.rule.step-least in
      let e1 : bases_from v.step 0 ls ≡ bases_of b v = sym (bases_stream v.step ls l1) ∙ bases_are b v ls h in
      let e2 : offsets_from v.step 0 0 ls ≡ offsets_of b v = sym (offsets_stream v.step ls l1) ∙ offsets_are b v ls h in
      rw (e1, e2) at (complete v.step 0 0 0 v.cells ls (omega arith) (rising-climbs 0 v.cells ls (omega arith) h.rising))

  -- ---- right ranks are right parts

  -- positions that rise below cells and have the bases and the offsets of the parts
  made : Below 256 b → (ls : List ℕ) → said (kind v) b v ≡ ls → Rising 0 v.cells ls → bases v.step ls ≡ bases_of b v
      → offsets v.step ls ≡ offsets_of b v → Holds (kind v) b v ls
  unfolding based_kind based_parts offsets_fit
  made s ls q r e1 e2 =
      let k = know in
      let w = v.width in
      let t = k.there in
      let p = k.second-place in
      let n : length ls ≡ v.words
      = sym (length-offsets v.step ls) ∙ ap length e2 ∙ length-numbers_of (entry_size w) v.words (drop v.second b) in
      let below : Below (256 ^ w) (offsets v.step ls)
      = rw (e2, k.entry_is) (below-numbers_of w v.words (drop v.second b) (below-drop 256 v.second b s)) in
      record {
        counted = c;
        back = q;
        rising = r;
        size = n;
        fits = rw (every-below w (offsets v.step ls) below);
        first_count_lem = ap length e1 ∙ length-numbers_of 4 v.firsts (drop v.start b);
        second-count = n ∙ sym k.seconds_is;
        first = rw e1 (bytes_of-numbers_of 4 v.firsts (drop v.start b) (below-drop 256 v.start b s) (rw (length-drop v.start b) (omega arith)));
        second =
            rw (e2, k.entry_is, k.seconds_is)
            (bytes_of-numbers_of w v.words (drop v.second b) (below-drop 256 v.second b s)
            (rw (length-drop v.second b) (omega (arith, rw k.entry_is at t))));
      }

  pub bases-count : length (bases_of b v) ≡ up_to (length (offsets_of b v)) v.step
  bases-count =
      length-numbers_of 4 v.firsts (drop v.start b) ∙ know.bases
      ∙ ap (λ (n : ℕ). up_to n v.step) (sym (length-numbers_of (entry_size v.width) v.words (drop v.second b)))

  said_is : said (kind v) b v ≡ based_positions v.step (bases_of b v) (offsets_of b v)
  unfolding said based_kind
  said_is = rw (know.seconds_is, know.entry_is)

  ranks-parts : Below 256 b → ranks ≡ true → parts_right (kind v) b v ≡ true
  unfolding ranks
  ranks-parts s h =
      let l = v.step in
      let bs = bases_of b v in
      let os = offsets_of b v in
      let ls = based_from l 0 0 bs os in
      let l1 = know.rule.step-least in
      let t : Sound l 0 0 0 v.cells bs os ls = sound l 0 0 0 v.cells bs os l1 (rw (sub-zero (length os)) bases-count) h in
      let r : Rising 0 v.cells ls = climbs-rising 0 v.cells ls t.rise in
      let e1 : bases l ls ≡ bs = bases_stream l ls l1 ∙ t.bases in
      let e2 : offsets l ls ≡ os = offsets_stream l ls l1 ∙ t.offsets in
      let q : said (kind v) b v ≡ ls = said_is ∙ ap₂ (based_positions l) (sym e1) (sym e2) ∙ based-back l 0 v.cells ls l1 r in
      holds_right (kind v) b v ls (made s ls q r e1 e2)

  pub ranks_are : Below 256 b → ranks_right v.step 0 0 0 v.cells (bases_of b v) (offsets_of b v) ≡ parts_right (kind v) b v
  unfolding ranks
  ranks_are s =
      cases (parts_right (kind v) b v)
      (λ e. parts-ranks e ∙ sym e)
      (λ e. cases ranks (λ z. z ∙ sym (ranks-parts s z)) (λ z. z ∙ sym e))
