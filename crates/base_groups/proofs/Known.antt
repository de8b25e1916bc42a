-- What right counts say of the two parts, and what the parts are that hold stored positions. Assumes nothing.
use Rattle.std.proofs.Common.{◌≡◌, ℕ, ◌+◌, ◌*◌, ◌^◌, ◌≤◌, eqb, List, length, drop, sym, ◌∙◌, ap₂, mul-zero, arith, eqb-true}
use Rattle.format.specs.declared.View.{View}
use Rattle.format.specs.Tools.{up_to}
use Rattle.format.specs.Bytes.{numbers_of}
use Rattle.format.specs.Codec.{Codec}
use Rattle.format.specs.BaseOffset.{bases, offsets, offsets_fit, based_parts, based_kind}
use Rattle.laws.proofs.Tools.{both_true, not-false}
use Rattle.laws.proofs.Bounds.{below-rising, below_widen, below-bases, below-offsets}
use Rattle.laws.proofs.Positions.{length-offsets}
use Rattle.wire.specs.Wire.{entry_size}
use Rattle.wire.proofs.Laws.{entry_of_lem}
use Rattle.parts.specs.Holds.{Counted, Holds}
use Rattle.parts.proofs.Entries.{Entries, all-entries}
use Rattle.base_groups.proofs.Rule.{Allowed, allows}

-- the kind at a view's width and step
abbrev pub kind : View → Codec
kind v = based_kind v.width v.step

-- the bases and the offsets that the parts say
abbrev pub bases_of : List ℕ → View → List ℕ
bases_of b v = numbers_of 4 v.firsts (drop v.start b)

abbrev pub offsets_of : List ℕ → View → List ℕ
offsets_of b v = numbers_of (entry_size v.width) v.words (drop v.second b)

pub record Known (b : List ℕ) (v : View) : Type 0 where
  pub rule : Allowed v.width v.step
  pub cells-most : v.cells ≤ 16777216
  pub entry_is : entry_size v.width ≡ v.width
  pub bases : v.firsts ≡ up_to v.words v.step
  pub seconds_is : v.seconds ≡ v.words
  pub second-place : v.second ≡ v.start + 4 * v.firsts
  pub there : v.second + entry_size v.width * v.words ≤ length b

pub known : (b : List ℕ) (v : View) → Counted (kind v) b v → Known b v
unfolding based_kind
known b v c =
    let a = allows v.width v.step c.allowed in
    let t = both_true (eqb v.firsts (up_to v.words v.step)) (eqb v.seconds v.words) c.counts in
    let s = eqb-true v.seconds v.words t.1 in
    let e = entry_of_lem v.width a.width-least a.width-most in
    record {
      rule = a;
      cells-most = c.cells-most;
      entry_is = e;
      bases = eqb-true v.firsts (up_to v.words v.step) t.0;
      seconds_is = s;
      second-place = c.second;
      there = rw (e, ← s) c.inside;
    }

-- ---- the parts hold the stored positions ls

module _ (b : List ℕ) (v : View) (ls : List ℕ) (h : Holds (kind v) b v ls) where
  pub held : Known b v
  held = known b v h.counted

  pub base-entries : Entries b 4 v.start 0 (bases v.step ls)
  unfolding based_kind based_parts
  base-entries =
      let k = held in
      let m = k.cells-most in
      let t = k.there in
      let p = k.second-place in
      let small = below_widen v.cells (256 ^ 4) ls (omega arith) (below-rising 0 v.cells ls h.rising) in
      all-entries b 4 v.start (4 * v.firsts) (bases v.step ls) (omega arith)
      (below-bases v.step (256 ^ 4) ls (omega arith) small) h.first

  pub offset_entries : Entries b (entry_size v.width) v.second 0 (offsets v.step ls)
  unfolding based_kind based_parts
  offset_entries =
      let t = held.there in
      let small = below-offsets v.width v.step ls (not-false (offsets_fit v.width v.step ls) h.fits) in
      rw held.entry_is (all-entries b v.width v.second (v.width * v.seconds) (offsets v.step ls) (omega arith) small h.second)

  again : (w s n : ℕ) (xs : List ℕ) → Entries b w s 0 xs → length xs ≡ n → xs ≡ numbers_of w n (drop s b)
  again w s n xs e l =
      let z : s + w * 0 ≡ s = omega (arith, mul-zero w) in
      sym e.list ∙ ap₂ (λ (m i : ℕ). numbers_of w m (drop i b)) l z

  pub bases_are : bases v.step ls ≡ bases_of b v
  unfolding based_kind based_parts
  bases_are = again 4 v.start v.firsts (bases v.step ls) base-entries h.first_count_lem

  pub offsets_are : offsets v.step ls ≡ offsets_of b v
  offsets_are =
      again (entry_size v.width) v.second v.words (offsets v.step ls) offset_entries (length-offsets v.step ls ∙ h.size)
