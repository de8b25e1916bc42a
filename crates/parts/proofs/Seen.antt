-- What is known of a file by its view, said once: of a header that is right, and of an accepted file. Assumes nothing.
use Rattle.std.proofs.Common.{◌≡◌, ℕ, suc, ◌+◌, ◌*◌, Bool, true, false, not, eqb, ltb, leb, List, [], ◌∷◌, length, drop, sym, refl, ap, ◌∙◌, arith, ltb-true, lt-ltb, eq-eqb, eqb-true, le-leb, leb-true}
use borrow.Author.Tests.{not-true}
use Rattle.format.specs.declared.View.{View}
use Rattle.format.specs.Tools.{both, same}
use Rattle.format.specs.Picture.{cells}
use Rattle.format.specs.Stored.{stored, kept}
use Rattle.format.specs.Codec.{Codec}
use Rattle.format.specs.Kinds.{codec, setting_allowed}
use Rattle.format.specs.File.{header_length, HasFile}
use Rattle.format.specs.Accepted.{setting_of, dimensions_of, empty_of, words_count, first_count, second_count, second_at, words_at, end_at, counts_right, positions_of, kept_of, words_of, header_number, check_number}
use Rattle.format.specs.Opened.{view_of}
use Rattle.laws.proofs.Tools.{both_true, same_eq, same_true}
use Rattle.laws.proofs.Stored.{Rising}
use Rattle.laws.proofs.Limits.{small-dims}
use Rattle.laws.proofs.Files.{HeaderRight, positions-back, kept_back}
use Rattle.laws.proofs.Acceptance.{header-right, accepted, accepted_has_file}
use Rattle.laws.proofs.Check.{counts_by, by_body, length-numbers_of}
use Rattle.parts.specs.Holds.{Counted, said, rises, parts_of, parts_right, Holds, kind_of, ViewOf, HeaderView, second_bytes}

-- ---- the tests of a check as types

pub rises_true : (a B : ℕ) (ls : List ℕ) → rises a B ls ≡ true → Rising a B ls
unfolding rises
rises_true a B [] h = tt
rises_true a B (l ∷ ls) h =
    let t = both_true (leb a l) _ h in
    let u = both_true (ltb l B) _ t.1 in
    (leb-true a l t.0, ltb-true l B u.0, rises_true (suc l) B ls u.1)

pub rising-rises : (a B : ℕ) (ls : List ℕ) → Rising a B ls → rises a B ls ≡ true
unfolding rises
rising-rises a B [] r = refl
rising-rises a B (l ∷ ls) r = rw (le-leb a l r.0, lt-ltb l B r.1) (rising-rises (suc l) B ls r.2)

module _ (k : Codec) (b : List ℕ) (v : View) where
  -- parts that are right hold the positions that they say
  pub right_holds : Counted k b v → parts_right k b v ≡ true → Holds k b v (said k b v)
  unfolding parts_right parts_of
  right_holds c h =
      let ls = said k b v in
      let t1 = both_true (rises 0 v.cells ls) _ h in
      let t2 = both_true (eqb (length ls) v.words) _ t1.1 in
      let t3 = both_true (not (k.unfit ls)) _ t2.1 in
      let t4 = both_true (eqb (k.parts v.cells ls).first_count v.firsts) _ t3.1 in
      let t5 = both_true (eqb (k.parts v.cells ls).second_count v.seconds) _ t4.1 in
      let t6 = both_true (same (k.parts v.cells ls).first _) _ t5.1 in
      record {
        counted = c;
        back = refl;
        rising = rises_true 0 v.cells ls t1.0;
        size = eqb-true (length ls) v.words t2.0;
        fits = not-true (k.unfit ls) t3.0;
        first_count_lem = eqb-true _ v.firsts t4.0;
        second-count = eqb-true _ v.seconds t5.0;
        first = same_true _ _ t6.0;
        second = same_true _ _ t6.1;
      }

  -- and the other way round
  pub holds_right : (ls : List ℕ) → Holds k b v ls → parts_right k b v ≡ true
  unfolding parts_right parts_of
  holds_right ls h = rw h.back (all h)
    where
      seven : {a c d e f g i : Bool} → a ≡ true → c ≡ true → d ≡ false → e ≡ true → f ≡ true → g ≡ true → i ≡ true
          → both a (both c (both (not d) (both e (both f (both g i))))) ≡ true
      seven p q r s t u w = rw (p, q, r, s, t, u, w)

      all : Holds k b v ls → parts_of k b v ls ≡ true
      all h =
          seven (rising-rises 0 v.cells ls h.rising) (eq-eqb (length ls) v.words h.size) h.fits
          (eq-eqb _ v.firsts h.first_count_lem) (eq-eqb _ v.seconds h.second-count) (same_eq _ _ h.first) (same_eq _ _ h.second)

-- ---- a header that is right

pub record Headed (b : List ℕ) (v : View) : Type 0 where
  pub right : HeaderRight b
  pub cells : v.cells ≡ cells (dimensions_of b)
  pub start : v.start ≡ header_length
  pub second : v.second ≡ second_at b
  pub place : v.place ≡ words_at b
  pub behind : v.place ≡ v.second + second_bytes (kind_of v) v
  pub long : length b ≡ v.place + 4 * v.words
  pub counted : Counted (kind_of v) b v

by_header : (b : List ℕ) → header_number b ≡ 0 → Headed b (view_of b)
unfolding view_of setting_allowed codec counts_right second_at words_at end_at
by_header b h =
    let r = header-right b h in
    let by = counts_by b r.counts in
    let t = both_true (leb (words_count b) (cells (dimensions_of b))) _ r.counts in
    let n = (both_true ((codec (setting_of b)).counts (cells (dimensions_of b)) (words_count b) (first_count b) (second_count b)) _ t.1).0 in
    let k : (view_of b).cells ≡ cells (dimensions_of b) = rw r.dims in
    let f = by.fields.first-at in
    let s = by.fields.second_at_lem in
    let w = by.fields.words-at in
    let z = by.size in
    record {
      right = r;
      cells = k;
      start = f;
      second = s;
      place = w;
      behind = w ∙ ap (λ (x : ℕ). x + (codec (setting_of b)).second_bytes (first_count b) (second_count b)) (sym s);
      long = z ∙ ap (λ (x : ℕ). x + 4 * words_count b) (sym w);
      counted =
          record {
            allowed = r.setting;
            counts = rw k n;
            cells-most = rw k (small-dims (dimensions_of b) r.dims).most;
            words-most = rw k by.words-most;
            second = s ∙ ap (λ (x : ℕ). x + (codec (setting_of b)).first_bytes (first_count b) (second_count b)) (sym f);
            inside = omega arith;
          };
    }

pub headed : (b : List ℕ) (v : View) → HeaderView b v → Headed b v
headed b v h = rw h.view (by_header b h.header)

-- ---- an accepted file

pub record Seen (b : List ℕ) (v : View) : Type 0 where
  pub header : Headed b v
  pub kind : v.kind ≡ (setting_of b).kind
  pub empty : v.empty ≡ empty_of b
  pub words : v.words ≡ words_count b
  pub file : HasFile (setting_of b) (dimensions_of b) (empty_of b) (words_of b) b
  pub holds : Holds (kind_of v) b v (positions_of b)
  pub stored : positions_of b ≡ stored (empty_of b) (words_of b)
  pub kept : kept_of b ≡ kept (empty_of b) (words_of b)
  pub kept-size : length (kept_of b) ≡ v.words
  pub words_size : length (words_of b) ≡ v.cells

by_view : (b : List ℕ) → check_number b ≡ 0 → Seen b (view_of b)
unfolding view_of codec said positions_of kept_of
by_view b h =
    let g = by_header b (accepted b h).header in
    let f = accepted_has_file b h in
    let y = by_body _ _ _ _ b f in
    let k : (view_of b).cells ≡ cells (dimensions_of b) = g.cells in
    let st = g.start in
    let se = g.second in
    record {
      header = g;
      kind = refl;
      empty = refl;
      words = refl;
      file = f;
      holds =
          record {
            counted = g.counted;
            back = rw (st, se);
            rising = rw k y.rising;
            size = y.size;
            fits = y.fits;
            first_count_lem = rw k y.first_count_lem;
            second-count = rw k y.second-count;
            first = rw (k, st) y.first;
            second = rw (k, se) y.second;
          };
      stored = positions-back _ _ _ _ b f;
      kept = kept_back _ _ _ _ b f;
      kept-size = length-numbers_of 4 (words_count b) (drop (words_at b) b);
      words_size = f.size ∙ sym k;
    }

pub seen : (b : List ℕ) (v : View) → ViewOf b v → Seen b v
seen b v o = rw o.view (by_view b o.accepted)
