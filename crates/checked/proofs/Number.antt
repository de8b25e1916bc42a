-- The number of a header, step by step over its view. Assumes nothing.
use Prim.Native.Nat.{ℕ, zero, suc, ◌+◌, ◌*◌, ◌≤◌, ◌<◌}
use mathlib.Core.Path.{◌≡◌, refl, sym, ap, ◌∙◌}
use mathlib.Core.Bool.{Bool, true, false, not, ◌&&◌}
use mathlib.Core.List.{List}
use native.Mathlib.Omega.{arith}
use lib.ListN.{length}
use lib.Dec.{leb, eqb}
use borrow.Author.Tests.{le-ltb, lt-ltb, le-leb, lt-leb}
use Rattle.std.specs.Prelude.{Result, Ok, Err, Some, None}
use Rattle.format.specs.declared.Setting.{Setting}
use Rattle.format.specs.declared.View.{View}
use Rattle.format.specs.declared.Refusal.{Refusal}
use Rattle.format.specs.declared.Refusal.TheVariants as rf
use Rattle.format.specs.Answers.{signal_of}
use Rattle.format.specs.Tools.{both}
use Rattle.format.specs.Signals.{KIND, SETTING, EXTENT, COUNTS, BODY, refuse, or_else}
use Rattle.format.specs.Bytes.{field}
use Rattle.format.specs.Picture.{most_cells, dimensions_allowed}
use Rattle.format.specs.Kinds.{codec, kind_allowed, setting_allowed}
use Rattle.format.specs.File.{header_length, WholeHeader}
use Rattle.format.specs.Calls.{setting_number}
use Rattle.format.specs.Accepted.{setting_of, dimensions_of, length_field, second_at, words_at, end_at, counts_right, body_right, header_number, check_number}
use Rattle.format.specs.Opened.{view_of}
use Rattle.laws.proofs.Tools.{both_false}
use Rattle.laws.proofs.Limits.{small-dims}
use Rattle.laws.proofs.Calls.{setting-zero}
use Rattle.parts.specs.declared.PartBytes.{PartBytes}
use Rattle.parts.specs.Holds.{kind_of, first_bytes, second_bytes, Sized, HeaderView}
use Rattle.header.proofs.CellCount.{count_none, count-some}
use Rattle.checked.specs.Verdict.{places_right, body_number, Judged}

-- ---- a refusal, or what comes after

pub refuse_later : (n : ℕ) (t : Bool) (first later : ℕ) → refuse (suc n) t (or_else first later) ≡ or_else (refuse (suc n) t first) later
refuse_later n true first later = refl
refuse_later n false first later = refl

pub setting_later : (s : Setting) (first later : ℕ) → setting_number s (or_else first later) ≡ or_else (setting_number s first) later
unfolding setting_number
setting_later s first later =
    ap (refuse KIND (not (kind_allowed s))) (refuse_later 2 (not (setting_allowed s)) first later)
    ∙ refuse_later 1 (not (kind_allowed s)) (refuse SETTING (not (setting_allowed s)) first) later

pub first-refused : (n m later : ℕ) → n ≡ m → (n ≡ 0 → ⊥) → n ≡ or_else m later
first-refused zero m later e h = absurd (h refl)
first-refused (suc n) m later e h = rw (← e)

-- ---- the header's number by its setting, dimensions and counts

after-setting : List ℕ → ℕ
after-setting b = refuse EXTENT (not (dimensions_allowed (dimensions_of b))) (refuse COUNTS (not (counts_right b)) 0)

-- the setting that a view says
abbrev pub setting_in : View → Setting
setting_in v = record { kind = v.kind; width = v.width; step = v.step }

setting_same : (b : List ℕ) → setting_in (view_of b) ≡ setting_of b
unfolding view_of
setting_same b = refl

module _ (b : List ℕ) (v : View) (long : WholeHeader b) (e : v ≡ view_of b) where
  number-parts : header_number b ≡ or_else (setting_number (setting_in v) 0) (after-setting b)
  unfolding header_number setting_number after-setting
  number-parts = rw (le-ltb (length b) header_length long, e, setting_same b) (setting_later (setting_of b) 0 (after-setting b))

  pub number-setting : (n : ℕ) → n ≡ setting_number (setting_in v) 0 → (n ≡ 0 → ⊥) → n ≡ header_number b
  number-setting n p h = first-refused n _ (after-setting b) p h ∙ sym number-parts

  module _ (s : setting_number (setting_in v) 0 ≡ 0) where
    pub view-allowed : (kind_of v).allowed ≡ true
    unfolding setting_allowed codec
    view-allowed = (setting-zero (setting_in v) 0 s).0

    later : header_number b ≡ after-setting b
    later = number-parts ∙ ap (λ (x : ℕ). or_else x (after-setting b)) s

    pub number_extent : v.cells ≡ 0 → EXTENT ≡ header_number b
    unfolding view_of after-setting
    number_extent z = rw later (rw (count_none (dimensions_of b) (rw e at z)))

    pub some-cells : (v.cells ≡ 0 → ⊥) → dimensions_allowed (dimensions_of b) ≡ true
    unfolding view_of
    some-cells h = count-some (dimensions_of b) (λ z. h (rw e z))

    pub number_counts : (v.cells ≡ 0 → ⊥) → header_number b ≡ refuse COUNTS (not (counts_right b)) 0
    unfolding after-setting
    number_counts h = rw (later, some-cells h)

-- ---- the counts, of a view that has been read

-- the code's five tests, one after the other; l is the length field as read
pub places_tests : (b : List ℕ) (v : View) (n m l : ℕ) → l ≡ field 4 48 b
    → (((eqb v.start header_length && eqb v.second (header_length + n)) && eqb v.place (header_length + n + m)) && eqb l (header_length + n + m + 4 * v.words))
    && eqb (length b) (header_length + n + m + 4 * v.words)
    ≡ places_right b v n m
unfolding places_right length_field
places_tests b v n m l e =
    rw e
    (five (eqb v.start header_length) (eqb v.second (header_length + n)) (eqb v.place (header_length + n + m)) (eqb (field 4 48 b) (header_length + n + m + 4 * v.words))
    (eqb (length b) (header_length + n + m + 4 * v.words)))
  where
    five : (p q r s t : Bool) → (((p && q) && r) && s) && t ≡ both p (both q (both r (both s t)))
    five false q r s t = refl
    five true false r s t = refl
    five true true false s t = refl
    five true true true false t = refl
    five true true true true t = refl

module _ (b : List ℕ) (v : View) (e : v ≡ view_of b) (d : dimensions_allowed (dimensions_of b) ≡ true) where
  pub cells-most : v.cells ≤ most_cells
  unfolding view_of
  cells-most = rw (e, d) (small-dims (dimensions_of b) d).most

  counts_split : counts_right b
      ≡ both (leb v.words v.cells)
      (both ((kind_of v).counts v.cells v.words v.firsts v.seconds) (places_right b v (first_bytes (kind_of v) v) (second_bytes (kind_of v) v)))
  unfolding view_of counts_right places_right second_at words_at end_at codec
  counts_split = rw (e, d)

  pub words-above : v.cells < v.words → false ≡ counts_right b
  words-above h = rw (counts_split, lt-leb v.words v.cells h)

  pub counts_other : Sized (kind_of v) v None → false ≡ counts_right b
  counts_other z = rw (counts_split, z) (sym (both_false (leb v.words v.cells)))

  pub counts_places : v.words ≤ v.cells → (p : PartBytes) → Sized (kind_of v) v (Some p) → places_right b v p.first p.second ≡ counts_right b
  counts_places l p z = rw (counts_split, le-leb v.words v.cells l, z.right, z.first, z.second)

-- ---- what the check hands back

module _ (b : List ℕ) where
  pub judged_short : (WholeHeader b → ⊥) → Judged b (Err rf.Short)
  unfolding check_number header_number
  judged_short h = record { number = rw (lt-ltb (length b) header_length (omega arith)); view = tt }

  judged_refused : (q : Result View Refusal) → signal_of q ≡ check_number b → (signal_of q ≡ 0 → ⊥) → Judged b q
  judged_refused (Ok x) e h = absurd (h refl)
  judged_refused (Err r) e h = record { number = e; view = tt }

  pub judged_header : (q : Result View Refusal) → signal_of q ≡ header_number b → (signal_of q ≡ 0 → ⊥) → Judged b q
  unfolding check_number
  judged_header q p h = judged_refused q (first-refused (signal_of q) (header_number b) (refuse BODY (not (body_right b)) 0) p h) h

  module _ (v : View) (k : HeaderView b v) where
    body_check : check_number b ≡ body_number b
    unfolding check_number body_number
    body_check = rw k.header

    pub judged_body : (q : Result View Refusal) → signal_of q ≡ body_number b → (signal_of q ≡ 0 → ⊥) → Judged b q
    judged_body q p h = judged_refused q (p ∙ sym body_check) h

    pub judged_right : body_number b ≡ 0 → Judged b (Ok v)
    judged_right z = let e = body_check ∙ z in record { number = sym e; view = record { accepted = e; view = k.view } }
