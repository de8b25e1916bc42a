-- The header's fields one by one. Assumes nothing.
use Prim.Native.Nat.{ℕ, suc, ◌+◌}
use mathlib.Core.Path.{◌≡◌, refl}
use mathlib.Core.List.{List, [], ◌∷◌}
use lib.ListN.{drop}
use lib.Seq.{drop-drop}
use Rattle.format.specs.declared.Setting.{Setting}
use Rattle.format.specs.declared.Dimensions.{Dimensions}
use Rattle.format.specs.Bytes.{field, numbers_of}
use Rattle.format.specs.Tools.{pick}
use Rattle.format.specs.Picture.{cells, dimensions_allowed}
use Rattle.format.specs.Accepted.{setting_of, dimensions_of, empty_of, words_count, first_count, second_count, first_offset, second_offset, words_offset}
use Rattle.format.specs.Opened.{view_of}
use Rattle.header.specs.declared.view.Counts.{Counts}
use Rattle.header.specs.Fields.{counts_in}

-- the numbers of four bytes from an offset on
numbers_cons : (n at : ℕ) (b : List ℕ) → numbers_of 4 (suc n) (drop at b) ≡ field 4 at b ∷ numbers_of 4 n (drop (at + 4) b)
unfolding numbers_of field
numbers_cons n at b = rw (drop-drop 4 at b)

four-numbers : (b : List ℕ) → numbers_of 4 4 (drop 4 b) ≡ field 4 4 b ∷ field 4 8 b ∷ field 4 12 b ∷ field 4 16 b ∷ []
four-numbers b = rw (numbers_cons 3 4 b, numbers_cons 2 8 b, numbers_cons 1 12 b, numbers_cons 0 16 b) (unfold numbers_of in refl)

module _ (b : List ℕ) where
  pub setting_fields : {k w l : ℕ} → k ≡ field 1 0 b → w ≡ field 1 2 b → l ≡ field 1 3 b → record { kind = k; width = w; step = l } ≡ setting_of b
  unfolding setting_of
  setting_fields p q r = cc

  pub dimension_fields : {c e0 e1 e2 e3 : ℕ} → c ≡ field 1 1 b → e0 ≡ field 4 4 b → e1 ≡ field 4 8 b → e2 ≡ field 4 12 b → e3 ≡ field 4 16 b
      → record { count = c; extents = e0 ∷ e1 ∷ e2 ∷ e3 ∷ [] } ≡ dimensions_of b
  unfolding dimensions_of
  dimension_fields p q r s t = cc (four-numbers b)

  pub count_fields : {n c1 c2 o1 o2 o3 : ℕ} → n ≡ field 4 24 b → c1 ≡ field 4 28 b → c2 ≡ field 4 32 b → o1 ≡ field 4 36 b → o2 ≡ field 4 40 b → o3 ≡ field 4 44 b
      → record { words = n; firsts = c1; seconds = c2; start = o1; second = o2; place = o3 } ≡ counts_in b
  unfolding counts_in words_count first_count second_count first_offset second_offset words_offset
  count_fields p q r s t u = cc

  pub view_fields : {s : Setting} {d : Dimensions} {n : Counts} {k e : ℕ} → s ≡ setting_of b → d ≡ dimensions_of b
      → k ≡ pick (dimensions_allowed d) (cells d) 0 → e ≡ field 4 20 b → n ≡ counts_in b
      → record {
        kind = s.kind;
        width = s.width;
        step = s.step;
        cells = k;
        empty = e;
        words = n.words;
        firsts = n.firsts;
        seconds = n.seconds;
        start = n.start;
        second = n.second;
        place = n.place;
      }
      ≡ view_of b
  unfolding view_of empty_of counts_in
  view_fields p q r s t = rw (p, r, q, s, t)
