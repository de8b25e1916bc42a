-- The two parts of a file as a kind's code is told of them, by a view: where they stand, and the stored positions that they hold. Assumes nothing.
use Rattle.std.specs.Prelude.{◌≡◌, ℕ, suc, ◌+◌, ◌^◌, ◌<◌, ◌≤◌, Bool, true, false, not, List, [], ◌∷◌, length, take, drop, ◌==◌, nat_le, nat_lt, Option, MatchOption}
use Rattle.format.specs.declared.View.{View}
use Rattle.format.specs.Tools.{both, same}
use Rattle.format.specs.Picture.{most_cells}
use Rattle.format.specs.Codec.{Codec}
use Rattle.format.specs.Kinds.{codec_of}
use Rattle.format.specs.Accepted.{header_number, check_number}
use Rattle.format.specs.Opened.{view_of}
use Rattle.laws.proofs.Stored.{Rising}
use Rattle.parts.specs.declared.PartBytes.{PartBytes}

-- the bytes of each part, by the view's counts
abbrev pub first_bytes : Codec → View → ℕ
first_bytes k v = k.first_bytes v.firsts v.seconds

abbrev pub second_bytes : Codec → View → ℕ
second_bytes k v = k.second_bytes v.firsts v.seconds

-- width, step and counts are the kind's, and the two parts lie in the bytes, the second behind the first
pub record Counted (k : Codec) (b : List ℕ) (v : View) : Type 0 where
  pub allowed : k.allowed ≡ true
  pub counts : k.counts v.cells v.words v.firsts v.seconds ≡ true
  pub cells-most : v.cells ≤ most_cells
  pub words-most : v.words ≤ v.cells
  pub second : v.second ≡ v.start + first_bytes k v
  pub inside : v.second + second_bytes k v ≤ length b

-- the counts are the kind's, and these are the bytes of each part
pub record PartSizes (k : Codec) (v : View) (p : PartBytes) : Type 0 where
  pub right : k.counts v.cells v.words v.firsts v.seconds ≡ true
  pub first : p.first ≡ first_bytes k v
  pub second : p.second ≡ second_bytes k v
  pub first-most : p.first < 2 ^ 40
  pub second-most : p.second < 2 ^ 40

-- what is measured of a header's counts: the bytes of each part, where the counts are the kind's, and nothing where they are not
abbrev pub Sized : Codec → View → Option PartBytes → Type 0
Sized k v r = MatchOption r (k.counts v.cells v.words v.firsts v.seconds ≡ false) (λ p. PartSizes k v p)

-- the stored positions that the parts say
unfoldable pub said : Codec → List ℕ → View → List ℕ
said k b v = k.positions v.firsts (drop v.start b) v.seconds (drop v.second b)

-- each number is above those before it, the first is at least `least`, and all are below `bound`
unfoldable pub rises : ℕ → ℕ → List ℕ → Bool
rises least bound [] = true
rises least bound (l ∷ ls) = both (nat_le least l) (both (nat_lt l bound) (rises (suc l) bound ls))

-- the positions ls rise below cells, are as many as the words, and have these very parts
unfoldable pub parts_of : Codec → List ℕ → View → List ℕ → Bool
parts_of k b v ls =
    both (rises 0 v.cells ls)
    (both (length ls == v.words)
    (both (not (k.unfit ls))
    (both ((k.parts v.cells ls).first_count == v.firsts)
    (both ((k.parts v.cells ls).second_count == v.seconds)
    (both (same (k.parts v.cells ls).first (take (first_bytes k v) (drop v.start b)))
    (same (k.parts v.cells ls).second (take (second_bytes k v) (drop v.second b))))))))

-- the parts are those of the stored positions that they say: what a kind's check answers
unfoldable pub parts_right : Codec → List ℕ → View → Bool
parts_right k b v = parts_of k b v (said k b v)

-- the parts hold the stored positions ls
pub record Holds (k : Codec) (b : List ℕ) (v : View) (ls : List ℕ) : Type 0 where
  pub counted : Counted k b v
  pub back : said k b v ≡ ls
  pub rising : Rising 0 v.cells ls
  pub size : length ls ≡ v.words
  pub fits : k.unfit ls ≡ false
  pub first_count_lem : (k.parts v.cells ls).first_count ≡ v.firsts
  pub second-count : (k.parts v.cells ls).second_count ≡ v.seconds
  pub first : (k.parts v.cells ls).first ≡ take (first_bytes k v) (drop v.start b)
  pub second : (k.parts v.cells ls).second ≡ take (second_bytes k v) (drop v.second b)

-- ---- a file by its view

-- the kind that a view names
abbrev pub kind_of : View → Codec
kind_of v = codec_of v.kind v.width v.step

-- v is the view of the accepted file b
pub record ViewOf (b : List ℕ) (v : View) : Type 0 where
  pub accepted : check_number b ≡ 0
  pub view : v ≡ view_of b

-- none of 1 to 5 applies to b, and v is its view
pub record HeaderView (b : List ℕ) (v : View) : Type 0 where
  pub header : header_number b ≡ 0
  pub view : v ≡ view_of b
