-- The header put in three pieces, and its length. Assumes nothing.
use Prim.Native.Nat.{ℕ, ◌+◌, ◌*◌, ◌<◌}
use mathlib.Core.Path.{◌≡◌, sym, ◌∙◌}
use mathlib.Core.List.{List, [], ◌∷◌, ◌++◌}
use native.Mathlib.Omega.{arith}
use lib.ListN.{length, drop, get_or, length-append}
use Rattle.format.specs.declared.Dimensions.{Dimensions}
use Rattle.format.specs.declared.Setting.{Setting}
use Rattle.format.specs.Bytes.{bytes, bytes_of}
use Rattle.format.specs.Picture.{most_dimensions}
use Rattle.format.specs.File.{header_length, Counts, header}
use Rattle.laws.proofs.Bytes.{length-bytes_of}
use Rattle.stores.specs.Put.{put}
use Rattle.stores.proofs.Laws.{put-append, put-numbers_cons, put-numbers_nil, put-numbers-drop}

-- four numbers of one byte, one by one
pub put_four : (b0 : List ℕ) (w x y z : ℕ) {b1 b2 b3 b4 : List ℕ}
    → b1 ≡ put b0 0 (bytes 1 w) → b2 ≡ put b1 1 (bytes 1 x) → b3 ≡ put b2 2 (bytes 1 y) → b4 ≡ put b3 3 (bytes 1 z)
    → b4 ≡ put b0 0 (bytes_of 1 (w ∷ x ∷ y ∷ z ∷ []))
put_four b0 w x y z e1 e2 e3 e4 = e4 ∙ rw (e3, e2, e1, put-numbers_cons, put-numbers_cons, put-numbers_cons, put-numbers_cons, put-numbers_nil)

-- one turn of a loop along numbers of four bytes
pub numbers_turn : (d : List ℕ) (at : ℕ) (xs : List ℕ) (i : ℕ) → i < length xs
    → put (put d (at + 4 * i) (bytes 4 (get_or xs i 0))) (at + 4 * (i + 1)) (bytes_of 4 (drop (i + 1) xs)) ≡ put d (at + 4 * i) (bytes_of 4 (drop i xs))
numbers_turn d at xs i h =
    let e : at + 4 * (i + 1) ≡ at + 4 * i + 4 = omega arith in
    rw e (sym (put-numbers-drop 4 d (at + 4 * i) xs i h))

pub length-header : (s : Setting) (d : Dimensions) (E : ℕ) (n : Counts) → length d.extents ≡ most_dimensions → length (header s d E n) ≡ header_length
unfolding header
length-header s d E n h = simp (length-append, length-bytes_of, h)

-- what follows the extents: the empty word, the counts, the offsets and the length
abbrev pub fields : ℕ → Counts → List ℕ
fields E n =
    E
    ∷ n.words
    ∷ n.first_count
    ∷ n.second_count
    ∷ header_length
    ∷ (header_length + n.first_bytes)
    ∷ (header_length + n.first_bytes + n.second_bytes)
    ∷ (header_length + n.first_bytes + n.second_bytes + 4 * n.words)
    ∷ []

-- the header in three pieces
pub put_pieces : (s : Setting) (d : Dimensions) (E : ℕ) (n : Counts) (b0 : List ℕ) {b1 b2 b3 : List ℕ} → length d.extents ≡ most_dimensions
    → b1 ≡ put b0 0 (bytes_of 1 (s.kind ∷ d.count ∷ s.width ∷ s.step ∷ [])) → b2 ≡ put b1 4 (bytes_of 4 d.extents) → b3 ≡ put b2 20 (bytes_of 4 (fields E n))
    → b3 ≡ put b0 0 (header s d E n)
unfolding header
put_pieces s d E n b0 h e1 e2 e3 =
    let front : List ℕ = bytes_of 1 (s.kind ∷ d.count ∷ s.width ∷ s.step ∷ []) in
    let middle : List ℕ = bytes_of 4 d.extents in
    let l1 : 0 + length front ≡ 4 = omega (arith, length-bytes_of 1 (s.kind ∷ d.count ∷ s.width ∷ s.step ∷ [])) in
    let l2 : 0 + length (front ++ middle) ≡ 20 = omega (arith, length-append front middle, length-bytes_of 4 d.extents) in
    e3 ∙ rw (e2, e1) (sym (put-append b0 0 (front ++ middle) (bytes_of 4 (fields E n)) ∙ rw (l2, put-append b0 0 front middle, l1)))
