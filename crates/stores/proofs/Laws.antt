-- Laws of `put`. Assumes nothing.
use Prim.Native.Nat.{ℕ, suc, ◌+◌, ◌/◌, ◌%◌, ◌≤◌, ◌<◌}
use mathlib.Core.Path.{◌≡◌, refl, sym, ◌∙◌}
use mathlib.Core.List.{List, [], ◌∷◌, ◌++◌, append_assoc}
use native.Mathlib.Nat.{suc-add, add-suc, add-zero, zero-add}
use native.Mathlib.Numerals.{add-one}
use native.Mathlib.Omega.{arith}
use lib.ListN.{length, get_or, set, take, drop, length-set, length-append, drop_of_length-le}
use lib.Seq.{set_comm, drop-cons, set_out, sets, sets-eq}
use Rattle.format.specs.Bytes.{bytes, bytes_of}
use Rattle.laws.proofs.Bytes.{length-bytes}
use Rattle.stores.specs.Put.{put, pair}

-- ---- put

pub length-put : (d : List ℕ) (at : ℕ) (bs : List ℕ) → length (put d at bs) ≡ length d
unfolding put
length-put d at [] = refl
length-put d at (b ∷ bs) = length-put (set d at b) (suc at) bs ∙ length-set d at b

pub put_nil : (d : List ℕ) (at : ℕ) → put d at [] ≡ d
unfolding put
put_nil d at = refl

pub put-append : (d : List ℕ) (at : ℕ) (xs ys : List ℕ) → put d at (xs ++ ys) ≡ put (put d at xs) (at + length xs) ys
unfolding put
put-append d at [] ys = rw add-zero
put-append d at (x ∷ xs) ys = put-append (set d at x) (suc at) xs ys ∙ rw (suc-add, add-suc)

pub put-past : (d : List ℕ) (at : ℕ) (bs : List ℕ) → length d ≤ at → put d at bs ≡ d
unfolding put
put-past d at [] h = refl
put-past d at (b ∷ bs) h = rw (set_out d at b h) (put-past d (suc at) bs (omega arith))

pub put_sets : (d : List ℕ) (at : ℕ) (bs : List ℕ) → put d at bs ≡ sets d at bs
unfolding put
put_sets d at [] = refl
put_sets d at (b ∷ bs) = put_sets (set d at b) (suc at) bs

pub put-fits : (d : List ℕ) (at : ℕ) (bs : List ℕ) → at + length bs ≤ length d → put d at bs ≡ take at d ++ bs ++ drop (at + length bs) d
put-fits d at bs h = put_sets d at bs ∙ sets-eq bs d at h

-- ---- a number byte by byte

pub put_1 : (d : List ℕ) (at x : ℕ) → set d at (x % 256) ≡ put d at (bytes 1 x)
unfolding put bytes
put_1 d at x = refl

pub put_2 : (d : List ℕ) (at x : ℕ) → set (set d at (x % 256)) (at + 1) (x / 256 % 256) ≡ put d at (bytes 2 x)
unfolding put bytes
put_2 d at x = rw add-one

pub put_4 : (d : List ℕ) (at x : ℕ)
    → set (set (set (set d at (x % 256)) (at + 1) (x / 256 % 256)) (at + 2) (x / 65536 % 256)) (at + 3) (x / 16777216 % 256) ≡ put d at (bytes 4 x)
unfolding put bytes
put_4 d at x =
    let e1 : at + 1 ≡ suc at = omega arith in
    let e2 : at + 2 ≡ suc (suc at) = omega arith in
    let e3 : at + 3 ≡ suc (suc (suc at)) = omega arith in
    let f2 : x / 65536 ≡ x / 256 / 256 = omega arith in
    let f3 : x / 16777216 ≡ x / 256 / 256 / 256 = omega arith in
    rw (e1, e2, e3, f2, f3)

-- ---- numbers in a row

-- the first number, then the rest
pub put-numbers_cons : (w : ℕ) (d : List ℕ) (at x : ℕ) (xs : List ℕ) → put d at (bytes_of w (x ∷ xs)) ≡ put (put d at (bytes w x)) (at + w) (bytes_of w xs)
unfolding bytes_of
put-numbers_cons w d at x xs = rw (put-append, length-bytes)

pub put-numbers_nil : (w : ℕ) (d : List ℕ) (at : ℕ) → put d at (bytes_of w []) ≡ d
unfolding bytes_of put
put-numbers_nil w d at = refl

-- one turn of a loop that stores the numbers of a list
pub put-numbers-drop : (w : ℕ) (d : List ℕ) (at : ℕ) (xs : List ℕ) (i : ℕ) → i < length xs →
    put d at (bytes_of w (drop i xs)) ≡ put (put d at (bytes w (get_or xs i 0))) (at + w) (bytes_of w (drop (i + 1) xs))
put-numbers-drop w d at xs i h = rw (drop-cons xs i 0 h, put-numbers_cons, add-one)

pub put-numbers-end : (w : ℕ) (d : List ℕ) (at : ℕ) (xs : List ℕ) (i : ℕ) → length xs ≤ i → put d at (bytes_of w (drop i xs)) ≡ d
put-numbers-end w d at xs i h = rw (drop_of_length-le xs {i = i} h, put-numbers_nil)

-- bytes put at the start, with room for all of them
pub put_front : (d bs : List ℕ) → length bs ≤ length d → put d 0 bs ≡ bs ++ drop (length bs) d
put_front d bs h = put-fits d 0 bs (omega arith) ∙ rw zero-add

-- ---- stores apart from each other

put-set : (d : List ℕ) (at i b : ℕ) (xs : List ℕ) → i < at → put (set d i b) at xs ≡ set (put d at xs) i b
unfolding put
put-set d at i b [] h = refl
put-set d at i b (x ∷ xs) h = rw (set_comm d i at b x (λ e. omega arith)) (put-set (set d at x) (suc at) i b xs (omega arith))

-- bytes that end where others begin, or before: in either order
pub put_comm : (d : List ℕ) (a : ℕ) (xs : List ℕ) (b : ℕ) (ys : List ℕ) → a + length xs ≤ b → put (put d a xs) b ys ≡ put (put d b ys) a xs
unfolding put
put_comm d a [] b ys h = refl
put_comm d a (x ∷ xs) b ys h =
    put_comm (set d a x) (suc a) xs b ys (omega arith) ∙ rw (put-set d b a x ys (omega arith))

-- three parts, one after the other, of which each grows at its own place: the next piece of each first, then the rest
pub put3_step : (d : List ℕ) (f : ℕ) (x xs : List ℕ) (s : ℕ) (y ys : List ℕ) (v : ℕ) (z zs : List ℕ)
    → f + length (x ++ xs) ≤ s → s + length (y ++ ys) ≤ v
    → put (put (put d f (x ++ xs)) s (y ++ ys)) v (z ++ zs)
    ≡ put (put (put (put (put (put d f x) s y) v z) (f + length x) xs) (s + length y) ys) (v + length z) zs
put3_step d f x xs s y ys v z zs h k =
    let h' : f + length x + length xs ≤ s = omega (arith, h, length-append x xs) in
    let k' : s + length y + length ys ≤ v = omega (arith, k, length-append y ys) in
    let a : List ℕ = put d f x in
    let b : List ℕ = put a s y in
    simp put-append
    (rw (
      put_comm a (f + length x) xs s y h',
      put_comm (put b (f + length x) xs) (s + length y) ys v z k',
      put_comm b (f + length x) xs v z (omega arith),
    ))

-- ---- pairs, and entries in a row

pub length-pair : (a v : ℕ) → length (pair a v) ≡ 8
unfolding pair
length-pair a v = simp (length-append, length-bytes)

pub pair_cons : (a v : ℕ) (ns : List ℕ) → bytes_of 4 (a ∷ v ∷ ns) ≡ pair a v ++ bytes_of 4 ns
unfolding pair bytes_of
pair_cons a v ns = sym (append_assoc (bytes 4 a) (bytes 4 v) (bytes_of 4 ns))

pub put-pair : (d : List ℕ) (at a v : ℕ) → put (put d at (bytes 4 a)) (at + 4) (bytes 4 v) ≡ put d at (pair a v)
unfolding pair
put-pair d at a v = sym (put-append d at (bytes 4 a) (bytes 4 v) ∙ rw (length-bytes 4 a))
