-- Laws of numbers as bytes. Assumes nothing.
use Prim.Native.Nat.{ℕ, zero, suc, ◌*◌, ◌/◌, ◌^◌, ◌<◌}
use mathlib.Core.Path.{◌≡◌, refl, sym, ap}
use mathlib.Core.List.{List, [], ◌∷◌, ◌++◌, append_assoc}
use native.Mathlib.Nat.{one-le-pow, div-add-mod, div-lt_iff_lt-mul, zero-lt-suc, pow-suc, pow-zero, mul-suc, mod-lt}
use native.Mathlib.Omega.{arith}
use lib.ListN.{length, take, drop, length-append}
use lib.Seq.{take_at, drop_at}
use Rattle.format.specs.Tools.{Below}
use Rattle.format.specs.Bytes.{bytes, number, bytes_of, numbers_of}

pub length-bytes : (w x : ℕ) → length (bytes w x) ≡ w
unfolding bytes
length-bytes zero x = refl
length-bytes (suc w) x = ap suc (length-bytes w (x / 256))

-- the round trip of a number
pub number-bytes : (w x : ℕ) → x < 256 ^ w → number (bytes w x) ≡ x
unfolding bytes number
number-bytes zero x h = let e = pow-zero 256 in omega arith
number-bytes (suc w) x h =
    let small : x / 256 < 256 ^ w = (div-lt_iff_lt-mul (zero-lt-suc 255)).1 (rw pow-suc at h) in
    rw (number-bytes w (x / 256) small) (omega (arith, div-add-mod x 256))

pub length-bytes_of : (w : ℕ) (xs : List ℕ) → length (bytes_of w xs) ≡ w * length xs
unfolding bytes_of
length-bytes_of w [] = sym (native.Mathlib.Nat.mul-zero w)
length-bytes_of w (x ∷ xs) = simp (length-append, length-bytes, mul-suc, length-bytes_of w xs) (omega arith)

-- the round trip of a list of numbers
pub numbers_of-bytes_of : (w : ℕ) (xs more : List ℕ) → Below (256 ^ w) xs → numbers_of w (length xs) (bytes_of w xs ++ more) ≡ xs
unfolding bytes_of numbers_of
numbers_of-bytes_of w [] more h = refl
numbers_of-bytes_of w (x ∷ xs) more h =
    rw (
      append_assoc,
      take_at (bytes w x) (bytes_of w xs ++ more) w (length-bytes w x),
      drop_at (bytes w x) (bytes_of w xs ++ more) w (length-bytes w x),
      number-bytes w x h.0,
      numbers_of-bytes_of w xs more h.1,
    )

-- ---- bytes are below 256, and w of them make a number below 256^w

pub below-append : (m : ℕ) (xs ys : List ℕ) → Below m xs → Below m ys → Below m (xs ++ ys)
below-append m [] ys h k = k
below-append m (x ∷ xs) ys h k = (h.0, below-append m xs ys h.1 k)

pub below-drop : (m n : ℕ) (xs : List ℕ) → Below m xs → Below m (drop n xs)
below-drop m zero xs h = h
below-drop m (suc n) [] h = tt
below-drop m (suc n) (x ∷ xs) h = below-drop m n xs h.1

below-bytes : (w x : ℕ) → Below 256 (bytes w x)
unfolding bytes
below-bytes zero x = tt
below-bytes (suc w) x = (mod-lt x (zero-lt-suc 255), below-bytes w (x / 256))

pub below-bytes_of : (w : ℕ) (xs : List ℕ) → Below 256 (bytes_of w xs)
unfolding bytes_of
below-bytes_of w [] = tt
below-bytes_of w (x ∷ xs) = below-append 256 (bytes w x) (bytes_of w xs) (below-bytes w x) (below-bytes_of w xs)

pub number_small : (w : ℕ) (xs : List ℕ) → Below 256 xs → number (take w xs) < 256 ^ w
unfolding number
number_small zero xs h = omega (arith, pow-zero 256)
number_small (suc w) [] h = omega (arith, one-le-pow (suc w) 256 (zero-lt-suc 255))
number_small (suc w) (x ∷ xs) h = let i = number_small w xs h.1 in let x0 = h.0 in omega (arith, pow-suc 256 w)

pub below-numbers_of : (w n : ℕ) (b : List ℕ) → Below 256 b → Below (256 ^ w) (numbers_of w n b)
unfolding numbers_of
below-numbers_of w zero b h = tt
below-numbers_of w (suc n) b h = (number_small w b h, below-numbers_of w n (drop w b) (below-drop 256 w b h))

pub bytes-append : (w : ℕ) (xs ys : List ℕ) → bytes_of w (xs ++ ys) ≡ bytes_of w xs ++ bytes_of w ys
unfolding bytes_of
bytes-append w [] ys = refl
bytes-append w (x ∷ xs) ys = rw (bytes-append w xs ys) (sym (append_assoc (bytes w x) (bytes_of w xs) (bytes_of w ys)))
