-- Text put piece by piece. Assumes nothing.
use Prim.Native.Nat.{ℕ, ◌+◌, ◌-◌, ◌/◌, ◌%◌, ◌^◌, ◌≤◌, ◌<◌}
use mathlib.Core.Path.{◌≡◌, refl, sym, ap, ◌∙◌, subst}
use mathlib.Core.List.{List, [], ◌∷◌, ◌++◌, append_assoc}
use native.Mathlib.Nat.{zero-add}
use native.Mathlib.Omega.{arith}
use lib.ListN.{length, set, take, drop, length-append}
use lib.Seq.{take_at}
use Rattle.format.specs.Lister.{decimal, line, refused_line}
use Rattle.stores.specs.Put.{put}
use Rattle.stores.proofs.Laws.{length-put, put-append, put_comm, put_front}
use Rattle.text.specs.Text.{Room, TextPut}
use Rattle.text.proofs.Decimal.{decimal-one, decimal_more, length-decimal_more}

pub text_size : (xs d e : List ℕ) (at m : ℕ) → TextPut xs d at m e → length e ≡ length d
text_size xs d e at m h = ap length h.bytes ∙ length-put d at xs

-- a text, then another
pub text_then : (xs ys d e f : List ℕ) (at m r : ℕ) → TextPut xs d at m e → TextPut ys e m r f → TextPut (xs ++ ys) d at r f
text_then xs ys d e f at m r h k =
    let p = h.place in
    let q = k.place in
    record { place = omega (arith, length-append xs ys); bytes = k.bytes ∙ rw (h.bytes, p) (sym (put-append d at xs ys)) }

-- the room of the first, and, the first put, that of the other
pub room-first : (xs ys d : List ℕ) (at : ℕ) → Room (xs ++ ys) d at → Room xs d at
room-first xs ys d at h = omega (arith, length-append xs ys)

pub room-then : (xs ys d e : List ℕ) (at m : ℕ) → Room (xs ++ ys) d at → TextPut xs d at m e → Room ys e m
room-then xs ys d e at m h t = let p = t.place in omega (arith, length-append xs ys, text_size xs d e at m t)

-- a text put at the beginning of a buffer that has room: it is the front
pub text_inside : (xs d e : List ℕ) (m : ℕ) → length xs ≤ length d → TextPut xs d 0 m e → m ≤ length e
text_inside xs d e m h t = let p = t.place in omega (arith, text_size xs d e 0 m t)

pub text_front : (xs d e : List ℕ) (m : ℕ) → length xs ≤ length d → TextPut xs d 0 m e → take m e ≡ xs
text_front xs d e m h t = rw (t.bytes, put_front d xs h, t.place, zero-add) (take_at xs (drop (length xs) d) (length xs) refl)

-- one byte
pub byte_put : (d : List ℕ) (at x : ℕ) → set d at x ≡ put d at (x ∷ [])
unfolding put
byte_put d at x = refl

-- ---- a number from its last digit on

pub decimal_turn : (d : List ℕ) (at n place : ℕ) → n < 10 ^ 10 → 10 ≤ n → place ≡ at + length (decimal n)
    → put (set d (place - 1) (48 + n % 10)) at (decimal (n / 10)) ≡ put d at (decimal n)
decimal_turn d at n place h k e =
    let m : place - 1 ≡ at + length (decimal (n / 10)) = omega (arith, length-decimal_more n h k) in
    rw (m, decimal_more n h k, put-append d at (decimal (n / 10)) ((48 + n % 10) ∷ []), byte_put d (at + length (decimal (n / 10))) (48 + n % 10))
    (sym (put_comm d at (decimal (n / 10)) (at + length (decimal (n / 10))) ((48 + n % 10) ∷ []) (omega arith)))

pub decimal-end : (d : List ℕ) (at n : ℕ) → n < 10 → set d at (48 + n) ≡ put d at (decimal n)
decimal-end d at n h = byte_put d at (48 + n) ∙ ap (put d at) (sym (decimal-one n h))

-- ---- a number and a byte

pub number_put : (n x : ℕ) (d e : List ℕ) (at m : ℕ) → TextPut (decimal n) d at m e → TextPut (decimal n ++ (x ∷ [])) d at (m + 1) (set e m x)
number_put n x d e at m t =
    text_then (decimal n) (x ∷ []) d e (set e m x) at m (m + 1) t (record { place = refl; bytes = byte_put e m x })

-- ---- lines

line_of : (a b c : ℕ) → (decimal a ++ (32 ∷ [])) ++ (decimal b ++ (32 ∷ [])) ++ (decimal c ++ (10 ∷ [])) ≡ line a b c
unfolding line
line_of a b c = simp append_assoc

pub length-line : (a b c : ℕ) → length (line a b c) ≡ length (decimal a) + length (decimal b) + length (decimal c) + 3
length-line a b c = rw (← line_of a b c) (simp length-append (omega arith))

-- the numbers of a line, one after the other
module _ (a b c : ℕ) (d : List ℕ) (at : ℕ) where
  abbrev first : List ℕ
  first = decimal a ++ (32 ∷ [])

  abbrev second : List ℕ
  second = decimal b ++ (32 ∷ [])

  abbrev third : List ℕ
  third = decimal c ++ (10 ∷ [])

  numbers-room : Room (line a b c) d at → Room (first ++ second ++ third) d at
  numbers-room h = rw (line_of a b c) h

  pub first-room : Room (line a b c) d at → Room first d at
  first-room h = room-first first second d at (room-first (first ++ second) third d at (numbers-room h))

  pub second-room : (e : List ℕ) (m : ℕ) → Room (line a b c) d at → TextPut first d at m e → Room second e m
  second-room e m h = room-then first second d e at m (room-first (first ++ second) third d at (numbers-room h))

  module _ (e f : List ℕ) (m n : ℕ) (x : TextPut first d at m e) (y : TextPut second e m n f) where
    pub third_room : Room (line a b c) d at → Room third f n
    third_room h = room-then (first ++ second) third d f at n (numbers-room h) (text_then first second d e f at m n x y)

    pub line-put : (g : List ℕ) (r : ℕ) → TextPut third f n r g → TextPut (line a b c) d at r g
    line-put g r z =
        subst (λ (l : List ℕ). TextPut l d at r g) (line_of a b c)
        (text_then (first ++ second) third d f g at n r (text_then first second d e f at m n x y) z)

-- the line of a refused file
abbrev refused : List ℕ
refused = 114 ∷ 101 ∷ 102 ∷ 117 ∷ 115 ∷ 101 ∷ 100 ∷ 32 ∷ []

refused_of : (n : ℕ) → refused ++ (decimal n ++ (10 ∷ [])) ≡ refused_line n
unfolding refused_line
refused_of n = sym (append_assoc refused (decimal n) (10 ∷ []))

pub length-refused : (n : ℕ) → length (refused_line n) ≡ 9 + length (decimal n)
length-refused n = rw (← refused_of n) (simp length-append (omega arith))

module _ (n : ℕ) (d e : List ℕ) (m : ℕ) (x : TextPut refused d 0 m e) where
  pub number-room : Room (refused_line n) d 0 → Room (decimal n ++ (10 ∷ [])) e m
  number-room h = room-then refused (decimal n ++ (10 ∷ [])) d e 0 m (subst (λ (l : List ℕ). Room l d 0) (sym (refused_of n)) h) x

  pub refused-put : (f : List ℕ) (r : ℕ) → TextPut (decimal n ++ (10 ∷ [])) e m r f → TextPut (refused_line n) d 0 r f
  refused-put f r y =
      subst (λ (l : List ℕ). TextPut l d 0 r f) (refused_of n) (text_then refused (decimal n ++ (10 ∷ [])) d e f 0 m r x y)
