-- A batch of positions put out, turn by turn: the differences and jumps after the first. Assumes nothing.
use Rattle.std.proofs.Common.{◌≡◌, ℕ, zero, suc, ◌+◌, ◌-◌, ◌*◌, ◌<◌, ◌≤◌, List, [], ◌∷◌, length, get_or, drop, set, sym, refl, ap, ◌∙◌, mul-suc, add-one, arith, length-drop, drop-cons, set-set}
use Rattle.format.specs.Bytes.{bytes, bytes_of}
use Rattle.format.specs.Jumps.{difference, differences_from, jumps_of}
use Rattle.laws.proofs.Bytes.{length-bytes, length-bytes_of}
use Rattle.stores.specs.Put.{put}
use Rattle.stores.proofs.Laws.{put_comm, put-numbers_cons, put-numbers_nil}
use Rattle.parts.specs.Encoder.{if_zero}
use Rattle.difference_rows.specs.Later.{later_differences, later_jumps}

-- bytes put over others that begin at the same place and end where they end, or before
put-over : (d : List ℕ) (at : ℕ) (xs ys : List ℕ) → length xs ≤ length ys → put (put d at xs) at ys ≡ put d at ys
unfolding put
put-over d at [] ys h = refl
put-over d at (x ∷ xs) [] h = absurd (omega arith)
put-over d at (x ∷ xs) (y ∷ ys) h =
    rw (sym (put_comm (set d at x) at (y ∷ []) (suc at) xs (omega arith)), set-set d at x y)
    (put-over (set d at y) (suc at) xs ys (omega arith))

module _ (w : ℕ) (ls : List ℕ) (i : ℕ) where
  -- the positions from the one before index i on
  two-left : 1 ≤ i → i < length ls → drop (i - 1) ls ≡ get_or ls (i - 1) 0 ∷ get_or ls i 0 ∷ drop (i + 1) ls
  two-left h k =
      let e : suc (i - 1) ≡ i = omega arith in
      drop-cons ls (i - 1) 0 (omega arith) ∙ rw (e, drop-cons ls i 0 k, add-one i)

  from_next : 1 ≤ i → i < length ls → drop (i + 1 - 1) ls ≡ get_or ls i 0 ∷ drop (i + 1) ls
  from_next h k = let e : i + 1 - 1 ≡ i = omega arith in rw (e, drop-cons ls i 0 k, add-one i)

  one_left : length ls ≤ i → length (drop (i - 1) ls) ≤ 1
  one_left h = rw (length-drop (i - 1) ls) (omega arith)

  differences_turn : 1 ≤ i → i < length ls
      → later_differences w (drop (i - 1) ls) ≡ difference w (get_or ls (i - 1) 0) (get_or ls i 0) ∷ later_differences w (drop (i + 1 - 1) ls)
  unfolding later_differences differences_from
  differences_turn h k = rw (two-left h k, from_next h k)

  -- the next difference is put out
  pub put-difference : 1 ≤ i → i < length ls → (at : ℕ) (d : List ℕ) {x : ℕ} → x ≡ difference w (get_or ls (i - 1) 0) (get_or ls i 0)
      → {o : List ℕ} → o ≡ put d (at + w * i) (bytes w x)
      → put o (at + w * (i + 1)) (bytes_of w (later_differences w (drop (i + 1 - 1) ls))) ≡ put d (at + w * i) (bytes_of w (later_differences w (drop (i - 1) ls)))
  put-difference h k at d {x} e {o} f =
      let n : at + w * (i + 1) ≡ at + w * i + w = rw (add-one, mul-suc) (omega arith) in
      rw (f, e, n, differences_turn h k)
      (sym (put-numbers_cons w d (at + w * i) (difference w (get_or ls (i - 1) 0) (get_or ls i 0)) (later_differences w (drop (i + 1 - 1) ls))))

  short-differences : (xs : List ℕ) → length xs ≤ 1 → later_differences w xs ≡ []
  unfolding later_differences differences_from
  short-differences [] h = refl
  short-differences (p ∷ []) h = refl
  short-differences (p ∷ q ∷ xs) h = absurd (omega arith)

  pub differences-put : length ls ≤ i → (at : ℕ) (d : List ℕ) → put d at (bytes_of w (later_differences w (drop (i - 1) ls))) ≡ d
  differences-put h at d = rw (short-differences (drop (i - 1) ls) (one_left h)) (put-numbers_nil w d at)

  -- a jump is a position after another
  two_of_jump : (xs : List ℕ) → 1 ≤ length (later_jumps w xs) → 2 ≤ length xs
  unfolding later_jumps differences_from jumps_of
  two_of_jump [] h = absurd (omega arith)
  two_of_jump (p ∷ []) h = absurd (omega arith)
  two_of_jump (p ∷ q ∷ xs) h = omega arith

  -- where a jump is left, a position is left
  pub jump_left : 1 ≤ length (later_jumps w (drop (i - 1) ls)) → i < length ls
  jump_left h =
      let m = two_of_jump (drop (i - 1) ls) h in
      let n = length-drop (i - 1) ls in
      omega arith

  jump_or_none : (d p : ℕ) (ds xs : List ℕ) → jumps_of (d ∷ ds) (p ∷ xs) ≡ if_zero d (p ∷ jumps_of ds xs) (jumps_of ds xs)
  unfolding jumps_of
  jump_or_none zero p ds xs = refl
  jump_or_none (suc d) p ds xs = refl

  jump_turn : 1 ≤ i → i < length ls → {x : ℕ} → x ≡ difference w (get_or ls (i - 1) 0) (get_or ls i 0)
      → later_jumps w (drop (i - 1) ls) ≡ if_zero x (get_or ls i 0 ∷ later_jumps w (drop (i + 1 - 1) ls)) (later_jumps w (drop (i + 1 - 1) ls))
  unfolding later_jumps differences_from
  jump_turn h k {x} e = rw (two-left h k, from_next h k, ← e) (jump_or_none x (get_or ls i 0) _ (drop (i + 1) ls))

  -- the next position is put out where the next jump goes: the place moves on behind a jump, and stays where it is none
  module _ (h : 1 ≤ i) (j : 1 ≤ length (later_jumps w (drop (i - 1) ls))) {x : ℕ} (e : x ≡ difference w (get_or ls (i - 1) 0) (get_or ls i 0)) {r : ℕ} (f : r ≡ if_zero x 1 0) where
    pub place-next : (at : ℕ) → at + 4 * r + 4 * length (later_jumps w (drop (i + 1 - 1) ls)) ≡ at + 4 * length (later_jumps w (drop (i - 1) ls))
    place-next at = go x f _ (jump_turn h (jump_left j) e)
      where
        go : (x : ℕ) → r ≡ if_zero x 1 0 → {js : List ℕ} (ks : List ℕ) → js ≡ if_zero x (get_or ls i 0 ∷ ks) ks → at + 4 * r + 4 * length ks ≡ at + 4 * length js
        go zero f {js} ks t = let n : length js ≡ suc (length ks) = ap length t in omega arith
        go (suc x) f {js} ks t = let n : length js ≡ length ks = ap length t in omega arith

    pub jump_next : (at : ℕ) (d : List ℕ) {o : List ℕ} → o ≡ put d at (bytes 4 (get_or ls i 0))
        → put o (at + 4 * r) (bytes_of 4 (later_jumps w (drop (i + 1 - 1) ls))) ≡ put d at (bytes_of 4 (later_jumps w (drop (i - 1) ls)))
    jump_next at d {o} g = go x f _ j (jump_turn h (jump_left j) e)
      where
        go : (x : ℕ) → r ≡ if_zero x 1 0 → {js : List ℕ} (ks : List ℕ) → 1 ≤ length js → js ≡ if_zero x (get_or ls i 0 ∷ ks) ks
            → put o (at + 4 * r) (bytes_of 4 ks) ≡ put d at (bytes_of 4 js)
        go zero f {js} ks j t = let n : at + 4 * r ≡ at + 4 = omega arith in rw (g, n, t) (sym (put-numbers_cons 4 d at (get_or ls i 0) ks))
        go (suc x) f {js} ks j t =
            let n : at + 4 * r ≡ at = omega arith in
            let u = length-bytes 4 (get_or ls i 0) in
            let v = length-bytes_of 4 js in
            rw (g, n, ← t) (put-over d at (bytes 4 (get_or ls i 0)) (bytes_of 4 js) (omega arith))

-- no numbers are left to put out
pub put-none : (w : ℕ) (d : List ℕ) (at : ℕ) (xs : List ℕ) → length xs ≡ 0 → put d at (bytes_of w xs) ≡ d
put-none w d at [] h = put-numbers_nil w d at
put-none w d at (x ∷ xs) h = absurd (omega arith)
