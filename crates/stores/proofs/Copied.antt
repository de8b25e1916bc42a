-- A part of a buffer written: as a slice, by std's words for it, and byte by byte. Assumes nothing.
use Prim.Native.Nat.{ℕ, suc, ◌+◌, ◌-◌, ◌≤◌, ◌<◌}
use mathlib.Core.Path.{◌≡◌, sym, ap, ◌∙◌}
use mathlib.Core.List.{List, ◌++◌, append_assoc}
use native.Mathlib.Nat.{sub-zero, add-zero}
use native.Mathlib.Omega.{arith}
use lib.ListN.{length, get_or, set, take, drop}
use lib.Seq.{drop-cons, drop-drop}
use borrow.Rule.Slice.PartMut.{put_mid}
use Rattle.stores.specs.Put.{put}
use Rattle.stores.proofs.Laws.{put-fits}

-- after a write to `dst[at..end]`: k is end - at, d is what dst held, ys is what the part holds now
pub put_written : (at k : ℕ) (d ys bs : List ℕ) → ys ≡ bs → length bs ≡ k → at + k ≤ length d → put_mid at k d ys ≡ put d at bs
put_written at k d ys bs e n h =
    ap (put_mid at k d) e
    ∙ ap (λ (l : List ℕ). take at d ++ (bs ++ l)) (drop-drop k at d ∙ ap (λ (m : ℕ). drop (at + m) d) (sym n))
    ∙ sym (append_assoc (take at d) bs (drop (at + length bs) d))
    ∙ sym (put-fits d at bs (omega arith))

-- ---- bytes copied one after the other

-- what is left to copy after i bytes
abbrev pub Left : List ℕ → ℕ → List ℕ → ℕ → ℕ → ℕ → List ℕ
Left d at s from n i = put d (at + i) (take (n - i) (drop (from + i) s))

pub copy_start : (d s : List ℕ) (at from n : ℕ) → Left d at s from n 0 ≡ put d at (take n (drop from s))
copy_start d s at from n = rw (add-zero at, add-zero from, sub-zero n)

pub copy_turn : (d s : List ℕ) (at from n i : ℕ) → from + n ≤ length s → i < n
    → Left (set d (at + i) (get_or s (from + i) 0)) at s from n (i + 1) ≡ Left d at s from n i
unfolding put
copy_turn d s at from n i h k =
    let m : n - i ≡ suc (n - (i + 1)) = omega arith in
    let e : at + (i + 1) ≡ suc (at + i) = omega arith in
    let f : from + (i + 1) ≡ suc (from + i) = omega arith in
    rw (m, drop-cons s (from + i) 0 (omega arith), e, f)

pub copy_end : (d s : List ℕ) (at from n i : ℕ) → n ≤ i → Left d at s from n i ≡ d
unfolding put
copy_end d s at from n i h = let z : n - i ≡ 0 = omega arith in rw z
