-- A level as it stands in bytes: page by page, and past stores below it. Assumes nothing.
use Prim.Native.Nat.{ℕ, zero, suc, ◌+◌, ◌-◌, ◌*◌, ◌^◌, ◌≤◌, ◌<◌, min}
use mathlib.Core.Path.{◌≡◌, refl, sym, ap, ◌∙◌}
use mathlib.Core.List.{List, [], ◌∷◌, ◌++◌, append_assoc}
use native.Mathlib.Nat.{zero-min, min-zero}
use native.Mathlib.Omega.{arith}
use lib.ListN.{length, take, drop, get_or, set, take-append-drop}
use lib.Seq.{drop-drop, drop-set-lt, drop_at, take_at, length-take-le}
use Rattle.format.specs.Tools.{Below}
use Rattle.format.specs.Bytes.{bytes_of, field, numbers_of}
use Rattle.format.specs.Runs.{Span}
use Rattle.format.specs.PagedRuns.{none, lasts_from, lasts, flat_spans, spans_in}
use Rattle.laws.proofs.Bytes.{length-bytes_of, numbers_of-bytes_of}
use Rattle.laws.proofs.Positions.{length-flat_spans, spans_in_flat}
use Rattle.wire.specs.Wire.{field_pair}
use Rattle.stores.specs.Put.{put, pair}
use Rattle.stores.proofs.Laws.{put-fits, put-append, length-pair, pair_cons}
use Rattle.levels.specs.LevelZero.{level_in, span_at}

-- ---- entries as bytes

pub flat_cons : (y : Span) (ys : List Span) → bytes_of 4 (flat_spans (y ∷ ys)) ≡ pair y.cells y.empty ++ bytes_of 4 (flat_spans ys)
unfolding flat_spans
flat_cons y ys = pair_cons y.cells y.empty (flat_spans ys)

pub flat_append : (xs ys : List Span) → flat_spans (xs ++ ys) ≡ flat_spans xs ++ flat_spans ys
unfolding flat_spans
flat_append [] ys = refl
flat_append (x ∷ xs) ys = rw (flat_append xs ys)

pub length-entries : (xs : List Span) → length (bytes_of 4 (flat_spans xs)) ≡ 8 * length xs
length-entries xs = length-bytes_of 4 (flat_spans xs) ∙ rw (length-flat_spans xs) (omega arith)

pub put_entry : (d : List ℕ) (at : ℕ) (x : Span) (xs : List Span)
    → put d at (bytes_of 4 (flat_spans (x ∷ xs))) ≡ put (put d at (pair x.cells x.empty)) (at + 8) (bytes_of 4 (flat_spans xs))
put_entry d at x xs =
    ap (put d at) (flat_cons x xs)
    ∙ put-append d at (pair x.cells x.empty) (bytes_of 4 (flat_spans xs))
    ∙ rw (length-pair x.cells x.empty)

-- ---- entries at their offsets

pub level-none : (b : List ℕ) (at : ℕ) → level_in b 0 at ≡ []
unfolding level_in numbers_of spans_in
level-none b at = refl

level_cons : (b : List ℕ) (n at : ℕ) → level_in b (suc n) at ≡ span_at b at ∷ level_in b n (at + 8)
unfolding level_in numbers_of spans_in field_pair field
level_cons b n at =
    let e : 2 * suc n ≡ suc (suc (2 * n)) = omega arith in
    let f : at + 4 + 4 ≡ at + 8 = omega arith in
    rw (e, drop-drop 4 at b, drop-drop 4 (at + 4) b, f)

pub length-level_in : (b : List ℕ) (n at : ℕ) → length (level_in b n at) ≡ n
length-level_in b zero at = ap length (level-none b at)
length-level_in b (suc n) at = ap length (level_cons b n at) ∙ ap suc (length-level_in b n (at + 8))

level_from : (b : List ℕ) (k n at : ℕ) → drop k (level_in b n at) ≡ level_in b (n - k) (at + 8 * k)
level_from b zero n at =
    let e : at + 8 * 0 ≡ at = omega arith in
    let f : n - 0 ≡ n = omega arith in
    rw (e, f)
level_from b (suc k) zero at = let e : 0 - suc k ≡ 0 = omega arith in rw (e, level-none b at, level-none b (at + 8 * suc k))
level_from b (suc k) (suc n) at =
    let e : suc n - suc k ≡ n - k = omega arith in
    let f : at + 8 * suc k ≡ at + 8 + 8 * k = omega arith in
    rw (level_cons b n at, e, f) (level_from b k n (at + 8))

level-at : (b : List ℕ) (n at i : ℕ) → i < n → get_or (level_in b n at) i none ≡ span_at b (at + 8 * i)
level-at b zero at i h = absurd (omega arith)
level-at b (suc n) at zero h = let e : at + 8 * 0 ≡ at = omega arith in rw (level_cons b n at, e)
level-at b (suc n) at (suc i) h =
    let f : at + 8 * suc i ≡ at + 8 + 8 * i = omega arith in
    rw (level_cons b n at, f) (level-at b n (at + 8) i (omega arith))

-- ---- the first page, and those after it

page-last : (b k : ℕ) (x : Span) (xs : List Span)
    → lasts_from b k x xs ≡ get_or (x ∷ xs) (min k (length xs)) none ∷ lasts b (drop (suc (min k (length xs))) (x ∷ xs))
unfolding lasts_from lasts
page-last b k x [] = rw (min-zero k)
page-last b zero x (y ∷ ys) = rw (zero-min (suc (length ys)))
page-last b (suc k) x (y ∷ ys) =
    let e : min (suc k) (suc (length ys)) ≡ suc (min k (length ys)) = omega arith in
    rw e (page-last b k y ys)

first-page : (b n : ℕ) (ys : List Span) → length ys ≡ n → 1 ≤ b → 1 ≤ n
    → lasts b ys ≡ get_or ys (min b n - 1) none ∷ lasts b (drop (min b n) ys)
first-page b n [] e h k = absurd (omega arith)
first-page b n (x ∷ xs) e h k =
    let i : min b n - 1 ≡ min (b - 1) (length xs) = omega arith in
    let j : min b n ≡ suc (min (b - 1) (length xs)) = omega arith in
    rw (i, j) (unfold lasts in (page-last b (b - 1) x xs))

pub lasts-next : (d : List ℕ) (b n at : ℕ) → 1 ≤ b → 1 ≤ n
    → lasts b (level_in d n at) ≡ span_at d (at + 8 * min b n - 8) ∷ lasts b (level_in d (n - min b n) (at + 8 * min b n))
lasts-next d b n at h k =
    let i : min b n - 1 < n = omega arith in
    let e : at + 8 * (min b n - 1) ≡ at + 8 * min b n - 8 = omega arith in
    first-page b n (level_in d n at) (length-level_in d n at) h k
    ∙ rw (level-at d n at (min b n - 1) i, level_from d (min b n) n at, e)

-- ---- stores below a level, and a level as it is stored

drop-put : (n : ℕ) (d : List ℕ) (at : ℕ) (bs : List ℕ) → at + length bs ≤ n → drop n (put d at bs) ≡ drop n d
unfolding put
drop-put n d at [] h = refl
drop-put n d at (b ∷ bs) h = drop-put n (set d at b) (suc at) bs (omega arith) ∙ drop-set-lt n d at b (omega arith)

pub level-put : (d : List ℕ) (n from at : ℕ) (bs : List ℕ) → at + length bs ≤ from → level_in (put d at bs) n from ≡ level_in d n from
unfolding level_in
level-put d n from at bs h = rw (drop-put from d at bs h)

-- bytes back from where they were put
pub put_back : (d : List ℕ) (at : ℕ) (bs : List ℕ) → at + length bs ≤ length d → take (length bs) (drop at (put d at bs)) ≡ bs
put_back d at bs h =
    let l : length (take at d) ≡ at = length-take-le at d (omega arith) in
    let more = drop (at + length bs) d in
    rw (put-fits d at bs h, append_assoc (take at d) bs more, drop_at (take at d) (bs ++ more) at l) (take_at bs more (length bs) refl)

-- where the bytes of entries stand, the entries
pub level-back : (d : List ℕ) (n at : ℕ) (xs : List Span) → length xs ≡ n → Below (256 ^ 4) (flat_spans xs)
    → take (length (bytes_of 4 (flat_spans xs))) (drop at d) ≡ bytes_of 4 (flat_spans xs) → level_in d n at ≡ xs
unfolding level_in
level-back d n at xs e s h =
    let bs = bytes_of 4 (flat_spans xs) in
    let z : 2 * n ≡ length (flat_spans xs) = omega (arith, length-flat_spans xs) in
    let o : drop at d ≡ bs ++ drop (length bs) (drop at d) = sym (rw h at (take-append-drop (length bs) (drop at d))) in
    rw (z, o, numbers_of-bytes_of 4 (flat_spans xs) (drop (length bs) (drop at d)) s) (spans_in_flat xs)
