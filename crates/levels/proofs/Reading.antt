-- Entries as they are read from bytes. Assumes nothing.
use Prim.Native.Nat.{ℕ, zero, suc, ◌+◌, ◌-◌, ◌*◌, ◌^◌, ◌≤◌, ◌<◌}
use mathlib.Core.Path.{◌≡◌, refl, sym, ap, ◌∙◌}
use mathlib.Core.List.{List, [], ◌∷◌, ◌++◌, append_assoc, append-nil}
use native.Mathlib.Omega.{arith}
use lib.ListN.{length, take, drop, get_or, take-append-drop}
use lib.Seq.{drop-drop, take_at, drop_at}
use Rattle.format.specs.Tools.{Below}
use Rattle.format.specs.Bytes.{bytes, number, bytes_of, field, numbers_of}
use Rattle.format.specs.Runs.{Span}
use Rattle.format.specs.PagedRuns.{none, flat_spans, spans_in}
use Rattle.laws.proofs.Bytes.{length-bytes, number-bytes}
use Rattle.laws.proofs.Levels.{span_path}
use Rattle.wire.specs.Wire.{field_pair}
use Rattle.levels.specs.Levels.{entries, span_of}

-- n entries from the front of bytes
unfoldable pub pairs_in : ℕ → List ℕ → List Span
pairs_in n b = spans_in (numbers_of 4 (2 * n) b)

pub pairs_none : (b : List ℕ) → pairs_in 0 b ≡ []
unfolding pairs_in numbers_of spans_in
pairs_none b = refl

pub pairs_cons : (n : ℕ) (b : List ℕ) → pairs_in (suc n) b ≡ record { cells = field 4 0 b; empty = field 4 4 b } ∷ pairs_in n (drop 8 b)
unfolding pairs_in numbers_of spans_in field
pairs_cons n b =
    let e : 2 * suc n ≡ suc (suc (2 * n)) = omega arith in
    rw (e, drop-drop 4 4 b)

pub length_pairs : (n : ℕ) (b : List ℕ) → length (pairs_in n b) ≡ n
length_pairs zero b = rw (pairs_none b)
length_pairs (suc n) b = rw (pairs_cons n b) (ap suc (length_pairs n (drop 8 b)))

field-drop : (w m n : ℕ) (b : List ℕ) → field w m (drop n b) ≡ field w (n + m) b
unfolding field
field-drop w m n b = rw (drop-drop m n b)

pub pairs_at : (n i : ℕ) (b : List ℕ) → i < n → get_or (pairs_in n b) i none ≡ record { cells = field 4 (8 * i) b; empty = field 4 (8 * i + 4) b }
pairs_at zero i b h = absurd (omega arith)
pairs_at (suc n) zero b h = rw (pairs_cons n b)
pairs_at (suc n) (suc i) b h =
    let e : 8 + 8 * i ≡ 8 * suc i = omega arith in
    let f : 8 + (8 * i + 4) ≡ 8 * suc i + 4 = omega arith in
    rw (pairs_cons n b)
    (pairs_at n i (drop 8 b) (omega arith)
    ∙ span_path (field-drop 4 (8 * i) 8 b ∙ ap (λ (k : ℕ). field 4 k b) e) (field-drop 4 (8 * i + 4) 8 b ∙ ap (λ (k : ℕ). field 4 k b) f))

-- fewer entries, and those from an entry on
pub pairs_take : (n m : ℕ) (b : List ℕ) → n ≤ m → take n (pairs_in m b) ≡ pairs_in n b
pairs_take zero m b h = sym (pairs_none b)
pairs_take (suc n) zero b h = absurd (omega arith)
pairs_take (suc n) (suc m) b h = rw (pairs_cons m b, pairs_cons n b, pairs_take n m (drop 8 b) (omega arith))

pub pairs_drop : (n m : ℕ) (b : List ℕ) → drop n (pairs_in m b) ≡ pairs_in (m - n) (drop (8 * n) b)
pairs_drop zero m b = ap (λ (k : ℕ). pairs_in k b) (omega arith)
pairs_drop (suc n) zero b =
    let e : 0 - suc n ≡ 0 = omega arith in
    rw (pairs_none b, e, pairs_none (drop (8 * suc n) b))
pairs_drop (suc n) (suc m) b =
    let e : 8 + 8 * n ≡ 8 * suc n = omega arith in
    let f : suc m - suc n ≡ m - n = omega arith in
    rw (pairs_cons m b, f, pairs_drop n m (drop 8 b), drop-drop (8 * n) 8 b, e)

-- ---- the entries of a file

pub length-entries : (start : ℕ) (b : List ℕ) → length (entries start b) ≡ length b
unfolding entries pairs_in
length-entries start b = length_pairs (length b) (drop start b)

pub entry_at : (start : ℕ) (b : List ℕ) (i : ℕ) → i < length b → get_or (entries start b) i none ≡ span_of (field_pair (start + 8 * i) b)
unfolding entries pairs_in field_pair
entry_at start b i h =
    let f : start + (8 * i + 4) ≡ start + 8 * i + 4 = omega arith in
    pairs_at (length b) i (drop start b) h
    ∙ span_path (field-drop 4 (8 * i) start b) (field-drop 4 (8 * i + 4) start b ∙ ap (λ (k : ℕ). field 4 k b) f)

-- ---- entries back from the bytes that were made of them

four_on : (c : ℕ) (l : List ℕ) → drop 4 (bytes 4 c ++ l) ≡ l
four_on c l = drop_at (bytes 4 c) l 4 (length-bytes 4 c)

past : (c e : ℕ) (l : List ℕ) → drop 8 (bytes 4 c ++ (bytes 4 e ++ l)) ≡ l
past c e l = sym (drop-drop 4 4 (bytes 4 c ++ (bytes 4 e ++ l))) ∙ ap (drop 4) (four_on c (bytes 4 e ++ l)) ∙ four_on e l

first_field : (c : ℕ) (l : List ℕ) → c < 256 ^ 4 → field 4 0 (bytes 4 c ++ l) ≡ c
unfolding field
first_field c l h = ap number (take_at (bytes 4 c) l 4 (length-bytes 4 c)) ∙ number-bytes 4 c h

second-field : (c e : ℕ) (l : List ℕ) → e < 256 ^ 4 → field 4 4 (bytes 4 c ++ (bytes 4 e ++ l)) ≡ e
second-field c e l k = sym (field-drop 4 0 4 (bytes 4 c ++ (bytes 4 e ++ l))) ∙ ap (field 4 0) (four_on c (bytes 4 e ++ l)) ∙ first_field e l k

-- bytes that begin with those of pairs
pub pairs_made : (n : ℕ) (xs : List Span) (more : List ℕ) → Below (256 ^ 4) (flat_spans xs) → length xs ≤ n
    → pairs_in n (bytes_of 4 (flat_spans xs) ++ more) ≡ xs ++ pairs_in (n - length xs) more
unfolding flat_spans bytes_of
pairs_made n [] more s h = ap (λ (k : ℕ). pairs_in k more) (omega arith)
pairs_made zero (x ∷ xs) more s h = absurd (omega arith)
pairs_made (suc n) (x ∷ xs) more s h =
    let rest = bytes_of 4 (flat_spans xs) ++ more in
    let e : suc n - suc (length xs) ≡ n - length xs = omega arith in
    let z : bytes 4 x.cells ++ (bytes 4 x.empty ++ bytes_of 4 (flat_spans xs)) ++ more ≡ bytes 4 x.cells ++ (bytes 4 x.empty ++ rest)
    = append_assoc (bytes 4 x.cells) (bytes 4 x.empty ++ bytes_of 4 (flat_spans xs)) more
    ∙ ap (λ (l : List ℕ). bytes 4 x.cells ++ l) (append_assoc (bytes 4 x.empty) (bytes_of 4 (flat_spans xs)) more) in
    ap (pairs_in (suc n)) z
    ∙ pairs_cons n (bytes 4 x.cells ++ (bytes 4 x.empty ++ rest))
    ∙ rw (
      first_field x.cells (bytes 4 x.empty ++ rest) s.0,
      second-field x.cells x.empty rest s.1.0,
      past x.cells x.empty rest,
      e,
      pairs_made n xs more s.1.1 (omega arith),
    )

pub pairs_back : (n : ℕ) (xs : List Span) (b : List ℕ) → Below (256 ^ 4) (flat_spans xs) → length xs ≡ n → bytes_of 4 (flat_spans xs) ≡ take (8 * n) b
    → pairs_in n b ≡ xs
pairs_back n xs b s h e =
    let z : n - length xs ≡ 0 = omega arith in
    ap (pairs_in n) (sym (take-append-drop (8 * n) b) ∙ rw (← e))
    ∙ pairs_made n xs (drop (8 * n) b) s (omega arith)
    ∙ rw (z, pairs_none (drop (8 * n) b)) (append-nil xs)

-- the first f entries of a file, and the s after them
pub entries-take : (start : ℕ) (b : List ℕ) (f : ℕ) → f ≤ length b → take f (entries start b) ≡ pairs_in f (drop start b)
unfolding entries pairs_in
entries-take start b f h = pairs_take f (length b) (drop start b) h

pub entries_next : (start : ℕ) (b : List ℕ) (f s : ℕ) → f + s ≤ length b → take s (drop f (entries start b)) ≡ pairs_in s (drop (start + 8 * f) b)
entries_next start b f s h =
    ap (take s) next ∙ pairs_take s (length b - f) (drop (start + 8 * f) b) (omega arith)
  where
    next : drop f (entries start b) ≡ pairs_in (length b - f) (drop (start + 8 * f) b)
    next = unfold entries pairs_in in (pairs_drop f (length b) (drop start b) ∙ ap (pairs_in (length b - f)) (drop-drop (8 * f) start b))
