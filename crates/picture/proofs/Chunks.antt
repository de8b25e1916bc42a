-- The cells of a picture in chunks: those of the chunk from index `at` on first, then those behind it. Assumes nothing.
use Prim.Native.Nat.{ℕ, suc, ◌+◌, ◌-◌, ◌*◌, ◌≤◌, ◌<◌, min}
use mathlib.Core.Path.{◌≡◌, refl, sym, ap, ◌∙◌}
use mathlib.Core.Bool.{true}
use mathlib.Core.List.{List, [], ◌∷◌, ◌++◌, append-nil}
use native.Mathlib.Omega.{arith}
use lib.ListN.{length, take, drop, length-take, length-drop, length-append, take-append-drop, drop_of_length-le}
use lib.Seq.{drop-drop, take_all, take_at}
use lib.Dec.{leb}
use borrow.Author.Tests.{leb-true, leb-false}
use Rattle.std.proofs.lemmas.List.{drop_at}
use Rattle.laws.proofs.Tools.{cases}
use Rattle.format.specs.declared.Setting.{Setting}
use Rattle.format.specs.Kinds.{setting_allowed}
use Rattle.format.specs.Stored.{stored_from, stored, kept}
use Rattle.laws.proofs.Stored.{rising-stored, stored-append, kept_append}
use Rattle.parts.specs.declared.Encoder.{Encoder}
use Rattle.parts.specs.Encoder.{begun, taken_all_by}
use Rattle.parts.specs.Ready.{passed}
use Rattle.parts.specs.Batch.{Along}
use Rattle.parts.proofs.Sounds.{sound-begun}
use Rattle.parts.proofs.Added.{rising-front}
use Rattle.kinds.specs.Coding.{taken_all}
use Rattle.kinds.proofs.Driving.{all_append, along-added}

-- the stored positions from index `at` on
abbrev pub left : ℕ → List ℕ → ℕ → List ℕ
left E ws at = stored_from E at (drop at ws)

-- the cells of a chunk from `at` on
abbrev pub chunk : List ℕ → ℕ → List ℕ
chunk ws at = take 1024 (drop at ws)

-- the stored positions among them
abbrev pub listed : ℕ → List ℕ → ℕ → List ℕ
listed E ws at = stored_from E at (chunk ws at)

-- what `chunks` hands out first of ds, and what is left
pub next_chunk : (n : ℕ) (ds xs ys : List ℕ) → ds ≡ xs ++ ys → length xs ≡ min n (length ds) → (xs ≡ take n ds) × (ys ≡ drop n ds)
next_chunk n ds xs [] e h =
    let q : ds ≡ xs = e ∙ append-nil xs in
    let l = ap length q in
    (sym q ∙ sym (take_all n ds (omega arith)), sym (drop_of_length-le ds {i = n} (omega arith)))
next_chunk n ds xs (y ∷ ys) e h =
    let l : length ds ≡ length xs + suc (length ys) = ap length e ∙ length-append xs (y ∷ ys) in
    let z : length xs ≡ n = omega arith in
    rw e (sym (take_at xs (y ∷ ys) n z), sym (drop_at xs (y ∷ ys) n z))

-- before the first cell
pub along-begun : (f g E : ℕ) (ws : List ℕ) → f ≤ 4294967296 → g ≤ 4294967296 → length ws ≤ 16777216 → Along (begun f g) (left E ws 0)
along-begun f g E ws h k l =
    let none : passed (begun f g) ≡ 0 = unfold begun in refl in
    record { sound = sound-begun f g h k; rising = rw none (rising-stored E 0 16777216 ws (omega arith)) }

pub left-all : (E : ℕ) (ws : List ℕ) → left E ws 0 ≡ stored E ws
left-all E ws = unfold stored in refl

-- after the last cell
pub left-none : (E : ℕ) (ws : List ℕ) (at : ℕ) → length ws ≤ at → left E ws at ≡ []
left-none E ws at h = unfold stored_from in rw (drop_of_length-le ws {i = at} h)

pub all_done : (E : ℕ) (ws : List ℕ) (at : ℕ) (s : Setting) (e : Encoder) → length ws ≤ at → e ≡ taken_all s e (left E ws at)
unfolding taken_all taken_all_by
all_done E ws at s e h = sym (ap (taken_all s e) (left-none E ws at h))

-- chunk k of the cells, with those behind it
pub record Chunk (ws : List ℕ) (k : ℕ) (xs ys : List ℕ) : Type 0 where
  pub inside : 1024 * k < length ws
  pub here : xs ≡ chunk ws (1024 * k)
  pub behind : ys ≡ drop (1024 * (k + 1)) ws

pub chunk_of : (ws : List ℕ) (k size later : ℕ) (ds xs ys : List ℕ) → size ≡ 1024 → ds ≡ drop (1024 * k) ws
    → (later ≡ size) × ((ds ≡ xs ++ ys) × (length xs ≡ min size (length ds)) × (0 < length ds)) → Chunk ws k xs ys
chunk_of ws k size later ds xs ys n d h =
    let t = next_chunk 1024 ds xs ys h.1.0 (rw n at h.1.1) in
    let e : 1024 * k + 1024 ≡ 1024 * (k + 1) = omega arith in
    let l : length ds ≡ length ws - 1024 * k = ap length d ∙ length-drop (1024 * k) ws in
    let m = h.1.2 in
    record { inside = omega arith; here = t.0 ∙ ap (take 1024) d; behind = t.1 ∙ ap (drop 1024) d ∙ drop-drop 1024 (1024 * k) ws ∙ rw e }

pub chunks_over : (ws : List ℕ) (k : ℕ) (ds : List ℕ) → ds ≡ drop (1024 * k) ws → length ds ≡ 0 → length ws ≤ 1024 * k
chunks_over ws k ds d h = let l : length ds ≡ length ws - 1024 * k = ap length d ∙ length-drop (1024 * k) ws in omega arith

stored-none : (E at : ℕ) → stored_from E at [] ≡ []
unfolding stored_from
stored-none E at = refl

module _ (E : ℕ) (ws : List ℕ) (at : ℕ) where
  cut : drop at ws ≡ chunk ws at ++ drop (at + 1024) ws
  cut = sym (take-append-drop 1024 (drop at ws)) ∙ ap (λ (l : List ℕ). chunk ws at ++ l) (drop-drop 1024 at ws)

  pub length_chunk : length (chunk ws at) ≡ min 1024 (length ws - at)
  length_chunk = length-take 1024 (drop at ws) ∙ ap (min 1024) (length-drop at ws)

  -- a chunk that is short is the last
  left_on : stored_from E (at + length (chunk ws at)) (drop (at + 1024) ws) ≡ left E ws (at + 1024)
  left_on =
      cases (leb (length ws) (at + 1024))
      (λ t.
      rw (drop_of_length-le ws {i = at + 1024} (leb-true (length ws) (at + 1024) t))
      (stored-none E (at + length (chunk ws at)) ∙ sym (stored-none E (at + 1024))))
      (λ t. let h = leb-false (length ws) (at + 1024) t in let e : at + length (chunk ws at) ≡ at + 1024 = omega (arith, length_chunk) in rw e)

  pub stored_cut : left E ws at ≡ listed E ws at ++ left E ws (at + 1024)
  stored_cut = ap (stored_from E at) cut ∙ stored-append E at (chunk ws at) (drop (at + 1024) ws) ∙ ap (λ (l : List ℕ). listed E ws at ++ l) left_on

  pub kept-cut : kept E (drop at ws) ≡ kept E (chunk ws at) ++ kept E (drop (at + 1024) ws)
  kept-cut = ap (kept E) cut ∙ kept_append E (chunk ws at) (drop (at + 1024) ws)

  -- the positions of the chunk can be taken, and those left after them
  pub along_chunk : (e : Encoder) → Along e (left E ws at) → Along e (listed E ws at)
  along_chunk e a =
      record {
        sound = a.sound;
        rising = rising-front (passed e) 16777216 (listed E ws at) (left E ws (at + 1024)) (rw (← stored_cut) a.rising);
      }

  module _ (s : Setting) (e : Encoder) where
    pub along-left : setting_allowed s ≡ true → Along e (left E ws at) → Along (taken_all s e (listed E ws at)) (left E ws (at + 1024))
    along-left t a = along-added s e (listed E ws at) (left E ws (at + 1024)) t a.sound (rw (← stored_cut) a.rising)

    pub all_left : taken_all s (taken_all s e (listed E ws at)) (left E ws (at + 1024)) ≡ taken_all s e (left E ws at)
    all_left = sym (ap (taken_all s e) stored_cut ∙ all_append s e (listed E ws at) (left E ws (at + 1024)))

-- the first n elements of a list that has as many
pub record Front (n : ℕ) (out : List ℕ) : Type 0 where
  pub inside : n ≤ length out
  pub count : n ≡ length (take n out)

pub front : (n : ℕ) (out ls : List ℕ) → n ≡ length ls → take n out ≡ ls → Front n out
front n out ls h q =
    let e : n ≡ length (take n out) = h ∙ ap length (sym q) in
    record { inside = omega (arith, e, length-take n out); count = e }
