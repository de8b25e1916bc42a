-- A stretch of cells within a run, its positions filled at once: the same cursor and positions as by single steps. Assumes nothing.
use Rattle.std.proofs.Common.{◌≡◌, ℕ, zero, suc, ◌+◌, ◌-◌, ◌^◌, ◌<◌, ◌≤◌, leb, List, [], ◌∷◌, ◌++◌, length, take, set, sym, refl, ap, ◌∙◌, append_assoc, append-nil, add-zero, zero-add, arith, length-set, length-take, length-drop, take-suc-set, leb-false, leb-true}
use lib.Seq.{take-set-le, length-take-le, take-append-add, take-append-le}
use borrow.Rule.Slice.PartMut.{mid_of, post_of, put_mid, same_len_mid}
use Rattle.format.specs.Tools.{range}
use Rattle.laws.proofs.Tools.{cases, range_snoc}
use Rattle.parts.specs.declared.Cursor.{Cursor}
use Rattle.wire.specs.Wire.{add32}
use Rattle.parts.specs.Cursor.{walked_as, stepped_as}
use Rattle.parts.specs.Walks.{GoesAlong}
use Rattle.parts.specs.Stretch.{Filled, Stretch}
use Rattle.parts.proofs.Steps.{add32-small}
use Rattle.parts.proofs.Along.{walked-along}
use Rattle.parts.proofs.Batches.{Partly, walked_as_add, stepped_as_add}

-- ---- filling one element more

pub fill_start : (p from : ℕ) (out : List ℕ) → Filled p from 0 out out
fill_start p from out = record { size = refl; front = front }
  where
    front : (m : ℕ) → m ≤ 0 → p + m ≤ 2 ^ 32 → take (from + m) out ≡ take from out ++ range p m
    front zero h w = rw (add-zero from) (unfold range in sym (append-nil (take from out)))
    front (suc m) h w = absurd (omega arith)

pub fill_turn : (p from t q : ℕ) (before out : List ℕ) → from + t < length out → q ≡ add32 p t → Filled p from t before out
    → Filled p from (t + 1) before (set out (from + t) q)
fill_turn p from t q before out h e x = record { size = length-set out (from + t) q ∙ x.size; front = front }
  where
    last : p + suc t ≤ 2 ^ 32 → take (from + suc t) (set out (from + t) q) ≡ take from before ++ range p (suc t)
    last w =
        let i : from + suc t ≡ suc (from + t) = omega arith in
        let v : q ≡ p + t = e ∙ add32-small p t (omega arith) in
        rw (i, take-suc-set out (from + t) q h, x.front t (omega arith) (omega arith), range_snoc p t, v)
        (append_assoc (take from before) (range p t) ((p + t) ∷ []))

    front : (m : ℕ) → m ≤ t + 1 → p + m ≤ 2 ^ 32 → take (from + m) (set out (from + t) q) ≡ take from before ++ range p m
    front m k w =
        cases
        (leb m t)
        (λ b. let l = leb-true m t b in take-set-le (from + m) out (from + t) q (omega arith) ∙ x.front m l w)
        (λ b. let l = leb-false m t b in let n : m ≡ suc t = omega arith in rw n (last (rw n at w)))

pub fill_less : (p from m n : ℕ) (before after : List ℕ) → m ≤ n → Filled p from n before after → Filled p from m before after
fill_less p from m n before after h x = record { size = x.size; front = λ k l w. x.front k (omega arith) w }

-- a part of a buffer, put back at its place: k is how long it is
pub fill_part : (p from n k : ℕ) (before ys : List ℕ) → k ≡ n → from + n ≤ length before → Filled p 0 n (mid_of from k before) ys
    → Filled p from n before (put_mid from k before ys)
fill_part p from n k before ys e h x =
    record { size = same_len_mid from k before ys x.size; front = front }
  where
    long : length ys ≡ n
    long = x.size ∙ simp (length-take, length-drop) (omega arith)

    front : (m : ℕ) → m ≤ n → p + m ≤ 2 ^ 32 → take (from + m) (put_mid from k before ys) ≡ take from before ++ range p m
    front m l w =
        let a : length (take from before) ≡ from = length-take-le from before (omega arith) in
        let b : take m ys ≡ range p m = rw (zero-add m) at (x.front m l w) in
        rw a at (take-append-add (take from before) (ys ++ post_of from k before) m)
        ∙ ap (λ (r : List ℕ). take from before ++ r) (take-append-le m ys (post_of from k before) (rw long l) ∙ b)

-- ---- a turn

module _ (f : Cursor → Cursor) (same : GoesAlong f) where
  -- a loop's turn that takes m steps
  pub stretch_turn : (c₀ : Cursor) (n : ℕ) (c d : Cursor) (out after : List ℕ) (i m : ℕ) → length out ≡ n → Stretch c i m out after
      → d ≡ stepped_as f c (m - 1 + 1) → Partly f c₀ n c out i → Partly f c₀ n d after (i + m)
  stretch_turn c₀ n c d out after i m size z s p =
      let one = z.some in
      let fits = z.room in
      let run = z.inside in
      let j : m ≡ suc (m - 1) = omega arith in
      let j2 : m ≡ (m - 1) + 1 = omega arith in
      let q : n - i ≡ m + (n - (i + m)) = omega arith in
      let w : walked_as f c m ≡ range c.at m = rw j (walked-along f same (m - 1) c (omega arith)) in
      let g : stepped_as f c m ≡ d = ap (stepped_as f c) j2 ∙ sym s in
      let a : walked_as f c (m + (n - (i + m))) ≡ range c.at m ++ walked_as f d (n - (i + m)) = walked_as_add f c m (n - (i + m)) ∙ rw (w, g) in
      record {
        cursor = sym (ap (λ (y : Cursor). stepped_as f y (n - (i + m))) g) ∙ sym (stepped_as_add f c m (n - (i + m))) ∙ rw q at p.cursor;
        positions =
            rw (z.filled.front m (omega arith) z.small) (append_assoc (take i out) (range c.at m) (walked_as f d (n - (i + m))))
            ∙ sym (ap (λ (l : List ℕ). take i out ++ l) a)
            ∙ rw q at p.positions;
      }
