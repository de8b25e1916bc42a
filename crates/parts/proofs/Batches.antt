-- A batch: n steps from a cursor and the positions along them, by any step. Assumes nothing.
use Rattle.std.proofs.Common.{◌≡◌, ℕ, zero, suc, ◌+◌, ◌-◌, ◌<◌, ◌≤◌, List, ◌∷◌, ◌++◌, length, take, set, sym, refl, ap, ◌∙◌, append-nil, add-zero, zero-add, add-one, arith, take_all, take-suc-set}
use native.Mathlib.Nat.{sub-zero}
use lib.Seq.{append_snoc}
use Rattle.parts.specs.declared.Cursor.{Cursor}
use Rattle.parts.specs.Cursor.{walked_as, stepped_as, Batch}

-- ---- a cursor that only rank and position tell

-- i ranks further than c, at the position p
abbrev pub stand : Cursor → ℕ → ℕ → Cursor
stand c i p = record { rank = c.rank + i; at = p; next = c.next; last = c.last; used = c.used; base = c.base; empty = c.empty }

pub stand_first : (c : Cursor) → stand c 0 c.at ≡ c
stand_first c = rw (add-zero c.rank)

-- ---- a loop with the step f, that is to take n steps from c₀

-- after i steps it is at c, and out begins with the positions so far
pub record Partly (f : Cursor → Cursor) (c₀ : Cursor) (n : ℕ) (c : Cursor) (out : List ℕ) (i : ℕ) : Type 0 where
  pub cursor : stepped_as f c (n - i) ≡ stepped_as f c₀ n
  pub positions : take i out ++ walked_as f c (n - i) ≡ walked_as f c₀ n

module _ (f : Cursor → Cursor) (c₀ : Cursor) (n : ℕ) where
  pub batch_start : (out : List ℕ) → Partly f c₀ n c₀ out 0
  batch_start out = record { cursor = rw sub-zero; positions = rw sub-zero }

  pub batch_turn : (c d : Cursor) (out : List ℕ) (i : ℕ) → i < length out → length out ≡ n → d ≡ f c → Partly f c₀ n c out i
      → Partly f c₀ n d (set out i c.at) (i + 1)
  unfolding walked_as stepped_as
  batch_turn c d out i h e s p =
      let m : n - i ≡ suc (n - (i + 1)) = omega arith in
      let t : take (i + 1) (set out i c.at) ++ walked_as f (f c) (n - (i + 1)) ≡ take i out ++ (c.at ∷ walked_as f (f c) (n - (i + 1)))
      = rw (add-one i, take-suc-set out i c.at h) (append_snoc (take i out) c.at (walked_as f (f c) (n - suc i))) in
      record {
        cursor = rw s (rw m at p.cursor);
        positions = rw s (t ∙ rw m at p.positions);
      }

  pub batch_end : (c : Cursor) (out : List ℕ) (i : ℕ) → length out ≤ i → length out ≡ n → Partly f c₀ n c out i → Batch f c₀ n c out
  unfolding walked_as stepped_as
  batch_end c out i h e p =
      let z : n - i ≡ 0 = omega arith in
      record {
        cursor = rw z at p.cursor;
        positions = sym (take_all i out h) ∙ sym (append-nil (take i out)) ∙ rw z at p.positions;
      }

-- ---- m steps, then n

module _ (f : Cursor → Cursor) where
  pub walked_as_add : (c : Cursor) (m n : ℕ) → walked_as f c (m + n) ≡ walked_as f c m ++ walked_as f (stepped_as f c m) n
  unfolding walked_as stepped_as
  walked_as_add c zero n = rw zero-add
  walked_as_add c (suc m) n =
      let e : suc m + n ≡ suc (m + n) = omega arith in
      rw e (ap (λ (l : List ℕ). c.at ∷ l) (walked_as_add (f c) m n))

  pub stepped_as_add : (c : Cursor) (m n : ℕ) → stepped_as f c (m + n) ≡ stepped_as f (stepped_as f c m) n
  unfolding stepped_as
  stepped_as_add c zero n = rw zero-add
  stepped_as_add c (suc m) n =
      let e : suc m + n ≡ suc (m + n) = omega arith in
      rw e (stepped_as_add (f c) m n)

  pub length-walked_as : (c : Cursor) (n : ℕ) → length (walked_as f c n) ≡ n
  unfolding walked_as
  length-walked_as c zero = refl
  length-walked_as c (suc n) = ap suc (length-walked_as (f c) n)
