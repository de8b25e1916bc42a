-- The cursor goes step by step where a search goes. Assumes nothing.
use Rattle.std.proofs.Common.{◌≡◌, ℕ, zero, suc, ◌+◌, ◌*◌, ◌^◌, ◌<◌, ◌≤◌, eqb, List, refl, add-zero, arith}
use Rattle.format.specs.Bytes.{field}
use Rattle.laws.proofs.Tools.{cases}
use Rattle.parts.specs.declared.Cursor.{Cursor}
use Rattle.parts.specs.Cursor.{moved_to, stepped_as}
use Rattle.parts.proofs.Steps.{add32-small}
use Rattle.differences.specs.declared.walk.Reached.{Reached}
use Rattle.differences.specs.Walk.{step_by, stepped, walked, Room}
use Rattle.differences.proofs.Sums.{earlier}
use Rattle.difference_rows.specs.Steps.{jump_from, jump_by, next_at}
use Rattle.difference_rows.proofs.Filled.{step-there}

-- n ranks further than c, after so many jumps, at the position x
abbrev pub placed : Cursor → ℕ → ℕ → ℕ → Cursor
placed c n taken x =
    record { rank = c.rank + n; at = x; next = taken; last = c.last; used = c.used; base = c.base; empty = c.empty }

-- where c stands, as a search has it
abbrev pub reached : Cursor → Reached
reached c = record { position = c.at; taken = c.next }

-- the last of the steps
pub stepped-last : (f : Cursor → Cursor) (c : Cursor) (n : ℕ) → stepped_as f c (suc n) ≡ f (stepped_as f c n)
unfolding stepped_as
stepped-last f c zero = refl
stepped-last f c (suc n) = stepped-last f (f c) n

-- the cursor u, n ranks further than c, stands where a search has reached s, as far as 32 bits hold the position
pub record Follows (c : Cursor) (n : ℕ) (s : Reached) (u : Cursor) : Type 0 where
  pub shape : u ≡ placed c n s.taken u.at
  pub at : s.position < 2 ^ 32 → u.at ≡ s.position

module _ (w start second : ℕ) (b : List ℕ) (c : Cursor) where
  place-next : (n : ℕ) (s : Reached) (x : ℕ) → (s.position < 2 ^ 32 → x ≡ s.position) → Room w second b (c.rank + suc n)
      → (stepped w start second b (c.rank + suc n) s).taken < 2 ^ 32
      → Follows c (suc n) (stepped w start second b (c.rank + suc n) s) (next_at w start second b (placed c n s.taken x))
  unfolding stepped step_by jump_by jump_from moved_to
  place-next n s x f z h =
      let d = field w (second + w * (c.rank + suc n)) b in
      let q : c.rank + suc n ≡ c.rank + n + 1 = omega arith in
      let k = z.rank in
      let j = step-there w start second b (placed c n s.taken x) (rw q at z) {d = d} (rw q) in
      let r = add32-small (c.rank + n) 1 (omega arith) in
      cases (eqb d 0)
      (λ e.
      let m = rw e at h in
      rw (← j, e, r, add32-small s.taken 1 m) (record { shape = rw q; at = λ i. refl }))
      (λ e. rw (← j, e, r) (record { shape = rw q; at = λ i. rw (f (omega arith)) (add32-small s.position d i) }))

  -- where a search goes
  abbrev pub at-rank : ℕ → Reached
  at-rank n = walked w start second b c.rank n (reached c)

  taken_up : (n : ℕ) → (at-rank n).taken ≤ (at-rank (suc n)).taken
  unfolding walked stepped step_by
  taken_up n = cases (eqb (field w (second + w * (c.rank + suc n)) b) 0) (λ e. rw e (omega arith)) (λ e. rw e (omega arith))

  follows_next : (n : ℕ) (u : Cursor) → Follows c n (at-rank n) u → Room w second b (c.rank + suc n) → (at-rank (suc n)).taken < 2 ^ 32
      → Follows c (suc n) (at-rank (suc n)) (next_at w start second b u)
  unfolding walked
  follows_next n u f z h = let y = place-next n (at-rank n) u.at f.at z h in rw (← f.shape) at y

  follows_start : Follows c 0 (at-rank 0) (stepped_as (next_at w start second b) c 0)
  unfolding walked stepped_as
  follows_start = record { shape = rw (add-zero c.rank); at = λ i. refl }

  -- and the cursor, as long as 32 bits hold the jumps that are taken
  pub follows : (n : ℕ) → Room w second b (c.rank + n) → (at-rank n).taken < 2 ^ 32 → Follows c n (at-rank n) (stepped_as (next_at w start second b) c n)
  follows zero z h = follows_start
  follows (suc n) z h =
      let i = taken_up n in
      let f = follows n (earlier w second b z (omega arith)) (omega arith) in
      rw (stepped-last (next_at w start second b) c n) (follows_next n (stepped_as (next_at w start second b) c n) f z h)
