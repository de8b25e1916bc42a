-- What a walk needs of a kind's step: sums of 32 bits, entries by their width, and a relation that each step keeps. Assumes nothing.
use Rattle.std.proofs.Common.{◌≡◌, ℕ, suc, ◌+◌, ◌-◌, ◌*◌, ◌^◌, ◌<◌, ◌≤◌, List, [], ◌∷◌, length, refl, ◌∙◌, ap₂, mod-eq_of_lt, arith}
use Rattle.format.specs.declared.View.{View}
use Rattle.wire.specs.Wire.{whole, entry_size, add32}
use Rattle.wire.proofs.Laws.{entry_none}
use Rattle.parts.specs.declared.Cursor.{Cursor}
use Rattle.parts.specs.Cursor.{entry_of, walked_as}

-- ---- sums

pub add32-small : (a c : ℕ) → a + c < 2 ^ 32 → add32 a c ≡ a + c
unfolding add32
add32-small a c h = mod-eq_of_lt h

-- from -1 or a place e - 1 on
pub add32-back : (a c e : ℕ) → a < 2 ^ 32 → add32 a 1 ≡ e → 1 ≤ c → e + c ≤ 2 ^ 32 → add32 a c ≡ e + c - 1
unfolding add32
add32-back a c e f h k n = omega arith

-- ---- the ranks ahead

-- the next rank
abbrev pub upper : Cursor → ℕ
upper c = add32 c.rank 1

-- the ranks of the positions ls, which stand ahead of c, fit 32 bits
abbrev pub RanksFit : Cursor → List ℕ → Type 0
RanksFit c ls = upper c + length ls < 2 ^ 32

module _ (c : Cursor) (p : ℕ) (ls : List ℕ) (h : RanksFit c (p ∷ ls)) where
  pub upper_next : add32 (upper c) 1 ≡ suc (upper c)
  upper_next = add32-small (upper c) 1 (omega arith) ∙ omega arith

  -- one step further
  pub ranks_rest : add32 (upper c) 1 + length ls < 2 ^ 32
  ranks_rest = rw upper_next (omega arith)

-- ---- an entry by its width

pub entry_1 : (b : List ℕ) (v : View) (r : ℕ) → v.width ≡ 1 → whole 1 (v.second + r) b ≡ entry_of b v r
unfolding entry_of
entry_1 b v r h = let e : 1 * r ≡ r = omega arith in rw (h, e)

pub entry_2 : (b : List ℕ) (v : View) (r : ℕ) → v.width ≡ 2 → whole 2 (v.second + 2 * r) b ≡ entry_of b v r
unfolding entry_of
entry_2 b v r h = rw h

pub entry_other : (b : List ℕ) (v : View) (r : ℕ) → (v.width ≡ 1 → ⊥) → (v.width ≡ 2 → ⊥) → 0 ≡ entry_of b v r
unfolding entry_of
entry_other b v r h k = entry_none v.width (v.second + entry_size v.width * r) b h k

-- ---- a relation of a cursor and the positions ahead of it, kept by each step: the cursor stands at these positions

module _ (f : Cursor → Cursor) (Ahead : Cursor → List ℕ → Type 0)
    (turn : (c : Cursor) (p : ℕ) (ls : List ℕ) → Ahead c (p ∷ ls) → ((f c).at ≡ p) × Ahead (f c) ls) where
  pub kept-walk : (ls : List ℕ) (c : Cursor) → Ahead c ls → walked_as f (f c) (length ls) ≡ ls
  unfolding walked_as
  kept-walk [] c a = refl
  kept-walk (p ∷ ls) c a = let t = turn c p ls a in ap₂ (λ (x : ℕ) (xs : List ℕ). x ∷ xs) t.0 (kept-walk ls (f c) t.1)
