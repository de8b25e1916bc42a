-- The jumps among the differences that stand in a file, counted between two of them. Assumes nothing.
use Prim.Native.Nat.{ℕ, zero, suc, ◌+◌, ◌-◌, ◌*◌, ◌≤◌, ◌<◌}
use mathlib.Core.Path.{◌≡◌, sym, ap, ◌∙◌}
use mathlib.Core.List.{List}
use native.Mathlib.Nat.{add-zero, add-suc, zero-add}
use native.Mathlib.Omega.{arith}
use lib.ListN.{length, get_or}
use lib.Dec.{eqb}
use borrow.Author.Tests.{eqb-true, eqb-false}
use Rattle.format.specs.Bytes.{field}
use Rattle.format.specs.PointedJumps.{jump_ranks_from}
use Rattle.laws.proofs.Tools.{cases}
use Rattle.laws.proofs.Numbers.{numbers-at}
use Rattle.laws.proofs.Pointers.{zeros_below, jump_rank_is, jump_ranks-rise}
use Rattle.parts.specs.Encoder.{if_zero}
use Rattle.parts.proofs.Taking.{if_zero_lem}
use Rattle.parts.proofs.Entries.{Entries}
use Rattle.differences.specs.Walk.{zeros, JumpAfter}
use Rattle.pointed_jumps.proofs.Zeros.{get_or_inside, zeros_more}

-- ---- in a list

-- the rank of jump j
abbrev pub rank_of : List ℕ → ℕ → ℕ
rank_of ds j = get_or (jump_ranks_from 0 ds) j 0

ranks-order : (ds : List ℕ) (i j : ℕ) → i ≤ j → j < length (jump_ranks_from 0 ds) → rank_of ds i ≤ rank_of ds j
ranks-order ds i j h k =
    cases (eqb i j)
    (λ e. let t = ap (rank_of ds) (eqb-true i j e) in omega arith)
    (λ e. let t = jump_ranks-rise ds i j (let n = eqb-false i j e in omega arith) k in omega arith)

-- ---- in a file

module _ (w second : ℕ) (b ds : List ℕ) (e : Entries b w second 0 ds) where
  field_at : (r : ℕ) → r < length ds → field w (second + w * r) b ≡ get_or ds r 1
  field_at r h =
      let z : second + w * 0 ≡ second = omega arith in
      sym (numbers-at w (length ds) second r b h) ∙ ap (λ (l : List ℕ). get_or l r 0) (rw z at e.list) ∙ sym (get_or_inside ds r h)

  -- those after rank r and those up to it
  zeros-after : (r n : ℕ) → r + n < length ds → zeros w second b r n + zeros_below (suc r) ds ≡ zeros_below (suc (r + n)) ds
  unfolding zeros
  zeros-after r zero h = rw (add-zero r) (zero-add (zeros_below (suc r) ds))
  zeros-after r (suc n) h =
      let i = zeros-after r n (omega arith) in
      let s = zeros_more (r + suc n) ds h in
      let f = ap (λ (d : ℕ). if_zero {X = ℕ} d 1 0) (field_at (r + suc n) h) in
      let t = ap (λ (x : ℕ). zeros_below x ds) (add-suc r n) in
      omega arith

  -- from jump i to jump j
  zeros_between : (i j : ℕ) → i ≤ j → j < length (jump_ranks_from 0 ds) → zeros w second b (rank_of ds i) (rank_of ds j - rank_of ds i) ≡ j - i
  zeros_between i j h k =
      let p = jump_rank_is ds i (omega arith) in
      let q = jump_rank_is ds j k in
      let o = ranks-order ds i j h k in
      let s : rank_of ds i + (rank_of ds j - rank_of ds i) ≡ rank_of ds j = omega arith in
      let t = rw s at (zeros-after (rank_of ds i) (rank_of ds j - rank_of ds i) (let l = q.0 in omega arith)) in
      let a = zeros_more (rank_of ds i) ds p.0 in
      let c = zeros_more (rank_of ds j) ds q.0 in
      let x = if_zero_lem {X = ℕ} (get_or ds (rank_of ds i) 1) 1 0 p.1 in
      let y = if_zero_lem {X = ℕ} (get_or ds (rank_of ds j) 1) 1 0 q.1 in
      let u = p.2 in
      let v = q.2 in
      omega arith

  -- the search from jump i over as many jumps as lie between leads to jump j
  pub jump_found : (i j last t : ℕ) → i ≤ j → j < length (jump_ranks_from 0 ds) → rank_of ds j ≤ last → JumpAfter w second b (rank_of ds i) (j - i) last t → t ≡ rank_of ds j
  jump_found i j last t h k m f =
      let q = jump_rank_is ds j k in
      f.found (rank_of ds j) (ranks-order ds i j h k) m (zeros_between i j h k) (λ z. field_at (rank_of ds j) q.0 ∙ q.1)
