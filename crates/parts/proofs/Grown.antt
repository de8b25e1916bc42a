-- A stretch of consecutive positions: after its first position the rest only lengthen the run, and add no bytes. Assumes nothing.
use Rattle.std.proofs.Common.{◌≡◌, ℕ, zero, suc, ◌+◌, ◌-◌, ◌<◌, ◌≤◌, false, not, List, [], sym, refl, ap, ◌∙◌, append-nil, add-zero, arith, eq-eqb}
use Rattle.format.specs.Tools.{range}
use Rattle.parts.specs.declared.Encoder.{Encoder}
use Rattle.parts.specs.Encoder.{Coder, run_ends, taken_by, taken_all_by}
use Rattle.parts.specs.Ready.{passed, Sound, Room, moved, put_by}
use Rattle.parts.specs.Batch.{added_first_by, added_second_by, put_all_by, RoomAll, grown}
use Rattle.parts.proofs.Taking.{ends_later}
use Rattle.parts.proofs.Taken.{room_head}

-- a kind where a position adds nothing unless a run ends before it
pub record Lengthens (k : Coder) : Type 0 where
  pub first : (e : Encoder) (p : ℕ) → run_ends e p ≡ false → k.first e p ≡ []
  pub second : (e : Encoder) (p : ℕ) → run_ends e p ≡ false → k.second e p ≡ []
  pub on : (e : Encoder) (p : ℕ) → run_ends e p ≡ false → moved e p e.first e.second ≡ taken_by k e p

-- ---- the cells after the last of a run

on_ends : (e : Encoder) (p : ℕ) → 1 ≤ e.rank → p ≡ e.last + 1 → run_ends e p ≡ false
on_ends e p r h = sym (ends_later e p (λ z. omega arith)) ∙ ap not (eq-eqb p (e.last + 1) h)

grown-none : (e : Encoder) → e ≡ grown e 0
unfolding grown
grown-none e = rw (add-zero e.rank, add-zero e.last)

grown_more : (e : Encoder) (p m : ℕ) → p ≡ e.last + 1 → grown (moved e p e.first e.second) m ≡ grown e (suc m)
unfolding grown moved
grown_more e p m h =
    let r : e.rank + 1 + m ≡ e.rank + suc m = omega arith in
    let l : p + m ≡ e.last + suc m = omega arith in
    rw (r, l)

module _ (k : Coder) (s : Lengthens k) where
  taken_on : (e : Encoder) (p m : ℕ) → 1 ≤ e.rank → p ≡ e.last + 1 → taken_all_by k e (range p m) ≡ grown e m
  unfolding taken_all_by range
  taken_on e p zero r h = grown-none e
  taken_on e p (suc m) r h =
      let t = s.on e p (on_ends e p r h) in
      let u = taken_on (moved e p e.first e.second) (suc p) m (unfold moved in omega arith) (unfold moved in omega arith) in
      ap (λ (x : Encoder). taken_all_by k x (range (suc p) m)) (sym t) ∙ u ∙ grown_more e p m h

  first_on : (e : Encoder) (p m : ℕ) → 1 ≤ e.rank → p ≡ e.last + 1 → added_first_by k e (range p m) ≡ []
  unfolding added_first_by range
  first_on e p zero r h = refl
  first_on e p (suc m) r h =
      let z = on_ends e p r h in
      rw (s.first e p z)
      (first_on (taken_by k e p) (suc p) m (unfold taken_by in omega arith) (unfold taken_by in omega arith))

  second_on : (e : Encoder) (p m : ℕ) → 1 ≤ e.rank → p ≡ e.last + 1 → added_second_by k e (range p m) ≡ []
  unfolding added_second_by range
  second_on e p zero r h = refl
  second_on e p (suc m) r h =
      let z = on_ends e p r h in
      rw (s.second e p z)
      (second_on (taken_by k e p) (suc p) m (unfold taken_by in omega arith) (unfold taken_by in omega arith))

  -- ---- a stretch of n positions from p on

  module _ (e : Encoder) (p n m : ℕ) (h : n ≡ suc m) where
    pub taken-range : grown (taken_by k e p) m ≡ taken_all_by k e (range p n)
    unfolding taken_all_by range
    taken-range = rw h (sym (taken_on (taken_by k e p) (suc p) m (unfold taken_by in omega arith) (unfold taken_by in omega arith)))

    pub put-range : (d : List ℕ) → put_by k d e p ≡ put_all_by k d e (range p n)
    unfolding put_by put_all_by added_first_by added_second_by range
    put-range d =
        let f = first_on (taken_by k e p) (suc p) m (unfold taken_by in omega arith) (unfold taken_by in omega arith) in
        let g = second_on (taken_by k e p) (suc p) m (unfold taken_by in omega arith) (unfold taken_by in omega arith) in
        rw (h, f, g, append-nil (k.first e p), append-nil (k.second e p))

-- ---- for the code

module _ (k : Coder) (e : Encoder) (p n : ℕ) (l : 1 ≤ n) where
  pub grow_fits : Sound e → passed e ≤ p → p + n ≤ 16777216
      → ((taken_by k e p).rank + (n - 1) < 4294967296) × ((taken_by k e p).last + (n - 1) < 4294967296)
  unfolding taken_by
  grow_fits s a b = let m = s.empty-most in (omega arith, omega arith)

  pub grown-range : Lengthens k → {t r : Encoder} → t ≡ taken_by k e p → r ≡ grown t (n - 1) → r ≡ taken_all_by k e (range p n)
  grown-range s q h = h ∙ ap (λ (x : Encoder). grown x (n - 1)) q ∙ taken-range k s e p n (n - 1) (omega arith)

  pub room-range : (z : ℕ) → RoomAll k e (range p n) z → Room k e p z
  unfolding range
  room-range z r = let h : n ≡ suc (n - 1) = omega arith in room_head k e p (range (suc p) (n - 1)) z (rw h at r)
