-- Kinds 4 and 6: both have jumps and differences, are walked along alike, and take positions alike. Assumes nothing.
use Prim.Native.Nat.{ℕ}
use mathlib.Core.Path.{◌≡◌, refl, sym, ap, ◌∙◌, subst}
use mathlib.Core.Bool.{true, false}
use mathlib.Core.Logic.{inl, inr, ⊎_elim}
use mathlib.Core.List.{List}
use native.Mathlib.Omega.{arith}
use lib.Dec.{eqb}
use borrow.Author.Tests.{eqb-true}
use Rattle.format.specs.declared.Setting.{Setting}
use Rattle.format.specs.declared.View.{View}
use Rattle.format.specs.Kinds.{codec_of}
use Rattle.format.specs.Accepted.{positions_of}
use Rattle.laws.proofs.Tools.{cases}
use Rattle.parts.specs.declared.Cursor.{Cursor}
use Rattle.parts.specs.declared.Encoder.{Encoder}
use Rattle.parts.specs.declared.walk.Walk.{Walk}
use Rattle.parts.specs.Holds.{Holds, ViewOf}
use Rattle.parts.specs.Cursor.{walked_as}
use Rattle.parts.specs.Batch.{Along, RoomAll}
use Rattle.parts.specs.Carried.{carried, PutAs, Reached}
use Rattle.parts.proofs.Seen.{seen}
use Rattle.parts.proofs.Alike.{Alike, alike-back, room-alike, put_as_alike, carried-alike}
use Rattle.jump_walk.specs.Held.{SomeHeld}
use Rattle.jump_walk.specs.Steps.{next}
use Rattle.jump_entries.specs.Coding.{jumps_coder}
use Rattle.jumps.specs.Coding as jumps-spec
use Rattle.jumps.proofs.Held as jumps
use Rattle.pointed_jumps.proofs.Held as pointed
use Rattle.pointed_jumps.proofs.Made as pointed-coder
use Rattle.kinds.specs.Steps.{by_walk, next_by, next_of}
use Rattle.kinds.specs.Coding.{coder_of, coder}
use Rattle.kinds.specs.Copying.{has_jumps, copies_jumps, copies_to}
use Rattle.kinds.proofs.None.{never}

-- a kind that is sought by a walk
pub walked_kind : (k : ℕ) → by_walk k ≡ true → has_jumps k
walked_kind k h = cases (eqb k 4) (λ e. inl (eqb-true k 4 e)) (λ e. inr (eqb-true k 6 (rw e at h)))

-- one that is not
pub not-walked : (k : ℕ) → by_walk k ≡ false → (k ≡ 4 → ⊥) × (k ≡ 6 → ⊥)
not-walked k h = (λ e. never (sym (rw e at h)), λ e. never (sym (rw e at h)))

-- an accepted file holds its positions as jumps and differences
pub some_held : (b : List ℕ) (v : View) → ViewOf b v → has_jumps v.kind → SomeHeld b v
some_held b v a h =
    let z = (seen b v a).holds in
    ⊎_elim
    (λ e. (positions_of b, jumps.held b v (positions_of b) (subst (λ (n : ℕ). Holds (codec_of n v.width v.step) b v (positions_of b)) e z)))
    (λ e. (positions_of b, (pointed.pointed b v (positions_of b) (subst (λ (n : ℕ). Holds (codec_of n v.width v.step) b v (positions_of b)) e z)).held))
    h

-- the step is jump_walk's
pub jumps-step : (b : List ℕ) (v : View) → has_jumps v.kind → next_of b v ≡ next b v
unfolding next_of
jumps-step b v h = ⊎_elim (λ e. ap (λ (n : ℕ). next_by n b v) e) (λ e. ap (λ (n : ℕ). next_by n b v) e) h

-- the coder takes positions as jump_entries' does
coder-4 : (w l : ℕ) → Alike (jumps_coder w) (coder_of 4 w l)
unfolding jumps-spec.coder
coder-4 w l = record { first = λ e p. refl; second = λ e p. refl; inside = λ e p. refl; end_first = λ e. refl; end_second = λ e. refl }

pub jumps-coder : (s : Setting) → has_jumps s.kind → Alike (jumps_coder s.width) (coder s)
unfolding coder
jumps-coder s h =
    ⊎_elim
    (λ e. subst (λ (k : ℕ). Alike (jumps_coder s.width) (coder_of k s.width s.step)) (sym e) (coder-4 s.width s.step))
    (λ e. subst (λ (k : ℕ). Alike (jumps_coder s.width) (coder_of k s.width s.step)) (sym e) (pointed-coder.alike s.width s.step))
    h

-- ---- ranks copied

-- as runs, to the same kind
pub copies_runs : (v : View) (s : Setting) → copies_to v s → (k : ℕ) → v.kind ≡ k → (has_jumps k → ⊥) → s.kind ≡ k
copies_runs v s t k e n = ⊎_elim (λ r. r.1 ∙ e) (λ j. absurd (n (subst has_jumps e j.0))) t

-- as jumps and differences
pub copies_others : (v : View) (s : Setting) → copies_to v s → (v.kind ≡ 1 → ⊥) → (v.kind ≡ 5 → ⊥) → copies_jumps v s
copies_others v s t f g = ⊎_elim (λ r. absurd (⊎_elim f g r.0)) (λ j. j) t

pub one_no_jumps : has_jumps 1 → ⊥
one_no_jumps h = ⊎_elim (λ e. omega arith) (λ e. omega arith) h

pub five_no_jumps : has_jumps 5 → ⊥
five_no_jumps h = ⊎_elim (λ e. omega arith) (λ e. omega arith) h

module _ (b : List ℕ) (v : View) (s : Setting) (t : copies_jumps v s) (c : Cursor) (e : Encoder) (n : ℕ) where
  -- what the copying asks
  pub asks_reached : Reached (next_of b v) v.words c n → Reached (next b v) v.words c n
  asks_reached h = subst (λ (f : Cursor → Cursor). Reached f v.words c n) (jumps-step b v t.0) h

  pub asks_along : Along e (walked_as (next_of b v) c n) → Along e (walked_as (next b v) c n)
  asks_along h = subst (λ (f : Cursor → Cursor). Along e (walked_as f c n)) (jumps-step b v t.0) h

  its_coder : Alike (coder s) (jumps_coder v.width)
  its_coder = subst (λ (w : ℕ). Alike (coder s) (jumps_coder w)) t.2 (alike-back (jumps_coder s.width) (coder s) (jumps-coder s t.1))

  pub asks_room : (m : ℕ) → RoomAll (coder s) e (walked_as (next_of b v) c n) m → RoomAll (jumps_coder v.width) e (walked_as (next b v) c n) m
  asks_room m h =
      room-alike (coder s) (jumps_coder v.width) its_coder e (walked_as (next b v) c n) m
      (subst (λ (f : Cursor → Cursor). RoomAll (coder s) e (walked_as f c n) m) (jumps-step b v t.0) h)

  -- what it gives
  pub gives_walk : (w : Walk) → w ≡ carried (next b v) (jumps_coder v.width) c e n → w ≡ carried (next_of b v) (coder s) c e n
  gives_walk w h =
      h
      ∙ sym (carried-alike (coder s) (jumps_coder v.width) its_coder (next b v) c e n)
      ∙ ap (λ (f : Cursor → Cursor). carried f (coder s) c e n) (sym (jumps-step b v t.0))

  pub gives_put : (d : List ℕ) (w : Walk) (out : List ℕ) → PutAs (next b v) (jumps_coder v.width) c e n d w out → PutAs (next_of b v) (coder s) c e n d w out
  gives_put d w out h =
      subst (λ (f : Cursor → Cursor). PutAs f (coder s) c e n d w out) (sym (jumps-step b v t.0))
      (put_as_alike (jumps_coder v.width) (coder s) (alike-back (coder s) (jumps_coder v.width) its_coder) (next b v) c e n d w out h)
