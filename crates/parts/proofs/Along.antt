-- Steps along the cells of a run, all at once, for any step that goes along a run. Assumes nothing.
use Rattle.std.proofs.Common.{◌≡◌, ℕ, zero, suc, ◌+◌, ◌-◌, ◌^◌, ◌<◌, ◌≤◌, List, ◌∷◌, sym, refl, ap, ◌∙◌, add-one, arith}
use Rattle.format.specs.Tools.{range}
use Rattle.parts.specs.declared.Cursor.{Cursor}
use Rattle.wire.specs.Wire.{add32}
use Rattle.parts.specs.Cursor.{along_run, along_by, walked_as, stepped_as}
use Rattle.parts.specs.Walks.{GoesAlong}
use Rattle.parts.proofs.Batches.{stepped_as_add}

add32-one : (a m : ℕ) → add32 (add32 a 1) m ≡ add32 a (suc m)
unfolding add32
add32-one a m = omega arith

add32_in : (a m : ℕ) → add32 (a + 1) m ≡ add32 a (suc m)
unfolding add32
add32_in a m = omega arith

add32-none : (a : ℕ) → a < 2 ^ 32 → add32 a 0 ≡ a
unfolding add32
add32-none a h = omega arith

along-none : (c : Cursor) → c.rank < 2 ^ 32 → c.at < 2 ^ 32 → c ≡ along_by 0 c
unfolding along_by
along-none c r a = rw (add32-none c.rank r, add32-none c.at a)

along_more : (c : Cursor) (m : ℕ) → along_by m (along_run c) ≡ along_by (suc m) c
unfolding along_by along_run
along_more c m = rw (add32-one c.rank m, add32_in c.at m)

module _ (f : Cursor → Cursor) (same : GoesAlong f) where
  pub stepped-along : (m : ℕ) (c : Cursor) → c.rank < 2 ^ 32 → c.at + m < 2 ^ 32 → m ≤ c.last - c.at → stepped_as f c m ≡ along_by m c
  unfolding stepped_as
  stepped-along zero c r a h = along-none c r (omega arith)
  stepped-along (suc m) c r a h =
      let z : add32 c.rank 1 < 2 ^ 32 = unfold add32 in omega arith in
      let u = stepped-along m (along_run c) (unfold along_run in z) (unfold along_run in omega arith) (unfold along_run in omega arith) in
      rw (same c (omega arith)) (u ∙ along_more c m)

  pub walked-along : (m : ℕ) (c : Cursor) → m ≤ c.last - c.at → walked_as f c (suc m) ≡ range c.at (suc m)
  unfolding walked_as range along_run
  walked-along zero c h = refl
  walked-along (suc m) c h =
      ap (λ (l : List ℕ). c.at ∷ l) (rw (same c (omega arith)) (walked-along m (along_run c) (omega arith) ∙ rw (add-one c.at)))

  -- m cells along the run, then one step
  pub past-along : (m : ℕ) (c : Cursor) → c.rank < 2 ^ 32 → c.at + m < 2 ^ 32 → m ≤ c.last - c.at → f (along_by m c) ≡ stepped_as f c (m + 1)
  past-along m c r a h =
      let o : stepped_as f (stepped_as f c m) 1 ≡ f (stepped_as f c m) = unfold stepped_as in refl in
      sym (ap f (stepped-along m c r a h)) ∙ sym o ∙ sym (stepped_as_add f c m 1)

pub stretch_inside : (n at last : ℕ) → (1 < n → at + n ≤ last + 1) → n - 1 ≤ last - at
stretch_inside zero at last h = omega arith
stretch_inside (suc zero) at last h = omega arith
stretch_inside (suc (suc m)) at last h = let q = h (omega arith) in omega arith
