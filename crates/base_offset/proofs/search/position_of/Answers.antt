use Prim.Native.Nat.{ℕ, ◌+◌, ◌/◌, ◌≤◌}
use mathlib.Core.Path.{ap₂}
use native.Mathlib.Nat.{div-le_self}
use native.Mathlib.Omega.{arith}
use Rattle.base_offset.proofs.Searched.{position-sum, position-forged}
use Rattle.base_offset.proofs.search.position_of.Goals.{Start}
use Rattle.base_offset.proofs.search.position_of.Goals as goal

index-low : (c : Start) → c.args.r.0 / c.args.v.step ≤ c.args.r.0
index-low c = div-le_self c.args.r.0 c.args.v.step

pub returns : goal.returns
returns c = position-sum _ _ _ _ (ap₂ (λ (x y : ℕ). x + y) c.load_u32-base.ensures.0 c.entry_of.ensures)

pub returns-then-v-eq0 : goal.returns-then-v-eq0
returns-then-v-eq0 c = position-forged _ _ _ _ c.if-v-eq0.true

pub overflow_cast-j : goal.overflow_cast-j
overflow_cast-j c = let d = index-low (goal.at.overflow_cast-j c).Start in omega arith

pub overflow_mul-j : goal.overflow_mul-j
overflow_mul-j c = let d = index-low (goal.at.overflow_mul-j c).Start in omega arith

pub overflow_add-v : goal.overflow_add-v
overflow_add-v c = let d = index-low (goal.at.overflow_add-v c).Start in omega arith
