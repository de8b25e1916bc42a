-- A pointer for each step-th jump. Assumes nothing.
use Prim.Native.Nat.{ℕ, suc, ◌+◌, ◌*◌, ◌/◌, ◌%◌, ◌≤◌, ◌<◌, min}
use mathlib.Core.Path.{◌≡◌, ◌∙◌}
use native.Mathlib.Nat.{mul-le-mul_right, suc-mul}
use native.Mathlib.Omega.{arith}
use lib.Dec.{ltb}
use borrow.Author.Tests.{ltb-true, ltb-false}
use Rattle.std.proofs.lemmas.Grind.{div_ceil_times}
use Rattle.format.specs.Tools.{up_to}
use Rattle.laws.proofs.Tools.{cases}
use Rattle.laws.proofs.Bounds.{up_to_le, index_inside, inside_index}
use Rattle.pointed_jumps.proofs.pointers.pointer_count.Goals as goal

-- rounded up in both ways of writing it
ceil_up_to : (a n : ℕ) → 1 ≤ n → a / n + min 1 (a % n) ≡ up_to a n
ceil_up_to a n h = go (a / n + min 1 (a % n)) (up_to a n) (div_ceil_times a n h) (index_inside n a (a / n + min 1 (a % n)) h) (inside_index n a (up_to a n) h)
  where
    go : (r u : ℕ) → (a ≤ r * n) × (r * n < a + n) → (r < u → r * n < a) → (u * n < a → u < u) → r ≡ u
    go r u t below above =
        let l = t.0 in
        let m = t.1 in
        cases (ltb r u)
        (λ e. let x = below (ltb-true r u e) in absurd (omega arith))
        (λ e.
        let p = ltb-false r u e in
        cases (ltb u r)
        (λ f. let q : suc u ≤ r = ltb-true u r f in let x : suc u * n ≤ r * n = mul-le-mul_right n q in let y = suc-mul u n in let z = above (omega arith) in absurd (omega arith))
        (λ f. let q = ltb-false u r f in omega arith))

pub returns : goal.returns
returns c =
    let e = c.div_ceil.ensures ∙ ceil_up_to c.args.jumps c.args.step c.requires in
    (e, rw e (up_to_le c.args.jumps c.args.step c.requires))
