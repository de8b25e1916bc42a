use Prim.Native.Nat.{◌+◌, ◌-◌, ◌*◌}
use mathlib.Core.Path.{◌≡◌, ◌∙◌}
use native.Mathlib.Omega.{arith}
use Rattle.lent_parts.proofs.Turns.{below_all, bytes_agree}
use Rattle.lent_parts.proofs.same.same_numbers.Goals as goal

pub returns : goal.returns
returns c =
    let a = c.args in
    let m : a.at + 4 * a.n - a.at ≡ 4 * a.n = omega arith in
    let n : a.to + 4 * a.n - a.to ≡ 4 * a.n = omega arith in
    rw (m, n) at c.eq.ensures
    ∙ bytes_agree a.first.now a.second.now a.at a.to a.n c.requires.0 c.requires.1
    (below_all 256 a.first.now (λ i. let f = c.type_inv.first i in omega arith))
    (below_all 256 a.second.now (λ i. let f = c.type_inv.second i in omega arith))
