use Prim.Native.Nat.{ℕ, ◌+◌, ◌-◌}
use mathlib.Core.Path.{ap, ◌∙◌}
use native.Mathlib.Omega.{arith}
use Rattle.recode.proofs.RunSizes.{count_added}
use Rattle.recode.proofs.counted.ranks_after.Goals as goal

pub returns : goal.returns
returns c =
    let a = c.args in
    let h = c.requires in
    let n = count_added a.x.added _ c.is_some.ensures in
    let f = c.from.ensures in
    (ap (λ (y : ℕ). a.x.before + (a.v.words - a.x.after) + y) (f ∙ n.0), let m = n.1 in omega arith)
