-- A walk from a place on, group by group. Assumes nothing.
use Rattle.std.specs.Prelude.{◌≡◌, ◌+◌, ◌-◌, ◌≤◌, ◌<◌}
use Rattle.std.specs.Option.{ForSome}
use Rattle.differences.specs.Walk.{walked, Within}
use Rattle.differences.proofs.walk.walk.Given as goal

-- A walk from a place on, group by group. Assumes nothing.
-- rank r is reached, below the target
abbrev pub invariant-loop-r : goal.invariant-loop-r
invariant-loop-r l =
    (l.initial.r ≤ l.r)
    × (l.r ≤ l.n)
    × (l.t ≡ walked l.width l.start l.second l.file l.initial.r (l.r - l.initial.r) l.initial.t)
    × Within (l.r + 1) l.t
    × ForSome l.target (λ p. l.initial.r < l.r → l.t.position < p)

abbrev pub decreases-loop-r : goal.decreases-loop-r
decreases-loop-r l = l.n - l.r
