use Rattle.std.proofs.Common.{◌≡◌, ◌+◌, ◌-◌, ◌*◌, ◌≤◌, leb}
use Rattle.wire.specs.Wire.{whole}
use Rattle.parts.specs.Last.{passing}
use Rattle.offsets.proofs.last.last.Given as goal

abbrev pub invariant-loop-i : goal.invariant-loop-i
invariant-loop-i g l =
    let w = g.E.Entry.WIDTH in
    (l.count ≤ l.i - 1) × (l.count ≡ passing (λ k. leb (whole w (l.second + w * (l.rank + k)) l.file) l.x) (l.i - 1))
