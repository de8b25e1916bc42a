use Rattle.std.proofs.Common.{◌≡◌, ◌+◌, ◌*◌, ◌≤◌, leb}
use Rattle.wire.specs.Wire.{whole}
use Rattle.parts.specs.Last.{passing}
use Rattle.parts.proofs.search.at_most.Given as goal

abbrev pub invariant-loop-i : goal.invariant-loop-i
invariant-loop-i l = (l.count ≤ l.i) × (l.count ≡ passing (λ k. leb (whole 4 (l.at + l.stride * k) l.file) l.x) l.i)
