use Rattle.std.proofs.Common.{◌≡◌, ◌+◌, ◌≤◌, drop}
use Rattle.format.specs.Bytes.{field, numbers_of}
use Rattle.offsets.specs.Falls.{falls_after}
use Rattle.offsets.proofs.falls.block.Given as goal

abbrev pub invariant-loop-i : goal.invariant-loop-i
invariant-loop-i g l =
    let e = g.E.Entry in
    (e.counted l.count ≤ l.i)
    × (e.counted l.count ≡ falls_after (field e.WIDTH l.at l.file) (numbers_of e.WIDTH l.i (drop (l.at + e.WIDTH) l.file)))
