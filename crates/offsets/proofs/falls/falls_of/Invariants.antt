use Rattle.std.proofs.Common.{◌≡◌, ◌+◌, ◌*◌, ◌≤◌, drop}
use Rattle.format.specs.Bytes.{field, numbers_of}
use Rattle.offsets.specs.Falls.{falls_after}
use Rattle.offsets.proofs.falls.falls_of.Given as goal

abbrev pub invariant-loop-i : goal.invariant-loop-i
invariant-loop-i g l =
    let w = g.E.Entry.WIDTH in
    (l.count ≤ 128 * l.i) × (l.count ≡ falls_after (field w l.at l.file) (numbers_of w (128 * l.i) (drop (l.at + w) l.file)))
