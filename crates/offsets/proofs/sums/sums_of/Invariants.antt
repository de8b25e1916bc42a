use Rattle.std.proofs.Common.{◌≡◌, ◌++◌, length, take, drop}
use Rattle.format.specs.Bytes.{numbers_of}
use Rattle.offsets.specs.Sums.{sums}
use Rattle.offsets.proofs.Summing.{sums-left}
use Rattle.offsets.proofs.sums.sums_of.Given as goal

abbrev pub invariant-loop-i : goal.invariant-loop-i
invariant-loop-i g l =
    let w = g.E.Entry.WIDTH in
    let n = length l.initial.out in
    (length l.out ≡ n) × (take l.i l.out ++ sums-left w l.base l.at l.file n l.i ≡ sums l.base (numbers_of w n (drop l.at l.file)))
