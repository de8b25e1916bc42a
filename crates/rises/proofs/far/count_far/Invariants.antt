use Rattle.std.proofs.Common.{◌≡◌, ◌+◌, ◌-◌, ◌≤◌, length, drop}
use Rattle.std.specs.Slice.Iter.{windows_size, windows_rest}
use Rattle.rises.specs.Far.{far}
use Rattle.rises.proofs.far.count_far.Given as goal

abbrev pub invariant-loop-w : goal.invariant-loop-w
invariant-loop-w l =
    let rest = windows_rest l.w-iterator in
    let i = length l.ps - length rest in
    (windows_size l.w-iterator ≡ 2) × (length rest ≤ length l.ps) × (rest ≡ drop i l.ps) × (l.count ≤ i) × (l.count + far l.most rest ≡ far l.most l.ps)
