use Rattle.std.proofs.Common.{◌≡◌, ◌+◌, ◌≤◌, length}
use Rattle.rises.specs.Far.{ends_of}
use Rattle.rises.proofs.Ends.{ends_listed}
use Rattle.rises.proofs.far.list_ends.Given as goal

abbrev pub invariant-loop-i : goal.invariant-loop-i
invariant-loop-i l =
    (1 ≤ l.i) × (l.i ≤ length l.ps + 1) × (l.listed + 1 ≤ l.i) × (length l.out ≡ length l.initial.out) × (ends_listed l.ps l.out l.listed l.i ≡ ends_of l.ps)
