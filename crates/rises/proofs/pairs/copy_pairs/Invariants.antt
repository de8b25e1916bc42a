use Rattle.std.proofs.Common.{◌≡◌, ◌≤◌, length}
use Rattle.rises.specs.Copied.{copied}
use Rattle.rises.proofs.pairs.copy_pairs.Given as goal

abbrev pub invariant-loop-i : goal.invariant-loop-i
invariant-loop-i l = (l.i ≤ l.n) × (length l.dst ≡ length l.initial.dst) × (l.dst ≡ copied l.file l.from l.first l.second l.at l.i l.initial.dst)
