use Rattle.std.proofs.Common.{◌≤◌}
use Rattle.run_search.specs.Before.{PartsPassed}
use Rattle.run_search.proofs.search.parts_passed.Given as goal

abbrev pub invariant-loop-i : goal.invariant-loop-i
invariant-loop-i g l = (l.count ≤ l.i) × PartsPassed (goal.F-post g l.passes) l.file l.start l.low l.part l.i l.count
