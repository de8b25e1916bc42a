use Prim.Native.Nat.{◌-◌}
use mathlib.Core.Path.{◌≡◌}
use Rattle.kinds.specs.Steps.{stepped_by}
use Rattle.rewrite.proofs.walk.skip.Given as goal

abbrev pub invariant-loop : goal.invariant-loop
invariant-loop l = stepped_by l.file l.v l.c (l.n - l.counter) ≡ stepped_by l.file l.v l.initial.c l.n
