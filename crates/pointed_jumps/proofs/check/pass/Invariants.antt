-- One pass that stops at each rank that a pointer names. Assumes nothing.
use Rattle.pointed_jumps.proofs.Come.{Come}
use Rattle.pointed_jumps.proofs.check.pass.Given as goal

abbrev pub invariant-loop-k : goal.invariant-loop-k
invariant-loop-k l = Come l.file l.v l.k l.rank l.s
