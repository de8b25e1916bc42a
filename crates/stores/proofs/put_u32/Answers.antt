use Rattle.stores.proofs.Laws.{put_4}
use native.Mathlib.Omega.{arith}
use lib.ListN.{length-set}
use Rattle.stores.proofs.put_u32.Goals as goal

pub bounds-dst-at-2 : goal.bounds-dst-at-2
bounds-dst-at-2 c = simp length-set (omega arith)

pub bounds-dst-at-3 : goal.bounds-dst-at-3
bounds-dst-at-3 c = simp length-set (omega arith)

pub bounds-dst-at-4 : goal.bounds-dst-at-4
bounds-dst-at-4 c = simp length-set (omega arith)

pub returns : goal.returns
returns c = put_4 _ _ _
