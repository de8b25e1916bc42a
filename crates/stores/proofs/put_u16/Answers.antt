use Rattle.stores.proofs.Laws.{put_2}
use native.Mathlib.Omega.{arith}
use lib.ListN.{length-set}
use Rattle.stores.proofs.put_u16.Goals as goal

pub bounds-dst-at-2 : goal.bounds-dst-at-2
bounds-dst-at-2 c = simp length-set (omega arith)

pub returns : goal.returns
returns c = put_2 _ _ _
