-- `run_pairs::batch::put_ends` meets its contract. Assumes nothing.
use Prim.Native.Nat.{ℕ}
use mathlib.Core.Path.{◌≡◌, sym, ap, ◌∙◌}
use mathlib.Core.List.{List}
use native.Mathlib.Omega.{arith}
use lib.ListN.{length, take}
use lib.Seq.{length-take-le}
use Rattle.laws.proofs.Stored.{rising_weaken}
use Rattle.stores.specs.Put.{put}
use Rattle.rises.proofs.Ends.{length-ends}
use Rattle.run_pairs.specs.Coding.{end_pairs}
use Rattle.run_pairs.proofs.Ends.{below-ends}
use Rattle.run_pairs.proofs.batch.put_ends.Goals.{After-list_ends-n}
use Rattle.run_pairs.proofs.batch.put_ends.Goals as goal

-- `run_pairs::batch::put_ends` meets its contract. Assumes nothing.
pub list_ends-n-requires : goal.list_ends-n-requires
list_ends-n-requires c =
    (rising_weaken 0 c.args.rank 16777216 c.args.ps.now (omega arith) c.requires.2, c.requires.1)

-- the ends fill as many elements of the array as were listed
listed : (c : After-list_ends-n) → length (take c.list_ends-n.result c.list_ends-n.new.out) ≡ c.list_ends-n.result
listed c =
    let p = c.requires.1 in
    let e = c.list_ends-n.ensures in
    let n : length c.list_ends-n.new.out ≡ 1024 = e.2 in
    length-take-le _ c.list_ends-n.new.out (omega (arith, e.1))

pub put_pairs-requires : goal.put_pairs-requires
put_pairs-requires c =
    let f = c.list_ends-n.ensures.0 in
    rw f (c.requires.0, c.requires.2, below-ends c.args.ps.now, c.requires.3)

pub returns : goal.returns
returns c =
    let o = c.list_ends-n in
    let f = o.ensures.0 in
    let k = o.ensures.1 in
    let p = c.requires.1 in (
      sym (listed (goal.at.returns c).After-list_ends-n) ∙ ap length f ∙ length-ends c.args.ps.now,
      omega arith,
      c.put_pairs.ensures ∙ ap (λ (x : List ℕ). put c.args.dst.now c.args.at (end_pairs c.args.rank c.args.ps.now x)) f,
    )

pub slice_bounds-put_pairs-end : goal.slice_bounds-put_pairs-end
slice_bounds-put_pairs-end c = sym (listed (goal.at.slice_bounds-put_pairs-end c).After-list_ends-n)
