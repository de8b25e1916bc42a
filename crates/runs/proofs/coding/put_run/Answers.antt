-- `runs::coding::put_run` meets its contract. Assumes nothing.
use Rattle.std.proofs.Common.{◌-◌, length, ◌∙◌, arith}
use Rattle.parts.proofs.Grown.{grow_fits, grown-range, room-range, put-range}
use Rattle.run_pairs.specs.Coding.{runs_coder}
use Rattle.run_pairs.proofs.Adds.{lengthens}
use Rattle.runs.proofs.coding.put_run.Goals as goal

-- `runs::coding::put_run` meets its contract. Assumes nothing.
pub put_one-requires : goal.put_one-requires
put_one-requires c =
    let a = c.args in (
      record { sound = c.requires.2; above = c.requires.3; below = omega arith },
      room-range runs_coder a.e a.p a.n c.requires.1 (length a.dst.now) c.requires.5,
    )

pub grow-requires : goal.grow-requires
grow-requires c =
    let a = c.args in
    rw c.put_one.ensures.0 (grow_fits runs_coder a.e a.p a.n c.requires.1 c.requires.2 c.requires.3 c.requires.4)

pub returns : goal.returns
returns c =
    let a = c.args in
    let o = c.put_one.ensures in (
      grown-range runs_coder a.e a.p a.n c.requires.1 lengthens o.0 c.grow.ensures,
      o.1 ∙ put-range runs_coder lengthens a.e a.p a.n (a.n - 1) (omega arith) a.dst.now,
    )
