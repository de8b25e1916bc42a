-- `run_pairs::batch::put_all` meets its contract. Assumes nothing.
use mathlib.Core.Path.{◌≡◌, ap, ◌∙◌}
use native.Mathlib.Omega.{arith}
use lib.ListN.{length}
use Rattle.laws.proofs.Stored.{rising_weaken}
use Rattle.parts.specs.Ready.{passed}
use Rattle.parts.proofs.Taken.{write_begin, write-next, write-end}
use Rattle.parts.proofs.Taking.{length-put_by}
use Rattle.run_pairs.specs.Coding.{runs_coder}
use Rattle.run_pairs.proofs.Further.{taken-far, further-fits}
use Rattle.run_pairs.proofs.Ends.{ends-room, put-far}
use Rattle.run_pairs.proofs.batch.put_all.Goals as goal

-- `run_pairs::batch::put_all` meets its contract. Assumes nothing.
-- of no positions
pub returns-then-n-eq0 : goal.returns-then-n-eq0
returns-then-n-eq0 c =
    let z = c.if-n-eq0.true in
    write-end runs_coder c.args.ps.now c.args.e c.args.dst.now c.args.e c.args.dst.now 0 (omega arith)
    (write_begin runs_coder c.args.ps.now c.args.e c.args.dst.now c.requires.0 c.requires.1)

pub put_one-at-requires : goal.put_one-at-requires
put_one-at-requires c =
    let z = c.if-n-eq0.false in
    let n = write-next runs_coder c.args.ps.now c.args.e c.args.dst.now c.args.e c.args.dst.now 0 (omega arith)
    (write_begin runs_coder c.args.ps.now c.args.e c.args.dst.now c.requires.0 c.requires.1) in
    (n.0, n.1)

pub put_ends-ends-requires : goal.put_ends-ends-requires
put_ends-ends-requires c =
    let o = c.put_one-at in
    let z = c.if-n-eq0.false in
    let l = c.if-n-gt-BATCH.false in
    let m = c.requires.0.sound.empty-most in
    let n : length o.new.dst ≡ length c.args.dst.now = ap length o.ensures.1 ∙ length-put_by runs_coder c.args.dst.now c.args.e _ in
    let r = ends-room c.args.e o.result c.args.ps.now (length c.args.dst.now) z c.requires.0 c.requires.1 o.ensures.0 in
    (omega arith, omega arith, rising_weaken c.args.e.rank (passed c.args.e) 16777216 c.args.ps.now (omega arith) c.requires.0.rising, omega arith)

pub further-requires : goal.further-requires
further-requires c =
    let o = c.put_one-at in
    let k = c.put_ends-ends.ensures.1 in
    let f = further-fits c.args.e c.args.ps.now c.if-n-eq0.false c.requires.0 o.result o.ensures.0 in
    (f.0, f.1, omega arith)

pub returns : goal.returns
returns c =
    let o = c.put_one-at in
    let k = c.put_ends-ends.ensures in
    let z = c.if-n-eq0.false in (
      c.further.ensures ∙ taken-far c.args.e c.args.ps.now z c.requires.0 o.result o.ensures.0 _ k.0,
      k.2 ∙ put-far c.args.e o.result c.args.ps.now c.args.dst.now o.new.dst z c.requires.0 c.requires.1 o.ensures.0 o.ensures.1,
    )
