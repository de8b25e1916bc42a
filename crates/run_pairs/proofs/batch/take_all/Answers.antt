-- `run_pairs::batch::take_all` meets its contract. Assumes nothing.
use mathlib.Core.Path.{◌∙◌}
use native.Mathlib.Omega.{arith}
use Rattle.laws.proofs.Stored.{rising_weaken, rising-length}
use Rattle.parts.specs.Ready.{passed}
use Rattle.parts.proofs.Taken.{measure_begin, measure_next, measure_end}
use Rattle.run_pairs.specs.Coding.{runs_coder}
use Rattle.run_pairs.proofs.Further.{taken-far, further-fits}
use Rattle.run_pairs.proofs.batch.take_all.Goals as goal

-- `run_pairs::batch::take_all` meets its contract. Assumes nothing.
pub returns-then-n-eq0 : goal.returns-then-n-eq0
returns-then-n-eq0 c =
    let z = c.if-n-eq0.true in
    measure_end runs_coder c.args.ps.now c.args.e c.args.e 0 (omega arith) (measure_begin runs_coder c.args.ps.now c.args.e c.requires)

pub count_far-ends-requires : goal.count_far-ends-requires
count_far-ends-requires c =
    rising_weaken 0 (passed c.args.e) 16777216 c.args.ps.now (omega arith) c.requires.rising

pub take_one-requires : goal.take_one-requires
take_one-requires c =
    let z = c.if-n-eq0.false in
    measure_next runs_coder c.args.ps.now c.args.e c.args.e 0 (omega arith) (measure_begin runs_coder c.args.ps.now c.args.e c.requires)

pub overflow_cast-n : goal.overflow_cast-n
overflow_cast-n c =
    let n = rising-length (passed c.args.e) 16777216 c.args.ps.now c.requires.sound.passed-most c.requires.rising in
    record { fits = omega arith }

pub further-requires : goal.further-requires
further-requires c =
    let o = c.take_one in
    let n = c.count_far-ends.ensures.1 in
    let f = further-fits c.args.e c.args.ps.now c.if-n-eq0.false c.requires o.result o.ensures in
    (f.0, f.1, omega arith)

pub returns : goal.returns
returns c =
    c.further.ensures
    ∙ taken-far c.args.e c.args.ps.now c.if-n-eq0.false c.requires _ c.take_one.ensures _
    c.count_far-ends.ensures.0
