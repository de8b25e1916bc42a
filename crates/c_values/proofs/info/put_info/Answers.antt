-- The header's numbers put out. Assumes nothing.
use Rattle.c_values.proofs.InfoCalls.{numbers_told, told_small, told_given}
use Rattle.c_values.proofs.info.put_info.Goals as goal

-- The header's numbers put out. Assumes nothing.
pub returns-then-dst : goal.returns-then-dst
returns-then-dst c = let a = c.args in told_small a.file.now a.dst.now c.if-dst.true

pub returns : goal.returns
returns c =
    let a = c.args in
    let v = c.read_view-v in
    let d = c.read_dimensions-d in
    told_given a.file.now a.dst.now _ _ (numbers_told a.file.now v.result d.result v.ensures d.ensures) c.if-dst.false
    c.put_numbers.ensures
