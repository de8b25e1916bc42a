-- `file_length` meets its contract. Assumes nothing.
use native.Mathlib.Omega.{arith}
use Rattle.listing.proofs.Lines.{length-file, file-most}
use Rattle.listing.proofs.measure.file_length.Goals as goal

-- `file_length` meets its contract. Assumes nothing.
pub overflow_add-result : goal.overflow_add-result
overflow_add-result c =
    let x = c.line_length.ensures in
    let y = c.ranks_length.ensures in
    omega (arith, length-file c.args.file.now c.args.v c.requires.0, file-most c.args.file.now c.args.v c.requires.0 c.requires.1)

pub returns : goal.returns
returns c =
    let x = c.line_length.ensures in
    let y = c.ranks_length.ensures in
    rw (length-file c.args.file.now c.args.v c.requires.0) (omega arith)
