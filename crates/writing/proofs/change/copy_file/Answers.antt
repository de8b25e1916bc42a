use Rattle.writing.proofs.Writing.{copy_small, copy_done}
use Rattle.writing.proofs.change.copy_file.Goals as goal

pub returns-then-dst-file : goal.returns-then-dst-file
returns-then-dst-file c = copy_small c.args.file.now c.args.dst.now c.if-dst-file.true

pub returns : goal.returns
returns c = copy_done c.args.file.now c.args.dst.now _ c.if-dst-file.false c.copy.ensures
