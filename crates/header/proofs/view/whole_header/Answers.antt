use native.Mathlib.Omega.{arith}
use lib.ListN.{length}
use borrow.Author.Tests.{leb-true, leb-false}
use Rattle.format.specs.File.{header_length}
use Rattle.header.proofs.view.whole_header.Goals as goal

pub returns : goal.returns
returns c =
    let n = length c.args.file.now in
    record { there = leb-true header_length n; short = λ e w. let z = leb-false header_length n e in omega arith }
