use mathlib.Core.Path.{◌∙◌}
use native.Mathlib.Omega.{arith}
use Rattle.checked.proofs.Number.{cells-most, words-above, counts_other, counts_places}
use Rattle.checked.proofs.counts_right.Goals as goal

pub returns-then-v : goal.returns-then-v
returns-then-v c =
    words-above c.args.file.now c.args.v c.requires.1 c.requires.3 c.if-v.true

pub part_bytes-requires : goal.part_bytes-requires
part_bytes-requires c =
    (c.requires.2, cells-most c.args.file.now c.args.v c.requires.1 c.requires.3, omega arith)

pub returns-in_default : goal.returns-in_default
returns-in_default c =
    counts_other c.args.file.now c.args.v c.requires.1 c.requires.3 (rw c.in_default.is at c.part_bytes.ensures)

pub places_right-requires : goal.places_right-requires
places_right-requires c =
    let z = rw c.in-Some.is at c.part_bytes.ensures in
    let m = z.first-most in
    let n = z.second-most in
    (c.requires.0, omega arith, omega arith)

pub returns : goal.returns
returns c =
    let z = rw c.in-Some.is at c.part_bytes.ensures in
    let l = c.if-v.false in
    c.places_right.ensures
    ∙ counts_places c.args.file.now c.args.v c.requires.1 c.requires.3 (omega arith) c.in-Some.parts z
