-- A step from rank to rank. Assumes nothing.
use native.Mathlib.Omega.{arith}
use Rattle.differences.proofs.Walked.{by_difference, by_jump}
use Rattle.differences.proofs.walk.advance.Goals as goal

pub returns-then-d-ne0 : goal.returns-then-d-ne0
returns-then-d-ne0 c =
    let a = c.args in
    let w = c.requires.1 in
    let d = c.difference-d.ensures in
    let d1 = d.1 in
    (by_difference _ _ _ a.file.now a.r a.s d.0 c.if-d-ne0.true, record { position = omega arith; taken = omega arith })

pub returns : goal.returns
returns c =
    let a = c.args in
    let w = c.requires.1 in
    let j = c.load_u32-jump.ensures in
    let j1 = j.1 in (
      by_jump _ _ _ a.file.now a.r a.s c.difference-d.ensures.0 c.if-d-ne0.false j.0,
      record { position = omega arith; taken = omega arith },
    )
