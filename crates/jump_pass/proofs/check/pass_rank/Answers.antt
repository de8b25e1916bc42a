-- A pass over one rank. Assumes nothing.
use native.Mathlib.Omega.{arith}
use Rattle.jump_pass.proofs.Turns.{reach_most}
use Rattle.jump_pass.proofs.Groups.{goes_difference, stops_none, stops_near, goes_jump}
use Rattle.jump_pass.proofs.check.pass_rank.Goals as goal

pub returns-then-d-ne0 : goal.returns-then-d-ne0
returns-then-d-ne0 c = let d = c.difference-d.ensures in goes_difference c.requires.0 d.0 c.if-d-ne0.true d.1

pub returns-then-s-eq0 : goal.returns-then-s-eq0
returns-then-s-eq0 c = stops_none c.requires.0 c.difference-d.ensures.0 c.if-d-ne0.false c.if-s-eq0.true

pub returns-then-jump-s : goal.returns-then-jump-s
returns-then-jump-s c =
    stops_near c.requires.0 c.difference-d.ensures.0 c.if-d-ne0.false c.if-s-eq0.false c.get_u32-jump.ensures.0 c.if-jump-s.true

pub overflow_add-result-2 : goal.overflow_add-result-2
overflow_add-result-2 c =
    let m = reach_most c.requires.1 c.requires.0.wide in
    let j = c.get_u32-jump.ensures.1 in
    record { fits = omega arith }

pub returns : goal.returns
returns c =
    let j = c.get_u32-jump.ensures in
    goes_jump c.requires.0 c.difference-d.ensures.0 c.if-d-ne0.false c.if-s-eq0.false j.0 c.requires.1 j.1 c.if-jump-s.false
