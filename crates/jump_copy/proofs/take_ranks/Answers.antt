use mathlib.Core.Path.{sym}
use native.Mathlib.Nat.{pos_of_ne-zero}
use native.Mathlib.Omega.{arith}
use Rattle.parts.proofs.Carried.{end_whole}
use Rattle.jump_walk.specs.Steps.{next}
use Rattle.jump_entries.specs.Coding.{jumps_coder}
use Rattle.jump_copy.proofs.Copies.{first-along, jumps-least, encoder_fits, taken-ranks}
use Rattle.jump_copy.proofs.take_ranks.Goals as goal

pub returns-then-n-eq0 : goal.returns-then-n-eq0
returns-then-n-eq0 c =
    let a = c.args in
    let z = c.if-n-eq0.true in
    sym (end_whole (next a.file.now a.v) (jumps_coder a.v.width) a.c a.e a.n (omega arith))

pub take_all-at-requires : goal.take_all-at-requires
take_all-at-requires c =
    let a = c.args in
    let l = c.requires.0.1.laid in
    (l.narrow, l.wide, first-along a.file.now a.v c.requires.0.0 c.requires.0.1 a.c a.n c.requires.1 (pos_of_ne-zero c.if-n-eq0.false) a.e c.requires.2)

pub overflow_sub-n : goal.overflow_sub-n
overflow_sub-n c = pos_of_ne-zero c.if-n-eq0.false

pub ranks_on-last-requires : goal.ranks_on-last-requires
ranks_on-last-requires c =
    let z = pos_of_ne-zero c.if-n-eq0.false in
    let m = c.requires.1.most in
    (c.requires.0, record { rank = c.requires.1.rank; steps = c.requires.1.steps; most = omega arith })

pub overflow_sub-n-2 : goal.overflow_sub-n-2
overflow_sub-n-2 c = pos_of_ne-zero c.if-n-eq0.false

pub overflow_sub-last : goal.overflow_sub-last
overflow_sub-last c =
    let a = c.args in
    jumps-least a.file.now a.v c.requires.0.0 c.requires.0.1 a.c a.n c.requires.1 (pos_of_ne-zero c.if-n-eq0.false) c.ranks_on-last.ensures

pub encoder_on-requires : goal.encoder_on-requires
encoder_on-requires c =
    let a = c.args in
    encoder_fits a.file.now a.v c.requires.0.0 c.requires.0.1 a.c a.n c.requires.1 (pos_of_ne-zero c.if-n-eq0.false) c.ranks_on-last.ensures a.e c.requires.2
    c.take_all-at.ensures

pub returns : goal.returns
returns c =
    let a = c.args in
    taken-ranks a.file.now a.v c.requires.0.0 c.requires.0.1 a.c a.n c.requires.1 (pos_of_ne-zero c.if-n-eq0.false) c.ranks_on-last.ensures a.e c.requires.2
    c.take_all-at.ensures c.encoder_on.ensures c.next.ensures
