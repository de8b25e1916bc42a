-- A rank with jump j there. Assumes nothing.
use Prim.Native.Nat.{◌+◌}
use mathlib.Core.Path.{ap}
use native.Mathlib.Omega.{arith}
use Rattle.pointed_jumps.proofs.Found.{first-at}
use Rattle.pointed_jumps.proofs.search.at_jump.Goals.{then-most-rank-via-then-most-rank, then-most-rank-via-else-most-rank+then-rank-j}
use Rattle.pointed_jumps.proofs.search.at_jump.Goals as goal

-- A rank with jump j there. Assumes nothing.
pub returns-then-most-rank : goal.returns-then-most-rank
returns-then-most-rank c =
    let a = c.args in
    let t = c.first_place.ensures in
    first-at a.file.now a.v a.rank a.j a.most _ t.0 t.1 t.2
    (λ x y.
    elim c.then-most-rank.branch [
      | then-most-rank-via-then-most-rank w ↦ let q = w.if-most-rank.true in absurd (omega arith)
      | then-most-rank-via-else-most-rank+then-rank-j w ↦ let q = w.if-rank-j.true in absurd (omega arith)
    ])

pub returns : goal.returns
returns c =
    let a = c.args in
    let m = c.if-most-rank.false in
    let n = c.if-rank-j.false in
    let l = c.load_u32.ensures in
    let f = l.1 in
    record {
      rank = m;
      within = record { position = omega arith; taken = omega arith };
      there = λ x y. ap (λ p. record { rank = a.rank; reached = record { position = p; taken = a.j + 1 } }) l.0;
      first = λ x. absurd (omega arith);
    }
