use native.Mathlib.Omega.{arith}
use lib.ListN.{length}
use Rattle.format.specs.Stored.{stored}
use Rattle.laws.proofs.Stored.{rising, rising-length}
use Rattle.laws.proofs.Bounds.{length_runs}
use Rattle.layout.proofs.Measuring.{counts_measure}
use Rattle.picture.proofs.measure_counted.Goals as goal

pub by_counts-requires : goal.by_counts-requires
by_counts-requires c =
    let a = c.args in
    let p = c.requires in
    let n = c.count_cells-n.ensures in
    let few = rising-length 0 (length a.words.now) (stored a.empty a.words.now) (omega arith) (rising a.empty a.words.now) in
    let runs = length_runs (stored a.empty a.words.now) in
    (p.0, omega (arith, n.0), omega (arith, n.1))

pub returns : goal.returns
returns c =
    let a = c.args in
    let p = c.requires in
    let n = c.count_cells-n.ensures in
    let r = c.by_counts in
    counts_measure a.s p.0 (length a.words.now) (stored a.empty a.words.now) p.1 (rising a.empty a.words.now) _ _ r.result r.ensures
    (record { allowed = p.0; kind = p.2; ranks = n.0; runs = λ h. n.1 })
