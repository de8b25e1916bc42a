use Prim.Native.Nat.{◌+◌, ◌*◌, ◌<◌}
use mathlib.Core.Path.{◌≡◌, ap, ◌∙◌}
use native.Mathlib.Omega.{arith}
use lib.ListN.{length, drop}
use lib.Dec.{ltb}
use borrow.Author.Tests.{ltb-true, ltb-false}
use Rattle.format.specs.Bytes.{numbers_of}
use Rattle.laws.proofs.Tools.{cases}
use Rattle.wire.specs.Wire.{entry_size}
use Rattle.offsets.specs.Sums.{sums}
use Rattle.offsets.proofs.Summing.{length-sums}
use Rattle.base_groups.proofs.Batched.{along_batch}
use borrow.Author.Rules.{rules}
use Rattle.base_offset.proofs.steps.along.Goals.{Joined-more-gt0}
use Rattle.base_offset.proofs.steps.along.Goals as goal
use Rattle.base_offset.proofs.steps.along.Goals.{else-more-gt0, then-more-gt0}

-- with the sums, where there is more than one rank
filled : (c : Joined-more-gt0)
    → let a = c.args in
    (length c.if-more-gt0.out ≡ length a.out.now)
    × (1 < length a.out.now
    → c.if-more-gt0.out ≡ sums a.c.base (numbers_of (entry_size a.v.width) (length a.out.now) (drop (a.v.second + entry_size a.v.width * a.c.rank) a.file.now)))
filled c =
    elim c.if-more-gt0.branch [ then-more-gt0 w ↦ let e = w.out-is ∙ w.sums.ensures in (ap length e ∙ length-sums _ _ _ _, λ h. e) | else-more-gt0 w ↦ let z = w.if-more-gt0.false in (ap length w.out-is, λ h. absurd (omega arith)) ]

pub sums-requires : goal.sums-requires
sums-requires c = let h = c.if-more-gt0.true in c.requires.there (omega arith)

pub bounds-out-0 : goal.bounds-out-0
bounds-out-0 c =
    let n = (filled c).0 in
    let s = c.requires.some in
    omega arith

pub overflow_add-c : goal.overflow_add-c
overflow_add-c c =
    let n = length c.args.out.now in
    cases (ltb 1 n)
    (λ e. let t = (c.requires.there (ltb-true 1 n e)).ranks in search rules)
    (λ e. let t = ltb-false 1 n e in search rules)

pub returns : goal.returns
returns c =
    let a = c.args in
    let f = filled (goal.at.returns c).Joined-more-gt0 in
    along_batch a.file.now a.v a.c (length a.out.now) c.next.result c.if-more-gt0.out c.requires f.0 f.1 c.next.ensures
