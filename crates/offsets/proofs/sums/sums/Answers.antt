use Rattle.std.proofs.Common.{◌≡◌, ℕ, ◌+◌, ◌*◌, length, drop, ap, ◌∙◌, arith}
use Rattle.format.specs.Bytes.{numbers_of}
use Rattle.offsets.specs.Sums.{sums}
use Rattle.offsets.proofs.Widths.{other_size}
use Rattle.offsets.proofs.sums.sums.Goals.{Start}
use Rattle.offsets.proofs.sums.sums.Goals as goal

wide : (c : Start) → (c.args.width ≡ 1 → ⊥) → c.args.width ≡ 2
wide c n = other_size c.args.width c.requires.size n

pub sums_of-requires : goal.sums_of-requires
sums_of-requires c =
    let l = rw c.if-width-eq1.true at c.requires.long in
    omega arith

pub sums_of-requires-else-width-eq1 : goal.sums_of-requires-else-width-eq1
sums_of-requires-else-width-eq1 c =
    let l = rw (wide (goal.at.sums_of-requires-else-width-eq1 c).Start c.if-width-eq1.false) at c.requires.long in
    omega arith

pub returns-then-width-eq1 : goal.returns-then-width-eq1
returns-then-width-eq1 c =
    let a = c.args in
    let e : a.second + a.rank ≡ a.second + 1 * a.rank = omega arith in
    rw c.if-width-eq1.true
    (c.sums_of.ensures ∙ ap (λ (at : ℕ). sums a.base (numbers_of 1 (length a.out.now) (drop at a.file.now))) e)

pub returns-else-width-eq1 : goal.returns-else-width-eq1
returns-else-width-eq1 c =
    rw (wide (goal.at.returns-else-width-eq1 c).Start c.if-width-eq1.false) c.sums_of-else-width-eq1.ensures
