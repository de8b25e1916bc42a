-- What is there to search. Assumes nothing.
use mathlib.Core.Path.{sym}
use mathlib.Core.Bool.{true≢false}
use native.Mathlib.Nat.{pos_of_ne-zero, mul-le-mul_right}
use native.Mathlib.Omega.{arith}
use borrow.Author.Tests.{leb-true, le-leb}
use Rattle.pointed_jumps.proofs.search.searchable.Goals.{then-v-eq0-via-then-v-eq0, then-v-eq0-via-else-v-eq0+then-v-eq0-2, then-v-eq0-via-else-v-eq0+else-v-eq0-2+then-v-eq0-3}
use Rattle.pointed_jumps.proofs.search.searchable.Goals as goal

-- What is there to search. Assumes nothing.
pub returns-then-v-eq0 : goal.returns-then-v-eq0
returns-then-v-eq0 c =
    let v = c.args.v in (
      λ e. absurd (true≢false (sym e)),
      λ z.
          let n = z.words in
          let j = z.jumps in
          let s = z.step in
          elim c.then-v-eq0.branch [
            | then-v-eq0-via-then-v-eq0 w ↦ let y = w.if-v-eq0.true in absurd (omega arith)
            | then-v-eq0-via-else-v-eq0+then-v-eq0-2 w ↦ let y = w.if-v-eq0-2.true in absurd (omega arith)
            | then-v-eq0-via-else-v-eq0+else-v-eq0-2+then-v-eq0-3 w ↦ let y = w.if-v-eq0-3.true in absurd (omega arith)
          ],
    )

pub overflow_mul-result : goal.overflow_mul-result
overflow_mul-result c = let m = mul-le-mul_right c.args.v.words c.requires.1 in record { fits = omega arith }

pub overflow_add-result : goal.overflow_add-result
overflow_add-result c = let m = mul-le-mul_right c.args.v.words c.requires.1 in record { fits = omega arith }

pub returns : goal.returns
returns c =
    let v = c.args.v in (
      λ e.
          record {
            words = pos_of_ne-zero c.if-v-eq0.false;
            jumps = pos_of_ne-zero c.if-v-eq0-2.false;
            step = pos_of_ne-zero c.if-v-eq0-3.false;
            inside = leb-true _ _ e;
          },
      λ z. le-leb _ _ z.inside,
    )
