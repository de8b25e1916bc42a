-- `runs::search::find` meets its contract. Assumes nothing.
use Rattle.std.proofs.Common.{◌≡◌, refl, ap, arith, ltb-true}
use Rattle.wire.specs.declared.Pair.{Pair}
use Rattle.run_search.specs.Before.{empty_at}
use Rattle.run_walk.proofs.Pairs.{unlike}
use Rattle.runs.proofs.Lookup.{not-above, found-end, found-empty, found-stored}
use Rattle.runs.proofs.search.find.Goals as goal

-- `runs::search::find` meets its contract. Assumes nothing.
pub returns-then-v-j : goal.returns-then-v-j
returns-then-v-j c =
    let a = c.args in
    let j = c.run_at-j in
    record {
      right = λ ls h. found-end a.file.now a.v ls h a.p.0 j.result j.ensures _ c.if-v-j.true refl refl;
      free = λ e. absurd (unlike e);
    }

-- over right parts the first rank of run j is at most the position
pub returns-then-place-first : goal.returns-then-place-first
returns-then-place-first c =
    let a = c.args in
    let j = c.run_at-j in
    let t = c.if-place-first.true in
    let r = c.ranks_before-first.ensures in
    record {
      right = λ ls h. let n = not-above a.file.now a.v ls h a.p.0 j.result j.ensures in absurd (omega arith);
      free = λ e. absurd (unlike e);
    }

pub returns-then-place-first-2 : goal.returns-then-place-first-2
returns-then-place-first-2 c =
    let a = c.args in
    let j = c.run_at-j in
    let y : c.run-empty.result.second ≡ empty_at a.file.now a.v.start j.result = ap (λ (x : Pair). x.second) c.run-empty.ensures in
    let r = c.ranks_before-first.ensures in
    record {
      right = λ ls h. found-empty a.file.now a.v ls h a.p.0 j.result j.ensures _ c.if-v-j.false (omega arith) r refl;
      free = λ e. absurd (unlike e);
    }

pub returns : goal.returns
returns c =
    let a = c.args in
    let j = c.run_at-j in
    let x = c.run-empty in
    let y : x.result.second ≡ empty_at a.file.now a.v.start j.result = ap (λ (x : Pair). x.second) x.ensures in
    let r = c.ranks_before-first.ensures in
    record {
      right = λ ls h. found-stored a.file.now a.v ls h a.p.0 j.result j.ensures _ c.if-v-j.false (omega arith) (omega arith) refl;
      free = λ e. ltb-true _ a.v.words e;
    }
