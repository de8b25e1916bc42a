use Prim.Native.Nat.{◌-◌, ◌*◌, ◌<◌}
use mathlib.Core.Path.{sym, ◌∙◌}
use native.Mathlib.Nat.{min-le_right, pos_of_ne-zero}
use native.Mathlib.Omega.{arith}
use Rattle.base_offset.proofs.Searched.{AtBase, AtGroup, product-fits, find_before, find_outside, find_no_group, rank-within, find_here, find_absent}
use Rattle.base_offset.proofs.search.find.Goals.{After-last_offset, After-load_u32-base, Else-v-start, then-wanted-base-via-then-wanted-base, then-wanted-base-via-else-wanted-base+then-v-start}
use Rattle.base_offset.proofs.search.find.Goals as goal

at_base : (c : After-load_u32-base)
    → let a = c.args in AtBase a.file.now a.v a.p.0 c.last_at_most-j.result c.load_u32-base.result
at_base c = record { last = c.last_at_most-j.ensures; is = c.load_u32-base.ensures.0 }

started : (c : Else-v-start) → let a = c.args in c.last_at_most-j.result * a.v.step < a.v.words
started c = omega arith

at-group : (c : After-last_offset)
    → let a = c.args in
    AtGroup a.file.now a.v a.p.0 c.last_at_most-j.result c.load_u32-base.result c.min-n.result c.last_offset.result
at-group c =
    record {
      at_base = record { last = c.last_at_most-j.ensures; is = c.load_u32-base.ensures.0 };
      start = omega arith;
      lesser = c.min-n.ensures;
      least = c.if-wanted-base.false;
      full = pos_of_ne-zero c.if-n-eq0.false;
      found = c.last_offset.ensures;
    }

pub overflow_mul-start : goal.overflow_mul-start
overflow_mul-start c = record { fits = product-fits _ _ (omega arith) (omega arith) }

pub returns-then-wanted-base : goal.returns-then-wanted-base
returns-then-wanted-base c =
    elim c.then-wanted-base.branch [
      | then-wanted-base-via-then-wanted-base w ↦ find_before (at_base (goal.at.returns-then-wanted-base c).After-load_u32-base) w.if-wanted-base.true
      | then-wanted-base-via-else-wanted-base+then-v-start w ↦ find_outside (at_base (goal.at.returns-then-wanted-base c).After-load_u32-base) w.if-v-start.true
    ]

pub returns-then-n-eq0 : goal.returns-then-n-eq0
returns-then-n-eq0 c = find_no_group (at_base (goal.at.returns-then-n-eq0 c).After-load_u32-base) (started (goal.at.returns-then-n-eq0 c).Else-v-start) c.min-n.ensures c.if-n-eq0.true

pub last_offset-requires : goal.last_offset-requires
last_offset-requires c =
    let v = c.args.v in
    let e = c.min-n.ensures in
    let m = min-le_right v.step (v.words - c.last_at_most-j.result * v.step) in
    let s = started (goal.at.last_offset-requires c).Else-v-start in
    omega arith

pub overflow_add-r : goal.overflow_add-r
overflow_add-r c =
    let w = rank-within (at-group c) in
    omega arith

pub returns-then-entry_of-wanted : goal.returns-then-entry_of-wanted
returns-then-entry_of-wanted c = find_here (at-group (goal.at.returns-then-entry_of-wanted c).After-last_offset) (sym c.entry_of.ensures ∙ c.if-entry_of-wanted.true)

pub overflow_add-result : goal.overflow_add-result
overflow_add-result c =
    let w = rank-within (at-group (goal.at.overflow_add-result c).After-last_offset) in
    omega arith

pub returns : goal.returns
returns c = find_absent (at-group (goal.at.returns c).After-last_offset) (λ q. c.if-entry_of-wanted.false (c.entry_of.ensures ∙ q))

pub overflow_cast-rank : goal.overflow_cast-rank
overflow_cast-rank c = let s = started c in record { fits = omega arith }

pub overflow_sub-v : goal.overflow_sub-v
overflow_sub-v c = let s = started (goal.at.overflow_sub-v c).Else-v-start in omega arith
