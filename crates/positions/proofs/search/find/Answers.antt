use Rattle.std.proofs.Common.{◌≡◌, ℕ, ◌<◌, ◌≤◌, eqb, sym, refl, ◌∙◌, arith, eqb-true}
use borrow.Author.Tests.{eqb-false}
use Rattle.laws.proofs.Tools.{cases}
use Rattle.positions.proofs.Held.{find_none, find_past, find_here, find_first, never_here}
use Rattle.positions.proofs.search.find.Goals.{After-load_u32-entry}
use Rattle.positions.proofs.search.find.Goals as goal

pub returns-then-v-eq0 : goal.returns-then-v-eq0
returns-then-v-eq0 c =
    let a = c.args in
    record { right = λ ls h. find_none a.file.now a.v ls h a.p.0 _ c.if-v-eq0.true refl refl; free = never_here refl }

-- the search has found a rank
found : (c : After-load_u32-entry) → c.last_at_most-r.result < c.args.v.words
found c = c.last_at_most-r.ensures.within (omega arith)

pub overflow_add-result : goal.overflow_add-result
overflow_add-result c = let f = found (goal.at.overflow_add-result c).After-load_u32-entry in record { fits = omega arith }

pub returns-then-entry-wanted : goal.returns-then-entry-wanted
returns-then-entry-wanted c =
    let a = c.args in
    let e = c.load_u32-entry.ensures.0 in
    let m = c.last_at_most-r in
    record {
      right = λ ls h. find_past a.file.now a.v ls h a.p.0 _ m.result (omega arith) m.ensures (rw e at c.if-entry-wanted.true) refl refl;
      free = never_here refl;
    }

pub returns : goal.returns
returns c =
    let a = c.args in
    let e = c.load_u32-entry.ensures.0 in
    let m = c.last_at_most-r in
    let w = c.load_u32-entry.result in
    let ge = c.if-entry-wanted.false in
    record {
      right = λ ls h.
          cases (eqb w a.p.0)
          (λ t. find_here a.file.now a.v ls h a.p.0 _ m.result (omega arith) m.ensures (sym e ∙ eqb-true w a.p.0 t) refl t)
          (λ t. let ne = eqb-false w a.p.0 t in find_first a.file.now a.v ls h a.p.0 _ m.result (omega arith) m.ensures (rw e at (above ge ne)) refl t);
      free = λ t. found (goal.at.returns c).After-load_u32-entry;
    }
  where
    above : {w p : ℕ} → p ≤ w → (w ≡ p → ⊥) → p < w
    above g n = omega arith
