use Rattle.std.proofs.Common.{◌+◌, ◌-◌, sym, rules}
use Rattle.parts.specs.Cursor.{entry_of}
use Rattle.parts.proofs.Steps.{entry_other}
use Rattle.parts.proofs.Last.{last_none, last-zero}
use Rattle.base_groups.proofs.search.last_offset.Goals as goal

pub returns-then-n-eq0 : goal.returns-then-n-eq0
returns-then-n-eq0 c = last_none _ _ _ c.if-n-eq0.true

pub returns-in-1 : goal.returns-in-1
unfolding entry_of
returns-in-1 c = rw c.in-1.is c.last.ensures

pub returns-in-2 : goal.returns-in-2
unfolding entry_of
returns-in-2 c = rw c.in-2.is c.last-in-2.ensures

pub returns-in_default : goal.returns-in_default
returns-in_default c =
    let a = c.args in
    last-zero _ a.n a.x (sym (entry_other a.file.now a.v (a.rank + (a.n - 1)) (λ e. search rules) (λ e. search rules)))
