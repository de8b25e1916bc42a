use mathlib.Core.Path.{refl}
use Rattle.laws.proofs.Refusals.{err_refused, err_accepted}
use Rattle.lent_parts.proofs.Choice.{no_file, second-file, first-file}
use Rattle.lent_parts.proofs.shorter.shorter.Goals as goal

pub returns-then-is_err : goal.returns-then-is_err
returns-then-is_err c =
    let a = c.args in
    let r = c.check_shorter.result in
    no_file a.first a.second _ c.check_shorter.ensures _ (err_refused r c.is_err.result c.is_err.ensures.value c.if-is_err.true) refl

pub returns-then-second-first : goal.returns-then-second-first
returns-then-second-first c =
    let a = c.args in
    let r = c.check_shorter.result in
    second-file a.first a.second _ c.check_shorter.ensures (err_accepted r c.is_err.result c.is_err.ensures.value c.if-is_err.false) c.if-second-first.true

pub returns : goal.returns
returns c =
    let a = c.args in
    let r = c.check_shorter.result in
    first-file a.first a.second _ c.check_shorter.ensures (err_accepted r c.is_err.result c.is_err.ensures.value c.if-is_err.false) c.if-second-first.false
