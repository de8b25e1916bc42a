use mathlib.Core.Path.{sym}
use Rattle.parts.proofs.Taken.{put-all-end}
use Rattle.kinds.specs.Coding.{coder}
use Rattle.rewrite.proofs.Stretch.{all_end}
use Rattle.rewrite.proofs.walk.put_added.Goals as goal

pub returns-in_default : goal.returns-in_default
returns-in_default c =
    let a = c.args in
    rw c.in_default.is (sym (all_end a.s a.e), sym (put-all-end (coder a.s) a.dst.now a.e))

pub put_all-requires : goal.put_all-requires
put_all-requires c =
    let p = c.requires in
    let t = c.in-Some.is in
    (p.0, rw t at p.1, rw t at p.2)

pub returns : goal.returns
returns c = rw c.in-Some.is c.put_all.ensures
