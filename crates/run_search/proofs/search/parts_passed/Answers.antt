use Rattle.std.proofs.Common.{ℕ, ◌+◌, ◌*◌, Bool, leb, length, ap, ◌∙◌, arith}
use Rattle.format.specs.Tools.{pick}
use Rattle.parts.proofs.Last.{picked, passing-none, passing-next}
use Rattle.run_search.proofs.Before.{before-there, part_room}
use Rattle.run_search.proofs.search.parts_passed.Goals.{In-loop-i}
use Rattle.run_search.proofs.search.parts_passed.Goals as goal

pub loop-i-init : goal.loop-i-init
loop-i-init g c = (omega arith, λ h x t. passing-none _)

pub loop-i-preserved : goal.loop-i-preserved
loop-i-preserved g c =
    let a = c.args in
    let l = c.loop-i in
    let o = part_room a.low a.part a.n l.i a.start (length a.file.now) c.requires.room.0 c.requires.room.1 c.loop-i-test.true in
    let p = picked c.passes.result c.from-count.result c.from-count.ensures in
    let y = c.get_pair.ensures in
    let m = p.1 in (
      omega arith,
      λ h x t.
          rw (l.invariant.1 h x t)
          (passing-next _ l.i c.from-count.result
          (p.0 ∙ ap (λ (b : Bool). pick b 1 0) (t c.get_pair.result c.passes.result y.1 y.2 c.passes.ensures
          ∙ ap (λ (z : ℕ). leb z x) (rw y.0 (before-there a.file.now a.start h (a.low + a.part * (l.i + 1)) o.0 o.1))))),
    )
