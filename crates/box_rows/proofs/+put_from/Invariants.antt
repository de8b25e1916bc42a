-- Each turn puts out the box in the dimensions after i, of which there are fewer. Assumes nothing.
use Rattle.std.proofs.Common.{◌+◌, ◌-◌, get_or, drop}
use Rattle.format.specs.Picture.{most_dimensions}
use Rattle.box_rows.proofs.Turns.{BoxLeft}
use Rattle.box_rows.proofs.+put_from.Given as goal

abbrev pub decreases-put_from : goal.decreases-put_from
decreases-put_from l = most_dimensions - l.i

abbrev pub invariant-loop-a : goal.invariant-loop-a
invariant-loop-a l =
    BoxLeft l.file l.v (get_or l.extents l.i 0) (drop (l.i + 1) l.extents) (drop (l.i + 1) l.low) (drop (l.i + 1) l.high) l.p (get_or l.high l.i 0)
    (get_or l.low l.i 0) l.initial.s l.initial.dst l.s l.dst l.a
