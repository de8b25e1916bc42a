use Rattle.std.proofs.Common.{◌≡◌, ◌+◌, ◌*◌, length, drop}
use Rattle.format.specs.Bytes.{bytes_of}
use Rattle.stores.specs.Put.{put}
use Rattle.offsets.specs.Over.{offsets_over}
use Rattle.offsets.proofs.put.put_offsets_of.Given as goal

abbrev pub invariant-loop-i : goal.invariant-loop-i
invariant-loop-i g l =
    let w = g.E.Entry.WIDTH in
    (length l.dst ≡ length l.initial.dst)
    × (put l.dst (l.at + w * l.i) (bytes_of w (drop l.i (offsets_over l.base l.ps))) ≡ put l.initial.dst l.at (bytes_of w (offsets_over l.base l.ps)))
