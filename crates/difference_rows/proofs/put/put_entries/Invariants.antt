-- What is left to put out gives the whole. Assumes nothing.
use Rattle.std.proofs.Common.{◌≡◌, ◌+◌, ◌-◌, ◌*◌, drop}
use Rattle.format.specs.Bytes.{bytes_of}
use Rattle.stores.specs.Put.{put}
use Rattle.difference_rows.specs.Later.{later_differences}
use Rattle.difference_rows.proofs.put.put_entries.Given as goal

-- What is left to put out gives the whole. Assumes nothing.
abbrev pub invariant-loop-i : goal.invariant-loop-i
invariant-loop-i g l =
    let w = g.E.Entry.WIDTH in
    put l.dst (l.at + w * l.i) (bytes_of w (later_differences w (drop (l.i - 1) l.ps))) ≡ put l.initial.dst (l.at + w * 1) (bytes_of w (later_differences w l.ps))
