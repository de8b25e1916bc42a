-- `put_numbers` meets its contract: the numbers that are left, put on, give the whole. Assumes nothing.
use Prim.Native.Nat.{◌+◌, ◌*◌}
use mathlib.Core.Path.{◌≡◌}
use lib.ListN.{drop}
use Rattle.format.specs.Bytes.{bytes_of}
use Rattle.stores.specs.Put.{put}
use Rattle.layout.proofs.header_out.put_numbers.Given as goal

-- `put_numbers` meets its contract: the numbers that are left, put on, give the whole. Assumes nothing.
abbrev pub invariant-loop-i : goal.invariant-loop-i
invariant-loop-i l = put l.dst (l.at + 4 * l.i) (bytes_of 4 (drop l.i l.numbers)) ≡ put l.initial.dst l.at (bytes_of 4 l.numbers)
