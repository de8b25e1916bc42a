-- `put_out` meets its contract: the cells that are left, put out, give the whole. Assumes nothing.
use Prim.Native.Nat.{◌*◌}
use mathlib.Core.Path.{◌≡◌}
use lib.ListN.{length, drop}
use Rattle.std.specs.Slice.Iter.{chunks_size, chunks_rest}
use Rattle.std.specs.Iterator.Adapters.{enumerate_source, enumerate_count}
use Rattle.format.specs.Stored.{kept}
use Rattle.parts.specs.Encoder.{begun}
use Rattle.picture.proofs.Chunks.{left}
use Rattle.picture.proofs.Puts.{put_rest, Going}
use Rattle.picture.proofs.put_out.Given as goal

-- `put_out` meets its contract: the cells that are left, put out, give the whole. Assumes nothing.
abbrev pub invariant-loop-i : goal.invariant-loop-i
invariant-loop-i l =
    (chunks_size (enumerate_source l.i-iterator) ≡ 1024) × (chunks_rest (enumerate_source l.i-iterator) ≡ drop (1024 * enumerate_count l.i-iterator) l.words)
    × (length l.batch ≡ 1024) × (length l.dst ≡ length l.initial.dst)
    × Going l.s l.empty l.words l.place (length l.initial.dst) l.e (1024 * enumerate_count l.i-iterator)
    × (put_rest l.s l.dst l.e (left l.empty l.words (1024 * enumerate_count l.i-iterator)) l.place (kept l.empty (drop (1024 * enumerate_count l.i-iterator) l.words))
    ≡ put_rest l.s l.initial.dst (begun l.start l.second) (left l.empty l.words 0) l.place (kept l.empty l.words))
