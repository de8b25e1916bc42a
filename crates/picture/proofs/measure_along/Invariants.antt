-- `measure_along` meets its contract: the encoder that goes on with the cells that are left ends as from the first cell on. Assumes nothing.
use Prim.Native.Nat.{◌*◌}
use mathlib.Core.Path.{◌≡◌}
use lib.ListN.{length, drop}
use Rattle.std.specs.Slice.Iter.{chunks_size, chunks_rest}
use Rattle.std.specs.Iterator.Adapters.{enumerate_source, enumerate_count}
use Rattle.format.specs.Stored.{stored}
use Rattle.parts.specs.Encoder.{begun}
use Rattle.parts.specs.Batch.{Along}
use Rattle.kinds.specs.Coding.{taken_all}
use Rattle.picture.proofs.Chunks.{left}
use Rattle.picture.proofs.measure_along.Given as goal

-- `measure_along` meets its contract: the encoder that goes on with the cells that are left ends as from the first cell on. Assumes nothing.
abbrev pub invariant-loop-i : goal.invariant-loop-i
invariant-loop-i l =
    (chunks_size (enumerate_source l.i-iterator) ≡ 1024) × (chunks_rest (enumerate_source l.i-iterator) ≡ drop (1024 * enumerate_count l.i-iterator) l.words)
    × (length l.batch ≡ 1024) × Along l.e (left l.empty l.words (1024 * enumerate_count l.i-iterator))
    × (taken_all l.s l.e (left l.empty l.words (1024 * enumerate_count l.i-iterator)) ≡ taken_all l.s (begun 0 0) (stored l.empty l.words))
