-- `measure_along` meets its contract: the encoder that goes on with the cells that are left ends as from the first cell on. Assumes nothing.
use Prim.Native.Nat.{◌+◌, ◌-◌, ◌*◌, min}
use mathlib.Core.Path.{◌≡◌, refl, sym, ap, subst, ◌∙◌}
use native.Mathlib.Omega.{arith}
use mathlib.Core.Bool.{true}
use lib.ListN.{length}
use Rattle.std.specs.Slice.Iter.{chunks_rest}
use Rattle.std.specs.Iterator.Adapters.{enumerate_source, enumerate_count}
use Rattle.format.specs.Stored.{stored}
use Rattle.laws.proofs.Stored.{rising}
use borrow.Author.Rules.{rules}
use Rattle.parts.specs.declared.Encoder.{Encoder}
use Rattle.parts.specs.Encoder.{begun}
use Rattle.kinds.specs.Coding.{taken_all}
use Rattle.layout.specs.Laid.{measured_by, Bounded}
use Rattle.layout.proofs.Measuring.{measures, bounded}
use Rattle.picture.proofs.Chunks.{Chunk, chunk_of, chunks_over, along-begun, left-all, all_done, length_chunk, along_chunk, along-left, all_left}
use Rattle.picture.proofs.measure_along.Goals.{In-Some, In-None}
use Rattle.picture.proofs.measure_along.Goals as goal

pub loop-i-init : goal.loop-i-init
loop-i-init c =
    let a = c.args in
    let l = c.requires.1 in
    rw (c.into_iter-i-iterator.ensures.into_iter_gives, c.enumerate-i-items.ensures.source, c.enumerate-i-items.ensures.count, c.begin-e.ensures)
    (c.chunks.ensures.size, c.chunks.ensures.rest, refl, along-begun 0 0 a.empty a.words.now (omega arith) (omega arith) l, ap (taken_all a.s (begun 0 0)) (left-all a.empty a.words.now))

-- which chunk has come
this : (c : In-Some) → Chunk c.args.words.now (enumerate_count c.loop-i.i-iterator) c.in-Some.chunk.now (chunks_rest (enumerate_source c.next.new.self))
this c = let l = c.loop-i in chunk_of c.args.words.now (enumerate_count l.i-iterator) _ _ _ c.in-Some.chunk.now _ l.invariant.0 l.invariant.1 c.in-Some.ensures.steps.0

pub measure_chunk-e-requires : goal.measure_chunk-e-requires
measure_chunk-e-requires c =
    let a = c.args in
    let p = c.requires in
    let l = c.loop-i in
    let k = enumerate_count l.i-iterator in
    let z = this (goal.at.measure_chunk-e-requires c).In-Some in
    let i : c.in-Some.i ≡ enumerate_count l.i-iterator = c.in-Some.ensures.steps.1 in
    let n : length c.in-Some.chunk.now ≡ min 1024 (length a.words.now - 1024 * enumerate_count l.i-iterator) = ap length z.here ∙ length_chunk a.empty a.words.now (1024 * enumerate_count l.i-iterator) in
    let h = z.inside in
    (p.0, omega arith, omega arith, rw (i, z.here) (along_chunk a.empty a.words.now (1024 * k) l.e l.invariant.3))

pub loop-i-preserved : goal.loop-i-preserved
loop-i-preserved c =
    let a = c.args in
    let p = c.requires in
    let l = c.loop-i in
    let k = enumerate_count l.i-iterator in
    let s = c.in-Some.ensures.steps in
    let z = this (goal.at.loop-i-preserved c).In-Some in
    let i : c.in-Some.i ≡ enumerate_count l.i-iterator = s.1 in
    let e : 1024 * (enumerate_count l.i-iterator + 1) ≡ 1024 * enumerate_count l.i-iterator + 1024 = omega arith in (
      s.0.0 ∙ l.invariant.0,
      rw s.2 z.behind,
      search rules,
      rw (s.2, e, c.measure_chunk-e.ensures, i, z.here) (along-left a.empty a.words.now (1024 * k) a.s l.e p.0 l.invariant.3),
      rw (s.2, e, c.measure_chunk-e.ensures, i, z.here) (all_left a.empty a.words.now (1024 * k) a.s l.e ∙ l.invariant.4),
    )

-- after the last
whole : (c : In-None) → c.loop-i.e ≡ taken_all c.args.s (begun 0 0) (stored c.args.empty c.args.words.now)
whole c =
    let a = c.args in
    let l = c.loop-i in
    let k = enumerate_count l.i-iterator in
    all_done a.empty a.words.now (1024 * k) a.s l.e (chunks_over a.words.now k _ l.invariant.1 c.in-None.ensures.steps.0.1.0)
    ∙ l.invariant.4

pub measured-requires : goal.measured-requires
measured-requires c =
    let a = c.args in
    let p = c.requires in
    let w = whole (goal.at.measured-requires c).In-None in
    (p.0, subst (λ (x : Encoder). x.fits ≡ true → Bounded a.s x) (sym w) (bounded a.s p.0 _ _ p.1 (rising a.empty a.words.now)))

pub returns : goal.returns
returns c =
    let a = c.args in
    let p = c.requires in
    let w = whole (goal.at.returns c).In-None in
    rw (c.measured.ensures ∙ ap (measured_by a.s) w) (measures a.s p.0 _ _ p.1 (rising a.empty a.words.now))
