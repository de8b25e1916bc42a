-- `put_out` meets its contract: the cells that are left, put out, give the whole. Assumes nothing.
use Prim.Native.Nat.{◌+◌, ◌-◌, ◌*◌, ◌≤◌, min}
use mathlib.Core.Path.{◌≡◌, refl, sym, ap, ◌∙◌}
use native.Mathlib.Omega.{arith}
use lib.ListN.{length}
use Rattle.std.specs.Slice.Iter.{chunks_rest}
use Rattle.std.specs.Iterator.Adapters.{enumerate_source, enumerate_count}
use Rattle.picture.proofs.Chunks.{Chunk, chunk_of, chunks_over, length_chunk}
use Rattle.picture.proofs.Puts.{going_begun, put-begun, room_chunk, going_next, put_next, room-end, put_rest_end}
use borrow.Author.Rules.{rules}
use Rattle.picture.proofs.put_out.Goals.{In-Some, In-None}
use Rattle.picture.proofs.put_out.Goals as goal

pub loop-i-init : goal.loop-i-init
loop-i-init c =
    let a = c.args in
    let p = c.requires in
    let g = going_begun a.s a.empty a.words.now a.place (length a.dst.now) a.start a.second p.1 p.2 p.3 p.4 p.5 in
    rw (c.into_iter-i-iterator.ensures.into_iter_gives, c.enumerate-i-items.ensures.source, c.enumerate-i-items.ensures.count, c.begin-e.ensures)
    (c.chunks.ensures.size, c.chunks.ensures.rest, refl, refl, g, refl)

-- which chunk has come
this : (c : In-Some) → Chunk c.args.words.now (enumerate_count c.loop-i.i-iterator) c.in-Some.part.now (chunks_rest (enumerate_source c.next.new.self))
this c = let l = c.loop-i in chunk_of c.args.words.now (enumerate_count l.i-iterator) _ _ _ c.in-Some.part.now _ l.invariant.0 l.invariant.1 c.in-Some.ensures.steps.0

pub put_chunk-e-requires : goal.put_chunk-e-requires
put_chunk-e-requires c =
    let a = c.args in
    let p = c.requires in
    let l = c.loop-i in
    let k = enumerate_count l.i-iterator in
    let z = this (goal.at.put_chunk-e-requires c).In-Some in
    let i : c.in-Some.i ≡ enumerate_count l.i-iterator = c.in-Some.ensures.steps.1 in
    let n : length c.in-Some.part.now ≡ min 1024 (length a.words.now - 1024 * enumerate_count l.i-iterator) = ap length z.here ∙ length_chunk a.empty a.words.now (1024 * enumerate_count l.i-iterator) in
    let h = z.inside in
    (p.0, omega arith, omega arith, rw (l.invariant.3, i, z.here) (room_chunk a.s a.empty a.words.now a.place _ l.e (1024 * k) l.invariant.4))

pub loop-i-preserved : goal.loop-i-preserved
loop-i-preserved c =
    let a = c.args in
    let p = c.requires in
    let l = c.loop-i in
    let k = enumerate_count l.i-iterator in
    let s = c.in-Some.ensures.steps in
    let m = c.put_chunk-e.ensures in
    let z = this (goal.at.loop-i-preserved c).In-Some in
    let i : c.in-Some.i ≡ enumerate_count l.i-iterator = s.1 in
    let e : 1024 * (enumerate_count l.i-iterator + 1) ≡ 1024 * enumerate_count l.i-iterator + 1024 = omega arith in (
      s.0.0 ∙ l.invariant.0,
      rw s.2 z.behind,
      search rules,
      search rules,
      rw (s.2, e, m.0, i, z.here) (going_next a.s a.empty a.words.now a.place _ l.e (1024 * k) l.invariant.4 p.0),
      rw (s.2, e, m.0, m.1, i, z.here) (put_next a.s a.empty a.words.now a.place _ l.e (1024 * k) l.invariant.4 l.dst ∙ l.invariant.5),
    )

-- no cell is left
over : (c : In-None) → length c.args.words.now ≤ 1024 * enumerate_count c.loop-i.i-iterator
over c = chunks_over c.args.words.now (enumerate_count c.loop-i.i-iterator) _ c.loop-i.invariant.1 c.in-None.ensures.steps.0.1.0

pub finish-requires : goal.finish-requires
finish-requires c =
    let a = c.args in
    let l = c.loop-i in
    let x = room-end a.s a.empty a.words.now a.place _ l.e (1024 * enumerate_count l.i-iterator) (over (goal.at.finish-requires c).In-None) l.invariant.4 in
    (c.requires.0, l.invariant.4.along.sound, rw l.invariant.3 x.0, rw l.invariant.3 x.1)

pub returns : goal.returns
returns c =
    let a = c.args in
    let l = c.loop-i in
    c.finish.ensures
    ∙ sym (put_rest_end a.s a.empty a.words.now a.place 0 l.e (1024 * enumerate_count l.i-iterator) (over (goal.at.returns c).In-None) l.dst)
    ∙ l.invariant.5
    ∙ put-begun a.s a.empty a.words.now a.place 0 a.start a.second a.dst.now
