use Prim.Native.Nat.{ℕ}
use mathlib.Core.Path.{◌≡◌, ap, ◌∙◌}
use mathlib.Core.List.{List}
use native.Mathlib.Omega.{arith}
use lib.ListN.{length}
use Rattle.format.specs.declared.Setting.{Setting}
use Rattle.format.specs.declared.View.{View}
use Rattle.parts.specs.declared.Cursor.{Cursor}
use Rattle.parts.specs.declared.Encoder.{Encoder}
use Rattle.parts.specs.Encoder.{begun}
use Rattle.parts.specs.Batch.{put_all_by}
use Rattle.parts.specs.declared.walk.Walk.{Walk}
use Rattle.kinds.specs.Steps.{start_of, walked}
use Rattle.kinds.specs.Coding.{coder, taken_all}
use Rattle.edits.specs.declared.Edit.{Edit}
use Rattle.rewrite.specs.Walk.{along, added}
use Rattle.rewrite.proofs.Three.{allowed, ranks-there, along-cursor, along_encoder, halfway, front, rest, e1, e2, e3, d1, d2, d3, length_d1, length_d2, length_d3, edit-along, edit_rooms, edit-put, reached_first, reached_rest}
use Rattle.rewrite.proofs.edited.put_parts.Goals.{After-put_added-e, After-put_ranks-all, After-put_ranks-front}
use Rattle.rewrite.proofs.edited.put_parts.Goals as goal

-- the encoder, the cursor and the bytes after the ranks before the edit, and after its position
module _ (d b : List ℕ) (v : View) (x : Edit) (s : Setting) (f g : ℕ) (c : Cursor) (e : Encoder) (i : c ≡ start_of b v) (j : e ≡ begun f g) (w : Walk) (k : w ≡ along s b v c e x.before) where
  encoder-1 : w.e ≡ e1 s (begun f g) (front b v x) (added x) (rest b v x)
  encoder-1 = ap (λ (w : Walk). w.e) k ∙ along_encoder _ _ _ _ _ _ ∙ rw (j, i)

  cursor-1 : w.c ≡ halfway b v x
  cursor-1 = ap (λ (w : Walk). w.c) k ∙ along-cursor _ _ _ _ _ _ ∙ rw i

  bytes-1 : (l : List ℕ) → l ≡ put_all_by (coder s) d e (walked b v c x.before) → l ≡ d1 s (begun f g) (front b v x) (added x) (rest b v x) d
  bytes-1 l h = h ∙ rw (j, i)

  encoder-2 : (t : Encoder) → t ≡ taken_all s w.e (added x) → t ≡ e2 s (begun f g) (front b v x) (added x) (rest b v x)
  encoder-2 t h = h ∙ rw encoder-1

  bytes-2 : (l m : List ℕ) → l ≡ put_all_by (coder s) d e (walked b v c x.before) → m ≡ put_all_by (coder s) l w.e (added x)
      → m ≡ d2 s (begun f g) (front b v x) (added x) (rest b v x) d
  bytes-2 l m h q = q ∙ rw (encoder-1, bytes-1 l h)

front-encoder : (c : After-put_ranks-front) → let a = c.args in c.put_ranks-front.result.e ≡ e1 a.s (begun a.start a.second) (front a.file.now a.v a.x) (added a.x) (rest a.file.now a.v a.x)
front-encoder c = let a = c.args in encoder-1 a.dst.now a.file.now a.v a.x a.s a.start a.second _ _ c.start-c.ensures c.begin-e.ensures _ c.put_ranks-front.ensures.0

front-cursor : (c : After-put_ranks-front) → let a = c.args in c.put_ranks-front.result.c ≡ halfway a.file.now a.v a.x
front-cursor c = let a = c.args in cursor-1 a.dst.now a.file.now a.v a.x a.s a.start a.second _ _ c.start-c.ensures c.begin-e.ensures _ c.put_ranks-front.ensures.0

front_bytes : (c : After-put_ranks-front) → let a = c.args in c.put_ranks-front.new.dst ≡ d1 a.s (begun a.start a.second) (front a.file.now a.v a.x) (added a.x) (rest a.file.now a.v a.x) a.dst.now
front_bytes c = let a = c.args in bytes-1 a.dst.now a.file.now a.v a.x a.s a.start a.second _ _ c.start-c.ensures c.begin-e.ensures _ c.put_ranks-front.ensures.0 _ c.put_ranks-front.ensures.1

-- after the position of the edit
middle-encoder : (c : After-put_added-e) → let a = c.args in c.put_added-e.result ≡ e2 a.s (begun a.start a.second) (front a.file.now a.v a.x) (added a.x) (rest a.file.now a.v a.x)
middle-encoder c =
    let a = c.args in
    encoder-2 a.dst.now a.file.now a.v a.x a.s a.start a.second _ _ c.start-c.ensures c.begin-e.ensures _ c.put_ranks-front.ensures.0 _ c.put_added-e.ensures.0

middle-bytes : (c : After-put_added-e) → let a = c.args in c.put_added-e.new.dst ≡ d2 a.s (begun a.start a.second) (front a.file.now a.v a.x) (added a.x) (rest a.file.now a.v a.x) a.dst.now
middle-bytes c =
    let a = c.args in
    bytes-2 a.dst.now a.file.now a.v a.x a.s a.start a.second _ _ c.start-c.ensures c.begin-e.ensures _ c.put_ranks-front.ensures.0 _ _ c.put_ranks-front.ensures.1 c.put_added-e.ensures.1

-- after the ranks behind it
all-encoder : (c : After-put_ranks-all) → let a = c.args in c.put_ranks-all.result.e ≡ e3 a.s (begun a.start a.second) (front a.file.now a.v a.x) (added a.x) (rest a.file.now a.v a.x)
all-encoder c =
    let a = c.args in
    let i = c.start-c.ensures in
    let j = c.begin-e.ensures in
    let k = c.put_ranks-front.ensures.0 in
    let e = encoder-2 a.dst.now a.file.now a.v a.x a.s a.start a.second _ _ i j _ k _ c.put_added-e.ensures.0 in
    let u = cursor-1 a.dst.now a.file.now a.v a.x a.s a.start a.second _ _ i j _ k in
    ap (λ (w : Walk). w.e) c.put_ranks-all.ensures.0 ∙ along_encoder _ _ _ _ _ _ ∙ rw (e, c.skip-c.ensures, u)

all-bytes : (c : After-put_ranks-all) → let a = c.args in c.put_ranks-all.new.dst ≡ d3 a.s (begun a.start a.second) (front a.file.now a.v a.x) (added a.x) (rest a.file.now a.v a.x) a.dst.now
all-bytes c =
    let a = c.args in
    let i = c.start-c.ensures in
    let j = c.begin-e.ensures in
    let k = c.put_ranks-front.ensures.0 in
    let e = encoder-2 a.dst.now a.file.now a.v a.x a.s a.start a.second _ _ i j _ k _ c.put_added-e.ensures.0 in
    let l = bytes-2 a.dst.now a.file.now a.v a.x a.s a.start a.second _ _ i j _ k _ _ c.put_ranks-front.ensures.1 c.put_added-e.ensures.1 in
    let u = cursor-1 a.dst.now a.file.now a.v a.x a.s a.start a.second _ _ i j _ k in
    c.put_ranks-all.ensures.1 ∙ rw (e, l, c.skip-c.ensures, u)

pub start-c-requires : goal.start-c-requires
start-c-requires c = allowed c.args.file.now c.args.v c.requires.0

pub put_ranks-front-requires : goal.put_ranks-front-requires
put_ranks-front-requires c =
    let a = c.args in
    let p = c.requires in
    let t = edit-along a.file.now a.v p.0 a.x p.1 a.s a.start a.second p.2 p.4 p.5 in
    let m = edit_rooms a.file.now a.v p.0 a.x p.1 a.s a.start a.second (length a.dst.now) p.3 in
    rw (c.begin-e.ensures, c.start-c.ensures) (allowed a.file.now a.v p.0, p.2, t.front, m.front, p.0, reached_first a.file.now a.v p.0 a.x p.1)

pub put_added-e-requires : goal.put_added-e-requires
put_added-e-requires c =
    let a = c.args in
    let p = c.requires in
    let t = edit-along a.file.now a.v p.0 a.x p.1 a.s a.start a.second p.2 p.4 p.5 in
    let m = edit_rooms a.file.now a.v p.0 a.x p.1 a.s a.start a.second (length a.dst.now) p.3 in
    let n = ap length (front_bytes (goal.at.put_added-e-requires c).After-put_ranks-front) ∙ length_d1 a.s (begun a.start a.second) (front a.file.now a.v a.x) (added a.x) (rest a.file.now a.v a.x) a.dst.now in
    rw (front-encoder (goal.at.put_added-e-requires c).After-put_ranks-front, n) (p.2, t.middle, m.middle)

pub overflow_sub-x : goal.overflow_sub-x
overflow_sub-x c = omega (arith, c.requires.1.ordered)

pub skip-c-requires : goal.skip-c-requires
skip-c-requires c = allowed c.args.file.now c.args.v c.requires.0

pub overflow_sub-v : goal.overflow_sub-v
overflow_sub-v c =
    let a = c.args in
    let p = c.requires in
    omega (arith, (ranks-there a.file.now a.v p.0 a.x p.1).1)

pub put_ranks-all-requires : goal.put_ranks-all-requires
put_ranks-all-requires c =
    let a = c.args in
    let p = c.requires in
    let t = edit-along a.file.now a.v p.0 a.x p.1 a.s a.start a.second p.2 p.4 p.5 in
    let m = edit_rooms a.file.now a.v p.0 a.x p.1 a.s a.start a.second (length a.dst.now) p.3 in
    let n = ap length (middle-bytes (goal.at.put_ranks-all-requires c).After-put_added-e) ∙ length_d2 a.s (begun a.start a.second) (front a.file.now a.v a.x) (added a.x) (rest a.file.now a.v a.x) a.dst.now in
    rw (middle-encoder (goal.at.put_ranks-all-requires c).After-put_added-e, c.skip-c.ensures, front-cursor (goal.at.put_ranks-all-requires c).After-put_ranks-front, n) (allowed a.file.now a.v p.0, p.2, t.rest, m.rest, p.0, reached_rest a.file.now a.v p.0 a.x p.1)

pub finish-requires : goal.finish-requires
finish-requires c =
    let a = c.args in
    let p = c.requires in
    let t = edit-along a.file.now a.v p.0 a.x p.1 a.s a.start a.second p.2 p.4 p.5 in
    let m = edit_rooms a.file.now a.v p.0 a.x p.1 a.s a.start a.second (length a.dst.now) p.3 in
    let n = ap length (all-bytes (goal.at.finish-requires c).After-put_ranks-all) ∙ length_d3 a.s (begun a.start a.second) (front a.file.now a.v a.x) (added a.x) (rest a.file.now a.v a.x) a.dst.now in
    rw (all-encoder (goal.at.finish-requires c).After-put_ranks-all, n) (p.2, t.sound, m.first, m.second)

pub returns : goal.returns
returns c =
    let a = c.args in
    let p = c.requires in
    c.finish.ensures ∙ rw (all-encoder (goal.at.returns c).After-put_ranks-all, all-bytes (goal.at.returns c).After-put_ranks-all)
    (edit-put a.file.now a.v p.0 a.x p.1 a.s a.start a.second (length a.dst.now) p.3 a.dst.now)
