-- Each turn puts the words of stored cells, or E up to the next one, and the cells that are left give the row. Assumes nothing.
use Prim.Native.Nat.{◌+◌, ◌-◌, ◌*◌, ◌^◌, ◌≤◌, ◌<◌}
use mathlib.Core.Path.{◌≡◌, refl}
use mir.Val.{Fits}
use mir.Syntax.{w32}
use native.Mathlib.Omega.{arith}
use lib.ListN.{length, replicate}
use Rattle.parts.proofs.Seen.{seen}
use Rattle.box_rows.proofs.Rows.{part_filled, stands-past, stands_here, words-empty, words-there, words-stored, row_start, row_inside, row_turn, row-end}
use borrow.Author.Rules.{rules}
use Rattle.box_rows.proofs.put_row.Goals.{After-empty_ahead-m, After-stored_ahead-m, In-loop-k, Start}
use Rattle.box_rows.proofs.put_row.Goals as goal

-- where the words stand
place : (c : Start) → Fits w32 c.args.v.place
place c = search rules

-- m cells more lie in the picture, and their words in the destination
inside : (c : In-loop-k) (m : Prim.Native.Nat.ℕ) → c.loop-k.k + m ≤ c.args.s.words + c.args.n
    → c.loop-k.p + m ≤ c.args.v.cells
inside c m h =
    let l = c.loop-k in
    row_inside c.args.file.now c.args.v c.args.from c.args.n c.args.s.words c.args.dst.now l.dst l.c l.p l.k l.invariant m c.args.v.cells h c.requires.inside

few : (c : In-loop-k) → c.args.v.cells ≤ 16777216
few c = (seen c.args.file.now c.args.v c.requires.view).header.counted.cells-most

cell : (c : In-loop-k) → c.loop-k.p < c.args.v.cells
cell c = let h = inside c 1 (omega (arith, c.loop-k-test.true)) in omega arith

there : (c : In-loop-k) → c.loop-k.k < length c.loop-k.dst
there c = let h = c.requires.fits in let e = c.loop-k.invariant.size in let k = c.loop-k-test.true in omega arith

offset : (c : In-loop-k) → c.loop-k.k * 4 < 2 ^ 64
offset c = let h = there c in search rules

-- the empty cells of a turn
more : (c : After-empty_ahead-m) → c.loop-k.k + c.empty_ahead-m.result ≤ c.args.s.words + c.args.n
more c = let e = c.empty_ahead-m.ensures.0 in let k = c.loop-k-test.true in omega arith

pub overflow_add-end : goal.overflow_add-end
overflow_add-end c = let h = c.requires.fits in search rules

pub loop-k-init : goal.loop-k-init
loop-k-init c =
    row_start c.args.file.now c.args.v c.args.from c.args.n c.args.s.words c.args.dst.now c.args.s.cursor c.requires.ready

pub rank_from-sought-requires : goal.rank_from-sought-requires
rank_from-sought-requires c = (c.requires.view, cell c, c.loop-k.invariant.ready)

pub overflow_sub-end : goal.overflow_sub-end
overflow_sub-end c = let k = c.loop-k-test.true in omega arith

pub empty_ahead-m-requires : goal.empty_ahead-m-requires
empty_ahead-m-requires c =
    let r = c.rank_from-sought in
    stands-past c.args.file.now c.args.v c.requires.view c.loop-k.p (cell (goal.at.empty_ahead-m-requires c).In-loop-k) r.result.cursor r.ensures.1 r.result.answer r.ensures.0 c.in_default.not-Rank

pub slice_bounds-fill-end : goal.slice_bounds-fill-end
slice_bounds-fill-end c =
    let h = c.requires.fits in
    let e = c.loop-k.invariant.size in
    let m = more (goal.at.slice_bounds-fill-end c).After-empty_ahead-m in
    omega arith

pub overflow_add-k : goal.overflow_add-k
overflow_add-k c =
    let h = offset (goal.at.overflow_add-k c).In-loop-k in
    let i = inside (goal.at.overflow_add-k c).In-loop-k _ (more (goal.at.overflow_add-k c).After-empty_ahead-m) in
    let f = few (goal.at.overflow_add-k c).In-loop-k in
    record { fits = omega arith }

pub overflow_cast-p : goal.overflow_cast-p
overflow_cast-p c =
    let i = inside (goal.at.overflow_cast-p c).In-loop-k _ (more (goal.at.overflow_cast-p c).After-empty_ahead-m) in
    let f = few (goal.at.overflow_cast-p c).In-loop-k in
    search rules

pub overflow_add-p : goal.overflow_add-p
overflow_add-p c =
    let i = inside (goal.at.overflow_add-p c).In-loop-k _ (more (goal.at.overflow_add-p c).After-empty_ahead-m) in
    let f = few (goal.at.overflow_add-p c).In-loop-k in
    search rules

pub loop-k-smaller-in_default : goal.loop-k-smaller-in_default
loop-k-smaller-in_default c =
    let k = c.loop-k-test.true in
    let e = c.empty_ahead-m.ensures in
    let m = e.1 (omega arith) in
    let l = more (goal.at.loop-k-smaller-in_default c).After-empty_ahead-m in
    omega arith

pub loop-k-preserved-in_default : goal.loop-k-preserved-in_default
loop-k-preserved-in_default c =
    let l = c.loop-k in
    let r = c.rank_from-sought in
    let a = c.empty_ahead-m in
    let h = more (goal.at.loop-k-preserved-in_default c).After-empty_ahead-m in
    let i = inside (goal.at.loop-k-preserved-in_default c).In-loop-k a.result h in
    let y = r.ensures.1.ready in
    row_turn c.args.file.now c.args.v c.args.from c.args.n c.args.s.words c.args.dst.now l.dst l.c l.p l.k l.invariant
    r.result.cursor a.result (replicate a.result c.args.v.empty) _ h
    (words-empty c.args.file.now c.args.v c.requires.view r.result.cursor l.p a.result y i a.ensures.2) (part_filled l.dst _ l.k a.result c.args.v.empty (let z = l.invariant.size in let f = c.requires.fits in omega arith) (c.fill.ensures.after (λ v w. w))) y

-- the cursor stands at the rank
here : (c : After-stored_ahead-m) → (c.rank_from-sought.result.cursor.rank < c.args.v.words) × (c.rank_from-sought.result.cursor.at ≡ c.loop-k.p) × (c.rank_from-sought.result.cursor.rank ≡ c.in-Rank.rank.0)
here c =
    let l = c.loop-k in
    let t = c.loop-k-test.true in
    let i = row_inside c.args.file.now c.args.v c.args.from c.args.n c.args.s.words c.args.dst.now l.dst l.c l.p l.k l.invariant 1 c.args.v.cells (omega arith) c.requires.inside in
    let k : l.p < c.args.v.cells = omega arith in
    let r = c.rank_from-sought in
    stands_here c.args.file.now c.args.v c.requires.view c.loop-k.p k r.result.cursor r.ensures.1 r.result.answer r.ensures.0 _ c.in-Rank.is

-- the stored cells of a turn
many : (c : After-stored_ahead-m) → c.loop-k.k + c.stored_ahead-m.result ≤ c.args.s.words + c.args.n
many c = let e = c.stored_ahead-m.ensures.1 in let k = c.loop-k-test.true in omega arith

pub overflow_sub-end-in-loop-k : goal.overflow_sub-end-in-loop-k
overflow_sub-end-in-loop-k c = let k = c.loop-k-test.true in omega arith

pub overflow_cast-end-in-loop-k : goal.overflow_cast-end-in-loop-k
overflow_cast-end-in-loop-k c =
    let k = c.loop-k-test.true in
    let i = inside (goal.at.overflow_cast-end-in-loop-k c).In-loop-k (c.args.s.words + c.args.n - c.loop-k.k) (omega arith) in
    let f = few (goal.at.overflow_cast-end-in-loop-k c).In-loop-k in
    search rules

pub stored_ahead-m-requires : goal.stored_ahead-m-requires
stored_ahead-m-requires c = let k = c.loop-k-test.true in omega arith

pub overflow_add-words : goal.overflow_add-words
overflow_add-words c = let at = place (goal.at.overflow_add-words c).Start in search rules

pub copy_words-requires : goal.copy_words-requires
copy_words-requires c =
    let r = c.rank_from-sought in
    let h = here (goal.at.copy_words-requires c).After-stored_ahead-m in
    let w = words-there c.args.file.now c.args.v c.requires.view r.result.cursor c.loop-k.p c.stored_ahead-m.result r.ensures.1.ready h.0 h.1 c.stored_ahead-m.ensures.2 in
    let e = h.2 in
    let m = many (goal.at.copy_words-requires c).After-stored_ahead-m in
    let f = c.requires.fits in
    let z = c.loop-k.invariant.size in
    (omega arith, omega arith)

pub overflow_add-k-in-loop-k : goal.overflow_add-k-in-loop-k
overflow_add-k-in-loop-k c =
    let h = offset (goal.at.overflow_add-k-in-loop-k c).In-loop-k in
    let i = inside (goal.at.overflow_add-k-in-loop-k c).In-loop-k _ (many (goal.at.overflow_add-k-in-loop-k c).After-stored_ahead-m) in
    let f = few (goal.at.overflow_add-k-in-loop-k c).In-loop-k in
    record { fits = omega arith }

pub overflow_add-p-in-loop-k : goal.overflow_add-p-in-loop-k
overflow_add-p-in-loop-k c =
    let i = inside (goal.at.overflow_add-p-in-loop-k c).In-loop-k _ (many (goal.at.overflow_add-p-in-loop-k c).After-stored_ahead-m) in
    let f = few (goal.at.overflow_add-p-in-loop-k c).In-loop-k in
    search rules

pub loop-k-smaller : goal.loop-k-smaller
loop-k-smaller c =
    let k = c.loop-k-test.true in
    let e = c.stored_ahead-m.ensures.0 in
    let m = many (goal.at.loop-k-smaller c).After-stored_ahead-m in
    omega arith

pub loop-k-preserved : goal.loop-k-preserved
loop-k-preserved c =
    let l = c.loop-k in
    let r = c.rank_from-sought in
    let y = r.ensures.1.ready in
    let m = c.stored_ahead-m.result in
    let h = here (goal.at.loop-k-preserved c).After-stored_ahead-m in
    let x = words-stored c.args.file.now c.args.v c.requires.view r.result.cursor l.p m y h.0 h.1 c.stored_ahead-m.ensures.2 (inside (goal.at.loop-k-preserved c).In-loop-k m (many (goal.at.loop-k-preserved c).After-stored_ahead-m)) in
    row_turn c.args.file.now c.args.v c.args.from c.args.n c.args.s.words c.args.dst.now l.dst l.c l.p l.k l.invariant
    r.result.cursor m _ _ (many (goal.at.loop-k-preserved c).After-stored_ahead-m) (rw h.2 at x) c.copy_words.ensures y

pub returns : goal.returns
returns c =
    let l = c.loop-k in
    row-end c.args.file.now c.args.v c.args.from c.args.n c.args.s.words c.args.dst.now l.dst l.c l.p l.k l.invariant c.args.s refl c.loop-k-test.false
