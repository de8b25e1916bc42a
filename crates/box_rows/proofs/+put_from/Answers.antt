-- Each turn puts out the box in the dimensions after i, of which there are fewer. Assumes nothing.
use Rattle.std.proofs.Common.{◌≡◌, ℕ, ◌+◌, ◌-◌, ◌*◌, ◌^◌, ◌<◌, ◌≤◌, List, [], ◌∷◌, length, get_or, drop, arith, rules}
use native.Mathlib.Nat.{le_refl}
use lib.Arith.{lt_of_le-ne}
use lib.ListN.{drop_of_length-le}
use Rattle.format.specs.Picture.{most_dimensions}
use Rattle.box_rows.specs.Filling.{BoxGoes}
use Rattle.box_region.proofs.Counted.{Four}
use Rattle.box_rows.proofs.Turns.{first_goes, first-filled, in_order, cell-small, row_goes, row-filled, box_start, box_down, box_turn, box_end}
use Rattle.box_rows.proofs.+put_from.Goals.{Start, In-loop-a}
use Rattle.box_rows.proofs.+put_from.Goals as goal

-- the bounds in dimension i
abbrev extent : (t : ℕ) → Start t → ℕ
extent t c = get_or c.args.extents c.args.i 0

abbrev low : (t : ℕ) → Start t → ℕ
low t c = get_or c.args.low c.args.i 0

abbrev high : (t : ℕ) → Start t → ℕ
high t c = get_or c.args.high c.args.i 0

four : (t : ℕ) (c : Start t) → Four c.args.extents c.args.low c.args.high
four t c = (search rules, search rules, search rules)

abbrev Goes : (t : ℕ) → Start t → List ℕ → Type 0
Goes t c es =
    BoxGoes c.args.file.now c.args.v (extent t c ∷ es) (low t c ∷ drop (c.args.i + 1) c.args.low) (high t c ∷ drop (c.args.i + 1) c.args.high) c.args.p c.args.s
    (length c.args.dst.now)

goes : (t : ℕ) (c : Start t) → Goes t c (drop (c.args.i + 1) c.args.extents)
goes t c =
    first_goes c.args.file.now c.args.v c.args.i c.args.extents c.args.low c.args.high c.requires.0 (four t c) c.args.p c.args.s _ c.requires.1

small : (t : ℕ) (c : Start t) (a : ℕ) → a ≤ high t c → c.args.p * extent t c + a < 16777216
small t c a h = cell-small c.args.file.now c.args.v (extent t c) _ (low t c) _ (high t c) _ c.args.p c.args.s _ (goes t c) a h

ordered : (t : ℕ) (c : Start t) → low t c ≤ high t c
ordered t c = in_order c.args.file.now c.args.v (extent t c) _ (low t c) _ (high t c) _ c.args.p c.args.s _ (goes t c)

-- in the loop
reach : (t : ℕ) (c : In-loop-a t) → c.loop-a.a ≤ get_or c.args.high c.args.i 0
reach t c = let h = c.loop-a-test.true in omega arith

before_last : (i : ℕ) → i < most_dimensions → (i + 1 ≡ most_dimensions → ⊥) → i + 1 < most_dimensions
before_last i h k = let m : i + 1 ≤ most_dimensions = omega arith in lt_of_le-ne m k

-- the numbers of a position below the most cells
fitting : (x a l : ℕ) → x + a < 16777216 → (x < 2 ^ 32) × (x + a < 2 ^ 32) × (a - l + 1 < 2 ^ 32) × (a + 1 < 2 ^ 32)
fitting x a l h = (omega arith, omega arith, omega arith, omega arith)

fewer : (i t : ℕ) → i < most_dimensions → most_dimensions - i ≡ t → most_dimensions - (i + 1) < t
fewer i t h e = omega arith

-- no extent is left after the last
none : (t : ℕ) (c : Start t) → c.args.i + 1 ≡ most_dimensions → drop (c.args.i + 1) c.args.extents ≡ []
none t c e = drop_of_length-le c.args.extents {i = c.args.i + 1} (rw ((four t c).0, e) (le_refl _))

pub overflow_mul-before : goal.overflow_mul-before
overflow_mul-before t c =
    let s = (goal.at.overflow_mul-before t c).Start in
    record { fits = (fitting _ _ 0 (small t s (low t s) (ordered t s))).0 }

pub overflow_add-before : goal.overflow_add-before
overflow_add-before t c =
    let s = (goal.at.overflow_add-before t c).Start in
    record { fits = (fitting _ _ 0 (small t s (low t s) (ordered t s))).1 }

pub overflow_sub-last : goal.overflow_sub-last
overflow_sub-last t c = ordered t (goal.at.overflow_sub-last t c).Start

pub overflow_add-last : goal.overflow_add-last
overflow_add-last t c =
    let s = (goal.at.overflow_add-last t c).Start in
    record { fits = (fitting _ _ (low t s) (small t s (high t s) (le_refl _))).2 }

pub put_row-requires : goal.put_row-requires
put_row-requires t c =
    let s = (goal.at.put_row-requires t c).Start in
    row_goes s.args.file.now s.args.v (extent t s) (low t s) _ (high t s) _ s.args.p s.args.s _ (rw (none t s c.if-i-eq-DIMS.true) at (goes t s))

pub returns-then-i-eq-DIMS : goal.returns-then-i-eq-DIMS
returns-then-i-eq-DIMS t c =
    let s = (goal.at.returns-then-i-eq-DIMS t c).Start in
    let z = none t s c.if-i-eq-DIMS.true in
    first-filled s.args.file.now s.args.v s.args.i s.args.extents s.args.low s.args.high s.requires.0 (four t s) s.args.p s.args.s s.args.dst.now _ _
    (rw z (row-filled s.args.file.now s.args.v (extent t s) (low t s) _ (high t s) _ s.args.p s.args.s _ (rw z at (goes t s)) s.args.dst.now _ _ c.put_row.ensures))

pub loop-a-init : goal.loop-a-init
loop-a-init t c =
    let s = (goal.at.loop-a-init t c).Start in
    box_start s.args.file.now s.args.v (extent t s) _ _ _ s.args.p (high t s) (low t s) s.args.s s.args.dst.now (goes t s)

pub overflow_add-before-in-loop-a : goal.overflow_add-before-in-loop-a
overflow_add-before-in-loop-a t c =
    let p = goal.at.overflow_add-before-in-loop-a t c in
    record { fits = (fitting _ _ 0 (small t p.Start c.loop-a.a (reach t p.In-loop-a))).1 }

pub put_from-s-requires : goal.put_from-s-requires
put_from-s-requires t c =
    let p = goal.at.put_from-s-requires t c in
    let s = p.Start in
    let l = c.loop-a in
    let k = s.requires.0 in
    let n : s.args.i + 1 < most_dimensions = before_last _ k c.if-i-eq-DIMS.false in
    (fewer _ t k s.decreases, (n, box_down s.args.file.now s.args.v (extent t s) _ _ _ s.args.p (high t s) (low t s) s.args.s s.args.dst.now (goes t s) l.s l.dst l.a l.invariant (reach t p.In-loop-a)))

pub loop-a-preserved : goal.loop-a-preserved
loop-a-preserved t c =
    let p = goal.at.loop-a-preserved t c in
    let s = p.Start in
    let l = c.loop-a in
    box_turn s.args.file.now s.args.v (extent t s) _ _ _ s.args.p (high t s) (low t s) s.args.s s.args.dst.now (goes t s) l.s l.dst l.a l.invariant (reach t p.In-loop-a) _ _
    c.put_from-s.ensures

pub overflow_add-a-end : goal.overflow_add-a-end
overflow_add-a-end t c =
    let s = (goal.at.overflow_add-a-end t c).Start in
    let h = small t s (high t s) (le_refl _) in
    record { fits = omega arith }

pub returns : goal.returns
returns t c =
    let s = (goal.at.returns t c).Start in
    let l = c.loop-a in
    first-filled s.args.file.now s.args.v s.args.i s.args.extents s.args.low s.args.high s.requires.0 (four t s) s.args.p s.args.s s.args.dst.now _ _
    (box_end s.args.file.now s.args.v (extent t s) _ _ _ s.args.p (high t s) (low t s) s.args.s s.args.dst.now (goes t s) l.s l.dst l.a l.invariant (omega (arith, c.loop-a-test.false)))
