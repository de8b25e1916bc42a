-- One pass that stops at each rank that a pointer names. Assumes nothing.
use Prim.Native.Nat.{ℕ, ◌+◌, ◌*◌, ◌^◌, ◌≤◌, ◌<◌}
use mathlib.Core.Path.{◌≡◌, sym, ap, ◌∙◌}
use native.Mathlib.Nat.{le_refl}
use native.Mathlib.Omega.{arith}
use borrow.Author.Tests.{ne_eqb}
use Rattle.format.specs.Tools.{up_to}
use Rattle.format.specs.Bytes.{field}
use Rattle.jump_pass.specs.Pass.{Readable, Goes}
use Rattle.jump_pass.proofs.Turns.{reach_most, entry_room}
use Rattle.jump_pass.proofs.Groups.{readable}
use Rattle.pointed_jumps.proofs.Held.{steps, laid, pointers-there}
use Rattle.pointed_jumps.proofs.Pointed.{pointer}
use Rattle.pointed_jumps.proofs.Come.{wrong_pass, wrong_pointer, wrong_count, come_on, wrong_end, come_end}
use Rattle.pointed_jumps.proofs.check.pass.Goals.{At-loop-k, In-loop-k, In-Some, In-Some-pass_span, then-next-rank-via-then-next-rank, then-next-rank-via-else-next-rank+then-words-next, then-t-k-via-then-t-k, then-t-k-via-else-t-k+then-difference-ne0}
use Rattle.pointed_jumps.proofs.check.pass.Goals as goal

pub pointers_at-pointers-requires : goal.pointers_at-pointers-requires
pointers_at-pointers-requires c = let z = laid _ _ c.requires.0 in (omega arith, rw c.requires.1 z.wide)

pub pointer_count-count-requires : goal.pointer_count-count-requires
pointer_count-count-requires c = (steps _ _ c.requires.0.allowed).0

-- from where the loop has come to, a span of ranks can be passed
span : (c : At-loop-k) (end : ℕ)
    → let a = c.args in
    c.loop-k.rank ≤ end → end ≤ a.v.words → Readable a.width a.v.second a.file.now c.loop-k.rank end c.loop-k.s
span c end h m =
    let z = laid _ _ c.requires.0 in
    let g = c.loop-k.invariant.goes in
    let n = g.left in
    readable c.args.file.now c.args.v z c.requires.1 c.loop-k.rank end c.loop-k.s h m (omega arith) g.least

-- ---- the next pointer

there : (c : In-loop-k) → let v = c.args.v in c.pointers_at-pointers.result ≡ v.second + v.width * v.words
there c = c.pointers_at-pointers.ensures ∙ ap (λ (w : ℕ). c.args.v.second + w * c.args.v.words) c.requires.1

below : (c : In-loop-k) → c.loop-k.k < up_to c.args.v.firsts c.args.v.step
below c = rw c.pointer_count-count.ensures.0 at c.loop-k-test.true

least : (c : In-loop-k) → 1 ≤ c.args.v.step
least c = (steps _ _ c.requires.0.allowed).0

pub get_u32-next-requires : goal.get_u32-next-requires
get_u32-next-requires c =
    let m = goal.at.get_u32-next-requires c in
    let i = pointers-there _ _ c.requires.0 in
    let h = below m.In-loop-k in
    let e = there m.In-loop-k in
    omega arith

named : (c : In-loop-k) {x : ℕ} → x ≡ field 4 (c.pointers_at-pointers.result + 4 * c.loop-k.k) c.args.file.now → x ≡ pointer c.args.file.now c.args.v c.loop-k.k
named c e = e ∙ ap (λ (x : ℕ). field 4 (x + 4 * c.loop-k.k) c.args.file.now) (there c)

pub returns-then-next-rank : goal.returns-then-next-rank
returns-then-next-rank c =
    let l = (goal.at.returns-then-next-rank c).In-loop-k in
    wrong_pointer _ _ (laid _ _ c.requires.0) (least l) c.loop-k.invariant (below l) (named l c.get_u32-next.ensures.0)
    (λ h p.
    let r = p.rank in
    elim c.then-next-rank.branch [
      | then-next-rank-via-then-next-rank w ↦ let t = w.if-next-rank.true in omega arith
      | then-next-rank-via-else-next-rank+then-words-next w ↦ let t = w.if-words-next.true in omega arith
    ])

pub pass_span-requires : goal.pass_span-requires
pass_span-requires c =
    (span (goal.at.pass_span-requires c).At-loop-k c.get_u32-next.result c.if-next-rank.false (omega arith), c.requires.2)

pub returns-in_default : goal.returns-in_default
returns-in_default c =
    let l = (goal.at.returns-in_default c).In-loop-k in
    wrong_pass _ _ (laid _ _ c.requires.0) (least l) c.loop-k.invariant c.if-next-rank.false (omega arith) (rw c.requires.1 at c.in_default.ensures)

pub difference-requires : goal.difference-requires
difference-requires c = entry_room c.args.v c.args.file.now c.get_u32-next.result (laid _ _ c.requires.0) c.requires.1 c.if-words-next.false

-- the ranks before it are passed
gone : (c : In-Some)
    → let a = c.args in
    Goes a.v.width a.v.second a.file.now c.loop-k.rank c.get_u32-next.result c.loop-k.s c.in-Some.t
gone c = rw c.requires.1 at c.in-Some.ensures

pub returns-then-t-k : goal.returns-then-t-k
returns-then-t-k c =
    let m = goal.at.returns-then-t-k c in
    let l = m.In-loop-k in
    let z = laid _ _ c.requires.0 in
    let q = named l c.get_u32-next.ensures.0 in
    elim c.then-t-k.branch [
      | then-t-k-via-then-t-k w ↦
          wrong_count _ _ z (least l) c.loop-k.invariant (below l) q c.if-next-rank.false c.if-words-next.false (gone m.In-Some) w.if-t-k.true
      | then-t-k-via-else-t-k+then-difference-ne0 w ↦
          wrong_pointer _ _ z (least l) c.loop-k.invariant (below l) q
          (λ h p. w.if-difference-ne0.true (rw c.requires.1 at w.difference.ensures.0 ∙ p.jump))
    ]

pub loop-k-preserved : goal.loop-k-preserved
loop-k-preserved c =
    let m = goal.at.loop-k-preserved c in
    let l = m.In-loop-k in
    come_on _ _ (laid _ _ c.requires.0) (least l) c.loop-k.invariant (below l) (named l c.get_u32-next.ensures.0) c.if-next-rank.false c.if-words-next.false
    (gone m.In-Some) c.if-t-k.false (sym (rw c.requires.1 at c.difference.ensures.0) ∙ c.if-difference-ne0.false)

-- ---- after the last pointer

pub pass_span-requires-2 : goal.pass_span-requires-2
pass_span-requires-2 c = (span (goal.at.pass_span-requires-2 c).At-loop-k c.args.v.words c.loop-k.invariant.rank (le_refl _), c.requires.2)

pub returns-in_default-pass_span : goal.returns-in_default-pass_span
returns-in_default-pass_span c =
    let i = c.loop-k.invariant in
    wrong_pass _ _ (laid _ _ c.requires.0) (steps _ _ c.requires.0.allowed).0 i i.rank (le_refl _) (rw c.requires.1 at c.in_default-pass_span.ensures)

pub overflow_add-result : goal.overflow_add-result
overflow_add-result c =
    let z = laid _ _ c.requires.0 in
    let w : c.args.width ≤ 2 = rw c.requires.1 z.wide in
    let m = reach_most c.requires.2 w in
    record { fits = omega arith }

all : (c : In-Some-pass_span) → up_to c.args.v.firsts c.args.v.step ≤ c.loop-k.k
all c = rw c.pointer_count-count.ensures.0 at c.loop-k-test.false

ended : (c : In-Some-pass_span)
    → let a = c.args in
    Goes a.v.width a.v.second a.file.now c.loop-k.rank a.v.words c.loop-k.s c.in-Some-pass_span.end
ended c = rw c.requires.1 at c.in-Some-pass_span.ensures

pub returns-then-end-eq0 : goal.returns-then-end-eq0
returns-then-end-eq0 c =
    let s = (goal.at.returns-then-end-eq0 c).In-Some-pass_span in
    come_end _ _ (laid _ _ c.requires.0) (steps _ _ c.requires.0.allowed).0 c.loop-k.invariant (all s) (ended s) c.if-end-eq0.true
    (c.requires.2 ∙ ap (λ (w : ℕ). 256 ^ w) c.requires.1)

pub returns-else-end-eq0 : goal.returns-else-end-eq0
returns-else-end-eq0 c =
    let s = (goal.at.returns-else-end-eq0 c).In-Some-pass_span in
    ne_eqb _ 0 c.if-end-eq0.false
    ∙ wrong_end _ _ (laid _ _ c.requires.0) (steps _ _ c.requires.0.allowed).0 c.loop-k.invariant (all s) (ended s) c.if-end-eq0.false
