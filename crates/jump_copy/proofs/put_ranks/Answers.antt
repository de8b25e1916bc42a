use Prim.Native.Nat.{◌+◌, ◌-◌, ◌*◌, ◌^◌, ◌≤◌, ◌<◌}
use mathlib.Core.Path.{◌≡◌, sym, ap, ◌∙◌}
use native.Mathlib.Nat.{pos_of_ne-zero}
use native.Mathlib.Omega.{arith}
use borrow.Author.Rules.{rules}
use lib.ListN.{length}
use Rattle.format.specs.Tools.{Below}
use Rattle.laws.proofs.Bounds.{below_elements}
use Rattle.stores.proofs.Laws.{length-put}
use Rattle.parts.proofs.Carried.{end_whole, end-put, length-put-all}
use Rattle.jump_walk.specs.Steps.{next}
use Rattle.jump_entries.specs.Coding.{jumps_coder}
use Rattle.jump_copy.proofs.Copies.{first-along, first-room, jumps-least, jumps-there, differences-there, encoder_fits, copies_room, put-ranks}
use Rattle.jump_copy.proofs.put_ranks.Goals.{After-ranks_on-last}
use Rattle.jump_copy.proofs.put_ranks.Goals as goal

pub returns-then-n-eq0 : goal.returns-then-n-eq0
returns-then-n-eq0 c =
    let a = c.args in
    let z = c.if-n-eq0.true in
    let f = next a.file.now a.v in
    let k = jumps_coder a.v.width in
    record { walk = sym (end_whole f k a.c a.e a.n (omega arith)); bytes = sym (end-put f k a.c a.e a.n (omega arith) a.dst.now) }

pub put_all-at-requires : goal.put_all-at-requires
put_all-at-requires c =
    let a = c.args in
    let h = c.requires.0.1 in
    let z = pos_of_ne-zero c.if-n-eq0.false in (
      h.laid.narrow,
      h.laid.wide,
      first-along a.file.now a.v c.requires.0.0 h a.c a.n c.requires.1 z a.e c.requires.2,
      first-room a.file.now a.v c.requires.0.0 h a.c a.n c.requires.1 z a.e (length a.dst.now) c.requires.3,
    )

pub overflow_sub-n : goal.overflow_sub-n
overflow_sub-n c = pos_of_ne-zero c.if-n-eq0.false

pub ranks_on-last-requires : goal.ranks_on-last-requires
ranks_on-last-requires c =
    let z = pos_of_ne-zero c.if-n-eq0.false in
    let m = c.requires.1.most in
    (c.requires.0, record { rank = c.requires.1.rank; steps = c.requires.1.steps; most = omega arith })

-- the last rank is reached
some : (c : After-ranks_on-last) → 0 < c.args.n
some c = pos_of_ne-zero c.if-n-eq0.false

least : (c : After-ranks_on-last) → c.args.c.next ≤ c.ranks_on-last.result.next
least c =
    let a = c.args in
    jumps-least a.file.now a.v c.requires.0.0 c.requires.0.1 a.c a.n c.requires.1 (some c) c.ranks_on-last.ensures

jumps_in : (c : After-ranks_on-last) → c.args.v.start + 4 * c.args.c.next + 4 * (c.ranks_on-last.result.next - c.args.c.next) ≤ length c.args.file.now
jumps_in c =
    let a = c.args in
    jumps-there a.file.now a.v c.requires.0.0 c.requires.0.1 a.c a.n c.requires.1 (some c) c.ranks_on-last.ensures

differences-in : (c : After-ranks_on-last)
    → c.args.v.second + c.args.v.width * (c.args.c.rank + 1) + c.args.v.width * (c.args.n - 1) ≤ length c.args.file.now
differences-in c =
    let a = c.args in
    differences-there a.file.now a.v c.requires.0.0 c.requires.0.1 a.c a.n c.requires.1 (some c) c.ranks_on-last.ensures

file-fits : (c : After-ranks_on-last) → length c.args.file.now < 2 ^ 64
file-fits c = search rules

rooms : (c : After-ranks_on-last) → let a = c.args in
    (c.put_all-at.result.first + 4 * (c.ranks_on-last.result.next - a.c.next) ≤ length a.dst.now)
    × (c.put_all-at.result.second + a.v.width * (a.n - 1) ≤ length a.dst.now)
rooms c =
    let a = c.args in
    copies_room a.file.now a.v c.requires.0.0 c.requires.0.1 a.c a.n c.requires.1 (some c) c.ranks_on-last.ensures a.e c.requires.2
    c.put_all-at.ensures.0 a.dst.now c.requires.3

length-first : (c : After-ranks_on-last) → length c.put_all-at.new.dst ≡ length c.args.dst.now
length-first c =
    let a = c.args in
    ap length c.put_all-at.ensures.1 ∙ length-put-all (jumps_coder a.v.width) a.dst.now a.e _

pub overflow_sub-jumps : goal.overflow_sub-jumps
overflow_sub-jumps c = least (goal.at.overflow_sub-jumps c).After-ranks_on-last

pub overflow_add-v : goal.overflow_add-v
overflow_add-v c = let i = jumps_in (goal.at.overflow_add-v c).After-ranks_on-last in let g = file-fits (goal.at.overflow_add-v c).After-ranks_on-last in record { fits = omega arith }

pub copy-requires : goal.copy-requires
copy-requires c =
    let i = jumps_in (goal.at.copy-requires c).After-ranks_on-last in
    let k = (rooms (goal.at.copy-requires c).After-ranks_on-last).0 in
    let n = length-first (goal.at.copy-requires c).After-ranks_on-last in
    (omega arith, omega arith)

-- no place in the file wraps
pub overflow_mul-width : goal.overflow_mul-width
overflow_mul-width c = let i = differences-in (goal.at.overflow_mul-width c).After-ranks_on-last in let g = file-fits (goal.at.overflow_mul-width c).After-ranks_on-last in record { fits = omega arith }

pub overflow_add-v-2 : goal.overflow_add-v-2
overflow_add-v-2 c = let i = differences-in (goal.at.overflow_add-v-2 c).After-ranks_on-last in let g = file-fits (goal.at.overflow_add-v-2 c).After-ranks_on-last in record { fits = omega arith }

pub overflow_sub-n-2 : goal.overflow_sub-n-2
overflow_sub-n-2 c = some (goal.at.overflow_sub-n-2 c).After-ranks_on-last

pub overflow_mul-width-2 : goal.overflow_mul-width-2
overflow_mul-width-2 c = let i = differences-in (goal.at.overflow_mul-width-2 c).After-ranks_on-last in let g = file-fits (goal.at.overflow_mul-width-2 c).After-ranks_on-last in record { fits = omega arith }

pub copy-requires-2 : goal.copy-requires-2
copy-requires-2 c =
    let i = differences-in (goal.at.copy-requires-2 c).After-ranks_on-last in
    let k = (rooms (goal.at.copy-requires-2 c).After-ranks_on-last).1 in
    let n = length-first (goal.at.copy-requires-2 c).After-ranks_on-last in
    let m = ap length c.copy.ensures ∙ length-put _ _ _ in
    (omega arith, omega arith)

pub overflow_sub-n-3 : goal.overflow_sub-n-3
overflow_sub-n-3 c = some (goal.at.overflow_sub-n-3 c).After-ranks_on-last

pub encoder_on-requires : goal.encoder_on-requires
encoder_on-requires c =
    let a = c.args in
    encoder_fits a.file.now a.v c.requires.0.0 c.requires.0.1 a.c a.n c.requires.1 (some (goal.at.encoder_on-requires c).After-ranks_on-last) c.ranks_on-last.ensures a.e c.requires.2 c.put_all-at.ensures.0

pub returns : goal.returns
returns c =
    let a = c.args in
    let small : Below 256 a.file.now = below_elements 256 a.file.now (λ i. (c.type_inv.file i).fits) in
    put-ranks a.file.now a.v c.requires.0.0 c.requires.0.1 a.c a.n c.requires.1 (some (goal.at.returns c).After-ranks_on-last) c.ranks_on-last.ensures a.e c.requires.2 c.put_all-at.ensures.0
    a.dst.now c.requires.3 small c.encoder_on.ensures c.next.ensures c.put_all-at.ensures.1 c.copy.ensures c.copy-2.ensures
