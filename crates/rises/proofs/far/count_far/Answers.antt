use Rattle.std.proofs.Common.{◌≡◌, ◌+◌, ◌-◌, ◌∙◌, length, get_or, drop, arith, rules, add-zero}
use Rattle.std.proofs.lemmas.Iterator.{window_more}
use Rattle.std.specs.Slice.Iter.{windows_rest}
use Rattle.laws.proofs.Stored.{rising-length}
use Rattle.laws.proofs.Positions.{rising_le}
use Rattle.rises.proofs.Falls.{raised, not-less}
use Rattle.rises.proofs.Ends.{far_turn, far-short}
use Rattle.rises.proofs.far.count_far.Goals as goal

pub overflow_sub-w : goal.overflow_sub-w
overflow_sub-w c =
    let l = c.loop-w in
    let i = length c.args.ps.now - length (windows_rest l.w-iterator) in
    let h = window_more c.args.ps.now l.w-iterator c.next.new.self _ _ c.in-Some.is c.next.ensures.steps (search rules) l.invariant.1 l.invariant.2 in
    let first = h.3 0 0 (search rules) in
    let second = h.3 1 0 (search rules) in
    let le = rising_le 0 16777216 c.args.ps.now (i + 0) (i + 1) c.requires (omega arith) (omega arith) in
    omega arith

pub overflow_add-count : goal.overflow_add-count
overflow_add-count c =
    let n = rising-length 0 16777216 c.args.ps.now (omega arith) c.requires in
    let m = raised _ _ _ c.from-count.ensures (not-less _ _) in
    record { fits = omega arith }

pub loop-w-preserved : goal.loop-w-preserved
loop-w-preserved c =
    let l = c.loop-w in
    let ps = c.args.ps.now in
    let i = length ps - length (windows_rest l.w-iterator) in
    let h = window_more ps l.w-iterator c.next.new.self _ _ c.in-Some.is c.next.ensures.steps (search rules) l.invariant.1 l.invariant.2 in
    let j : length ps - length (windows_rest c.next.new.self) ≡ i + 1 = omega arith in
    let e : get_or c.in-Some.w.now 0 0 ≡ get_or ps i 0 = h.3 0 0 (search rules) ∙ rw (add-zero i) in
    let f : get_or c.in-Some.w.now 1 0 ≡ get_or ps (i + 1) 0 = h.3 1 0 (search rules) in
    let m = raised _ _ _ c.from-count.ensures (not-less _ _) in
    let t = far_turn c.args.most ps i l.count c.from-count.result (omega arith) (rw (e, f) at m.0) in
    let r : windows_rest c.next.new.self ≡ drop (i + 1) ps = rw j at h.1 in
    (search rules, omega arith, h.1, omega arith, rw r (t ∙ rw l.invariant.2 at l.invariant.4))

pub returns : goal.returns
returns c =
    let l = c.loop-w in
    let z = far-short c.args.most (windows_rest l.w-iterator) (search rules) in
    (omega arith, omega arith)
