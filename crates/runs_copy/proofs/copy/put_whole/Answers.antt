use Rattle.std.proofs.Common.{◌≡◌, ◌+◌, ◌-◌, ◌*◌, ◌^◌, ◌%◌, ap, ◌∙◌, arith}
use Rattle.wire.specs.declared.Pair.{Pair}
use Rattle.rises.specs.Copied.{copied}
use Rattle.parts.proofs.Carried.{Written, written_end}
use Rattle.run_search.specs.Before.{last_at, empty_at, ranks_before}
use Rattle.run_walk.specs.Steps.{next}
use Rattle.run_pairs.specs.Coding.{runs_coder}
use Rattle.runs_copy.specs.Copy.{at_run, ran_on}
use Rattle.runs_copy.proofs.FromRun.{Ahead, ahead, ran, stepped, ran-room}
use Rattle.runs_copy.proofs.copy.put_whole.Goals.{After-get_pair-last, Start}
use Rattle.runs_copy.proofs.copy.put_whole.Goals as goal

numbers : (c : Start) → let a = c.args in Ahead a.file.now a.v a.c a.j (a.c.next - 2) (a.j - 1 - (a.c.next - 2))
numbers c = let a = c.args in ahead a.file.now a.v _ c.requires.0 a.c a.e c.requires.1 a.j c.requires.2 c.requires.3

-- all of them gone
all-gone : (c : Start)
    → let a = c.args in
    Written (next a.file.now a.v) runs_coder a.dst.now a.c a.e (ranks_before a.file.now a.v.start a.j - a.c.rank)
    (copied a.file.now (a.v.start + 8 * (a.c.next - 2)) 0 ((a.c.rank + (2 ^ 32 - a.e.rank)) % 2 ^ 32) a.e.first (a.j - 1 - (a.c.next - 2)) a.dst.now)
    (at_run a.file.now a.v a.c a.j)
    (ran_on a.e (last_at a.file.now a.v.start (a.j - 1)) (ranks_before a.file.now a.v.start a.j - a.c.rank) (a.j - 1 - (a.c.next - 2))) 0
all-gone c =
    let a = c.args in
    ran a.file.now a.v _ c.requires.0 a.c a.e c.requires.1 a.j c.requires.2 c.requires.3 a.dst.now _
    (omega arith) (omega arith) c.requires.4 c.requires.5

-- the pair of the last run
read : (c : After-get_pair-last)
    → let a = c.args in
    (c.get_pair-last.result.first ≡ last_at a.file.now a.v.start (a.j - 1)) × (c.get_pair-last.result.second ≡ empty_at a.file.now a.v.start (a.j - 1))
read c =
    let a = c.args in
    let k = ahead a.file.now a.v _ c.requires.0 a.c a.e c.requires.1 a.j c.requires.2 c.requires.3 in
    let q = c.get_pair-last.ensures.0 ∙ k.pair in
    (ap (λ (x : Pair). x.first) q, ap (λ (x : Pair). x.second) q)

pub overflow_sub-open : goal.overflow_sub-open
overflow_sub-open c =
    let k = numbers (goal.at.overflow_sub-open c).Start in
    let t = k.two in
    let s = k.sum in
    let l = k.long in
    omega arith

pub overflow_sub-n : goal.overflow_sub-n
overflow_sub-n c =
    let k = numbers (goal.at.overflow_sub-n c).Start in
    let t = k.two in
    let s = k.sum in
    let l = k.long in
    omega arith

pub overflow_sub-n-2 : goal.overflow_sub-n-2
overflow_sub-n-2 c =
    let k = numbers (goal.at.overflow_sub-n-2 c).Start in
    let t = k.two in
    let s = k.sum in
    let l = k.long in
    omega arith

pub overflow_add-start : goal.overflow_add-start
overflow_add-start c =
    let k = numbers (goal.at.overflow_add-start c).Start in
    let t = k.two in
    let s = k.sum in
    let l = k.long in
    omega arith

pub copy_pairs-requires : goal.copy_pairs-requires
copy_pairs-requires c =
    let k = numbers (goal.at.copy_pairs-requires c).Start in
    let t = k.two in
    let s = k.sum in
    let l = k.long in
    let r = (ran-room _ _ _ _ _ _ _ _ _ _ _ _ (all-gone (goal.at.copy_pairs-requires c).Start)).0 in
    (omega arith, r)

pub overflow_sub-j : goal.overflow_sub-j
overflow_sub-j c =
    let k = numbers (goal.at.overflow_sub-j c).Start in
    let t = k.two in
    let s = k.sum in
    let l = k.long in
    omega arith

pub overflow_add-start-2 : goal.overflow_add-start-2
overflow_add-start-2 c =
    let k = numbers (goal.at.overflow_add-start-2 c).Start in
    let t = k.two in
    let s = k.sum in
    let l = k.long in
    omega arith

pub get_pair-last-requires : goal.get_pair-last-requires
get_pair-last-requires c =
    let k = numbers (goal.at.get_pair-last-requires c).Start in
    let t = k.two in
    let s = k.sum in
    let l = k.long in
    omega arith

pub overflow_add-ranks : goal.overflow_add-ranks
overflow_add-ranks c =
    let k = numbers (goal.at.overflow_add-ranks c).Start in
    let x = read (goal.at.overflow_add-ranks c).After-get_pair-last in
    let a = x.0 in
    let b = x.1 in
    let m = k.some in
    let z = k.below in
    let r = k.after in
    let q = k.ranks in
    omega arith

pub overflow_sub-ranks : goal.overflow_sub-ranks
overflow_sub-ranks c =
    let k = numbers (goal.at.overflow_sub-ranks c).Start in
    let x = read (goal.at.overflow_sub-ranks c).After-get_pair-last in
    let a = x.0 in
    let b = x.1 in
    let m = k.some in
    let z = k.below in
    let r = k.after in
    let q = k.ranks in
    omega arith

pub overflow_sub-ranks-2 : goal.overflow_sub-ranks-2
overflow_sub-ranks-2 c =
    let k = numbers (goal.at.overflow_sub-ranks-2 c).Start in
    let x = read (goal.at.overflow_sub-ranks-2 c).After-get_pair-last in
    let a = x.0 in
    let b = x.1 in
    let m = k.some in
    let z = k.below in
    let r = k.after in
    let q = k.ranks in
    omega arith

pub enter_run-c-requires : goal.enter_run-c-requires
enter_run-c-requires c =
    let k = numbers (goal.at.enter_run-c-requires c).Start in
    let x = read (goal.at.enter_run-c-requires c).After-get_pair-last in
    let a = x.0 in
    let b = x.1 in
    let m = k.some in
    let z = k.below in
    let r = k.after in
    let q = k.ranks in
    omega arith

pub run_on-e-requires : goal.run_on-e-requires
run_on-e-requires c =
    let k = numbers (goal.at.run_on-e-requires c).Start in
    let x = read (goal.at.run_on-e-requires c).After-get_pair-last in
    let a = x.0 in
    let b = x.1 in
    let r = k.after in
    let m = ran-room _ _ _ _ _ _ _ _ _ _ _ _ (all-gone (goal.at.run_on-e-requires c).Start) in
    let g = m.1 in
    let f = m.2 in
    (omega arith, omega arith)

pub returns : goal.returns
returns c =
    let a = c.args in
    let k = numbers (goal.at.returns c).Start in
    let x = read (goal.at.returns c).After-get_pair-last in
    let r = k.after in
    let b = x.0 in
    let y = x.1 in
    let q = c.get_pair-last.ensures.0 ∙ k.pair in
    let n : c.get_pair-last.result.first + 1 - c.get_pair-last.result.second - a.c.rank ≡ ranks_before a.file.now a.v.start a.j - a.c.rank = omega arith in
    let t = c.enter_run-c.ensures ∙ stepped a.file.now a.v _ c.requires.0 a.c a.e c.requires.1 a.j c.requires.2 c.requires.3 _ q in
    (t, rw (t, c.run_on-e.ensures, n, b, c.copy_pairs.ensures) (written_end _ _ _ _ _ _ _ _ _ 0 (omega arith) (all-gone (goal.at.returns c).Start)))
