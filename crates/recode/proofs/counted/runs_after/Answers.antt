use native.Mathlib.Omega.{arith}
use Rattle.rewrite.proofs.Three.{ranks-there}
use Rattle.recode.proofs.RunEdits.{put_small, runs-found}
use Rattle.recode.proofs.counted.runs_after.Goals as goal

pub end_before-end-requires : goal.end_before-end-requires
end_before-end-requires c = (c.requires.0, let t = ranks-there c.args.file.now c.args.v c.requires.0 c.args.x c.requires.1 in omega arith)

pub runs_lost-lost-requires : goal.runs_lost-lost-requires
runs_lost-lost-requires c = (c.requires.0, c.requires.1)

pub runs_joined-won-requires : goal.runs_joined-won-requires
runs_joined-won-requires c = (c.requires.0, (ranks-there c.args.file.now c.args.v c.requires.0 c.args.x c.requires.1).1, λ p e. put_small c.args.file.now c.args.v c.requires.0 c.args.x c.requires.1 p e)

pub overflow_add-result : goal.overflow_add-result
overflow_add-result c =
    let g = c.args in
    let w = c.requires in
    let f = runs-found g.file.now g.v w.0 g.x w.1 w.2 _ _ _ _ c.run_count.ensures c.end_before-end.ensures c.runs_lost-lost.ensures.0 c.runs_joined-won.ensures.0 in
    let e = f.equation in
    let m = f.most in
    let t = f.total-most in
    let a = c.runs_lost-lost.ensures.1 in
    let b = c.runs_joined-won.ensures.1 in
    omega arith

pub overflow_sub-result : goal.overflow_sub-result
overflow_sub-result c =
    let g = c.args in
    let w = c.requires in
    let f = runs-found g.file.now g.v w.0 g.x w.1 w.2 _ _ _ _ c.run_count.ensures c.end_before-end.ensures c.runs_lost-lost.ensures.0 c.runs_joined-won.ensures.0 in
    let e = f.equation in
    let m = f.most in
    let t = f.total-most in
    let a = c.runs_lost-lost.ensures.1 in
    let b = c.runs_joined-won.ensures.1 in
    omega arith

pub returns : goal.returns
returns c =
    let g = c.args in
    let w = c.requires in
    let f = runs-found g.file.now g.v w.0 g.x w.1 w.2 _ _ _ _ c.run_count.ensures c.end_before-end.ensures c.runs_lost-lost.ensures.0 c.runs_joined-won.ensures.0 in
    let e = f.equation in
    let m = f.most in
    let t = f.total-most in
    let a = c.runs_lost-lost.ensures.1 in
    let b = c.runs_joined-won.ensures.1 in
    (omega arith, omega arith)
