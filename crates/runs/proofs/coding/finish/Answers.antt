-- `runs::coding::finish` meets its contract. Assumes nothing.
use Rattle.std.proofs.Common.{◌≡◌, [], length, sym, ◌∙◌, arith}
use Rattle.stores.specs.Put.{put}
use Rattle.stores.proofs.Laws.{put_nil}
use Rattle.parts.specs.Encoder.{if_zero}
use Rattle.parts.proofs.Taking.{if_zero_lem, if_more}
use Rattle.run_pairs.specs.Coding.{run_pair, runs_coder}
use Rattle.run_pairs.proofs.Adds.{length_run}
use Rattle.runs.proofs.coding.finish.Goals as goal

-- `runs::coding::finish` meets its contract. Assumes nothing.
pub put_pair-requires : goal.put_pair-requires
unfolding runs_coder
put_pair-requires c =
    let e = c.args.e in
    let n : length (if_zero e.rank [] (run_pair e)) ≡ 8 = rw (if_more e.rank [] (run_pair e) c.if-e-ne0.true) (length_run e) in
    let r = c.requires.1 in
    omega arith

pub returns-then-e-ne0 : goal.returns-then-e-ne0
unfolding run_pair runs_coder
returns-then-e-ne0 c =
    let a = c.args in
    let e = a.e in
    rw (if_more e.rank [] (run_pair e) c.if-e-ne0.true)
    (c.put_pair.ensures ∙ sym (put_nil (put a.dst.now e.first (run_pair e)) e.second))

pub returns-else-e-ne0 : goal.returns-else-e-ne0
unfolding runs_coder
returns-else-e-ne0 c =
    let a = c.args in
    let e = a.e in
    rw (if_zero_lem e.rank [] (run_pair e) c.if-e-ne0.false, put_nil a.dst.now e.first, put_nil a.dst.now e.second)
