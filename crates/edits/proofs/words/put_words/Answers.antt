use mathlib.Core.Path.{ap, ◌∙◌}
use native.Mathlib.Omega.{arith}
use lib.ListN.{length}
use Rattle.stores.proofs.Laws.{length-put}
use Rattle.edits.proofs.Copied.{front-there, rest_there, all-size, all-put}
use Rattle.edits.proofs.words.put_words.Goals as goal

pub copy-requires : goal.copy-requires
copy-requires c =
    let a = c.args in
    let p = c.requires in
    let f = front-there a.file.now a.v p.0 a.x p.1 a.word in
    let s = all-size a.file.now a.v p.0 a.x p.1 a.word in
    (omega arith, omega arith)

pub put_word-at-requires : goal.put_word-at-requires
put_word-at-requires c =
    let a = c.args in
    let p = c.requires in
    let s = all-size a.file.now a.v p.0 a.x p.1 a.word in
    let n = ap length c.copy.ensures ∙ length-put _ _ _ in
    rw c.and.ensures (omega arith)

pub overflow_add-from : goal.overflow_add-from
overflow_add-from c = let k = c.struct_known-1.given in omega arith

pub overflow_sub-file : goal.overflow_sub-file
overflow_sub-file c =
    let a = c.args in
    let p = c.requires in
    let r = rest_there a.file.now a.v p.0 a.x p.1 a.word in
    omega arith

pub copy-requires-2 : goal.copy-requires-2
copy-requires-2 c =
    let a = c.args in
    let p = c.requires in
    let r = rest_there a.file.now a.v p.0 a.x p.1 a.word in
    let s = all-size a.file.now a.v p.0 a.x p.1 a.word in
    let n = ap length c.copy.ensures ∙ length-put _ _ _ in
    let m = ap length c.put_word-at.ensures.1 ∙ length-put _ _ _ in
    let t = rw c.and.ensures at c.put_word-at.ensures.0 in
    (omega arith, omega arith)

pub returns : goal.returns
returns c =
    let a = c.args in
    let p = c.requires in
    c.copy-2.ensures
    ∙ rw (c.put_word-at.ensures.1, c.put_word-at.ensures.0, c.copy.ensures, c.and.ensures)
    (all-put a.file.now a.v p.0 a.x p.1 a.word a.dst.now a.place)
