use Prim.Native.Nat.{ℕ, ◌+◌}
use mathlib.Core.Path.{sym, ap, ◌∙◌}
use native.Mathlib.Nat.{add-zero}
use native.Mathlib.Omega.{arith}
use Rattle.edits.proofs.Copied.{word_size, none-size, put_one, put-none}
use Rattle.edits.proofs.words.put_word.Goals as goal

pub returns-in_default : goal.returns-in_default
returns-in_default c =
    let a = c.args in
    rw c.in_default.is (sym (add-zero a.at) ∙ ap (λ (n : ℕ). a.at + n) (sym none-size), sym (put-none a.dst.now a.at))

pub put_u32-requires : goal.put_u32-requires
put_u32-requires c =
    let n = word_size c.in-Some.word in
    let h = rw c.in-Some.is at c.requires in
    omega arith

pub returns : goal.returns
returns c =
    let a = c.args in
    let w = c.in-Some.word in
    rw c.in-Some.is (ap (λ (n : ℕ). a.at + n) (sym (word_size w)), c.put_u32.ensures ∙ sym (put_one a.dst.now a.at w))
