use native.Mathlib.Omega.{arith}
use Rattle.parts.proofs.Seen.{headed}
use Rattle.checked.proofs.Body.{parts_wrong, words_wrong, both_are_right}
use Rattle.checked.proofs.check_body.Goals as goal
use Rattle.checked.proofs.check_body.Goals.{else-parts_right-via-then-parts_right+else-words_right, else-parts_right-via-else-parts_right}

pub parts_right-requires : goal.parts_right-requires
parts_right-requires c = (headed c.args.file.now c.args.v c.requires).counted

pub words_right-requires : goal.words_right-requires
words_right-requires c =
    let z = (headed c.args.file.now c.args.v c.requires).long in
    omega arith

pub returns-then-words_right : goal.returns-then-words_right
returns-then-words_right c =
    let small = c.type_inv.file in
    both_are_right c.args.file.now c.args.v c.requires (λ i. omega (arith, small i)) _ _
    c.parts_right.ensures c.if-parts_right.true
    c.words_right.ensures c.if-words_right.true

pub returns : goal.returns
returns c =
    let small = c.type_inv.file in
    elim c.else-parts_right.branch [
      | else-parts_right-via-then-parts_right+else-words_right w ↦ words_wrong c.args.file.now c.args.v c.requires (λ i. omega (arith, small i)) _ w.words_right.ensures w.if-words_right.false
      | else-parts_right-via-else-parts_right w ↦ parts_wrong c.args.file.now c.args.v c.requires (λ i. omega (arith, small i)) _ c.parts_right.ensures w.if-parts_right.false
    ]
