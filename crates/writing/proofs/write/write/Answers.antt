use mathlib.Core.Path.{◌≡◌, ◌∙◌}
use native.Mathlib.Omega.{arith}
use Rattle.laws.proofs.Refusals.{handed_on, handed_least}
use Rattle.format.specs.Accepted.{setting_of}
use Rattle.parts.specs.Holds.{ViewOf}
use Rattle.parts.proofs.Seen.{seen}
use Rattle.writing.proofs.Writing.{write-refused, write-beyond, write_recodes, write_done, view-setting}
use Rattle.writing.proofs.write.write.Goals.{In_ok-v, After-setting}
use Rattle.writing.proofs.write.write.Goals as goal

view : (c : In_ok-v) → ViewOf c.args.file.now c.in_ok-v.v
view c = rw c.in_ok-v.was at c.check.ensures.view

pub returns-in_err-v : goal.returns-in_err-v
returns-in_err-v c =
    let g = c.args in
    let h = handed_on _ _ c.in_err-v.was _ c.from_residual.ensures.1 in
    let l = handed_least _ _ c.in_err-v.was _ c.from_residual.ensures.1 in
    write-refused g.file.now g.p.0 g.word g.dst.now _ (h ∙ c.check.ensures.number) l

pub returns-then-v-p : goal.returns-then-v-p
returns-then-v-p c =
    let g = c.args in
    write-beyond g.file.now g.p.0 g.word g.dst.now _ (view (goal.at.returns-then-v-p c).In_ok-v) c.if-v-p.true

pub edit_of-x-requires : goal.edit_of-x-requires
edit_of-x-requires c = (view (goal.at.edit_of-x-requires c).In_ok-v, omega (arith, c.if-v-p.false))

own : (c : After-setting) → c.setting.result ≡ setting_of c.args.file.now
own c = let o : ViewOf c.args.file.now c.in_ok-v.v = rw c.in_ok-v.was at c.check.ensures.view in c.setting.ensures ∙ view-setting _ _ o.view

pub recoded-requires : goal.recoded-requires
recoded-requires c =
    let g = c.args in
    let o = view (goal.at.recoded-requires c).In_ok-v in (
      o,
      write_recodes g.file.now g.p.0 g.word g.dst.now _ o _ c.edit_of-x.ensures,
      rw (own (goal.at.recoded-requires c).After-setting) (seen _ _ o).header.right.setting,
    )

pub returns : goal.returns
returns c =
    let g = c.args in
    let o = view (goal.at.returns c).In_ok-v in
    write_done g.file.now g.p.0 g.word g.dst.now _ o _ c.edit_of-x.ensures _ _ (omega (arith, c.if-v-p.false))
    (rw (own (goal.at.returns c).After-setting) at c.recoded.ensures)
