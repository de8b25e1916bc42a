-- `list` meets its contract. Assumes nothing.
use mathlib.Core.Path.{refl, sym, ◌∙◌}
use Rattle.std.proofs.lemmas.Result.{IfOk-at_ok}
use Rattle.laws.proofs.Refusals.{refused_at, accepted_at}
use Rattle.parts.specs.Holds.{ViewOf}
use Rattle.listing.proofs.Listed.{text_long, text_refused, text_file, same_text}
use Rattle.listing.proofs.list.Goals as goal

pub returns-then-input-gt65536 : goal.returns-then-input-gt65536
returns-then-input-gt65536 c =
    let a = c.args in
    let t = text_long a.input.now c.if-input-gt65536.true in
    same_text _ _ a.out.now _ _ t c.offer.ensures

pub offer_file-requires : goal.offer_file-requires
offer_file-requires c = (IfOk-at_ok (ViewOf c.args.input.now) c.in-Ok.is c.check.ensures.view, c.if-input-gt65536.false)

pub returns-in-Ok : goal.returns-in-Ok
returns-in-Ok c =
    let a = c.args in
    let z = accepted_at _ _ c.check.ensures.number _ c.in-Ok.is in
    same_text _ _ a.out.now _ _ (text_file a.input.now c.if-input-gt65536.false 0 (record { number = sym z }) refl) c.offer_file.ensures

pub returns-in-Err : goal.returns-in-Err
returns-in-Err c =
    let a = c.args in
    let r = refused_at _ _ c.check.ensures.number _ c.in-Err.is in
    let n = c.from.ensures ∙ r.0 in
    let t = text_refused a.input.now c.if-input-gt65536.false _ (record { number = n }) (λ z. r.1 (sym n ∙ z)) in
    same_text _ _ a.out.now _ _ t c.offer_refused.ensures
