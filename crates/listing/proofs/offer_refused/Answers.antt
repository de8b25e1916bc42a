-- `offer_refused` meets its contract: what is offered is the front of its own buffer, where the line was put. Assumes nothing.
use mathlib.Core.Path.{sym}
use native.Mathlib.Omega.{arith}
use lib.Seq.{length-take-le}
use Rattle.format.specs.Lister.{refused_line}
use Rattle.text.proofs.Placing.{text_inside, text_front}
use Rattle.listing.proofs.Listed.{refused-most, same_text}
use Rattle.listing.proofs.offer_refused.Goals.{After-line-2-1}
use Rattle.listing.proofs.offer_refused.Goals as goal

-- `offer_refused` meets its contract: what is offered is the front of its own buffer, where the line was put. Assumes nothing.
pub put_refused-n-requires : goal.put_refused-n-requires
put_refused-n-requires c = omega (arith, refused-most c.args.number)

pub slice_bounds-line-end : goal.slice_bounds-line-end
slice_bounds-line-end c =
    let a = c.args in
    text_inside (refused_line a.number) _ _ _ (refused-most a.number) c.put_refused-n.ensures

pub returns : goal.returns
returns c =
    let a = c.args in
    same_text (refused_line a.number) _ a.out.now _ _
    (sym (text_front (refused_line a.number) _ _ _ (refused-most a.number) c.put_refused-n.ensures))
    c.offer.ensures

pub slice_bounds-offer-end : goal.slice_bounds-offer-end
slice_bounds-offer-end c = sym (length-take-le _ _ (slice_bounds-line-end (goal.at.slice_bounds-offer-end c).After-line-2-1))
