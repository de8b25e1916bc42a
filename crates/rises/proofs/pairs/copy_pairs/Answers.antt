use Rattle.std.proofs.Common.{sym, refl, arith, rules}
use Rattle.rises.proofs.Copied.{copied_on, copied_none}
use Rattle.rises.proofs.pairs.copy_pairs.Goals as goal

pub loop-i-init : goal.loop-i-init
loop-i-init c = let a = c.args in (omega arith, refl, sym (copied_none a.file.now a.from a.first a.second a.at a.dst.now))

pub loop-i-preserved : goal.loop-i-preserved
loop-i-preserved c =
    let a = c.args in
    let l = c.loop-i in
    let x = c.get_pair-run in (
      search rules,
      search rules,
      copied_on a.file.now a.from a.first a.second a.at a.dst.now l.i l.dst _ x.result _ _ l.invariant.2 x.ensures.0
          refl refl c.put_pair.ensures,
    )
