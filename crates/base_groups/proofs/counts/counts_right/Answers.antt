use Rattle.std.proofs.Common.{◌∙◌, eq-eqb, ne_eqb}
use Rattle.format.specs.BaseOffset.{based_kind}
use Rattle.base_groups.proofs.Rule.{rounded}
use Rattle.base_groups.proofs.counts.counts_right.Goals as goal

pub returns-then-v-div_ceil : goal.returns-then-v-div_ceil
unfolding based_kind
returns-then-v-div_ceil c = rw (eq-eqb _ _ (c.if-v-div_ceil.true ∙ c.div_ceil.ensures ∙ rounded _ _ c.requires.1))

pub returns-else-v-div_ceil : goal.returns-else-v-div_ceil
unfolding based_kind
returns-else-v-div_ceil c = rw (← rounded c.args.v.words c.args.v.step c.requires.1, ← c.div_ceil.ensures, ne_eqb _ _ c.if-v-div_ceil.false)
