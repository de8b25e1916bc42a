use Rattle.std.proofs.Common.{refl}
use Rattle.pages_copy.specs.Page.{cursor_on, encoder_on}
use Rattle.pages_copy.proofs.run_on.Goals as goal

pub returns : goal.returns
unfolding cursor_on encoder_on
returns c = refl
