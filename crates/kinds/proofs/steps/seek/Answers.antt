use mathlib.Core.Logic.{⊎_elim}
use Rattle.kinds.proofs.At.{view-climbs, view-sought}
use Rattle.kinds.proofs.Jumping.{walked_kind}
use Rattle.kinds.proofs.steps.seek.Goals as goal

pub seek-requires : goal.seek-requires
seek-requires c =
    ⊎_elim (λ e. view-climbs _ 4 e _ _ _ c.requires.1) (λ e. view-climbs _ 6 e _ _ _ c.requires.1) (walked_kind c.args.v.kind c.requires.0)

pub returns : goal.returns
returns c =
    ⊎_elim (λ e. view-sought _ 4 e _ _ _ _ _ c.seek.ensures) (λ e. view-sought _ 6 e _ _ _ _ _ c.seek.ensures) (walked_kind c.args.v.kind c.requires.0)
