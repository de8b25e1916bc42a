-- The two cases of a rank search's answer. Assumes nothing.
use mathlib.Core.Path.{◌≡◌, refl}
use Rattle.format.specs.declared.Rank.{Rank}
use Rattle.format.specs.declared.RankAnswer.{RankAnswer}
use Rattle.format.specs.declared.RankAnswer.TheVariants as ra

-- what is no rank is "empty"
pub no_rank : (a : RankAnswer) → ((r : Rank) → a ≡ ra.Rank r → ⊥) → (n : Rank) × (a ≡ ra.Empty n)
no_rank (ra.Rank r) h = absurd (h r refl)
no_rank (ra.Empty n) h = (n, refl)
