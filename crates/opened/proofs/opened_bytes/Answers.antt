use mathlib.Core.Path.{refl}
use borrow.Author.Tests.{eq-eqb, ne_eqb}
use Rattle.opened.proofs.opened_bytes.Goals as goal

pub returns-then-v-eq0 : goal.returns-then-v-eq0
returns-then-v-eq0 c =
    let z = c.if-v-eq0.true in
    record { bytes = simp (eq-eqb _ _ z); own = λ h. absurd (h z) }

pub returns : goal.returns
returns c = record { bytes = simp (ne_eqb _ _ c.if-v-eq0.false); own = λ h. refl }
