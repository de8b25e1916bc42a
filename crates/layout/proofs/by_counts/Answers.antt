use mathlib.Core.Path.{ap, ◌∙◌}
use Rattle.parts.specs.declared.Encoder.{Encoder}
use Rattle.kinds.specs.Coding.{coder}
use Rattle.kinds.proofs.Counts.{counted-small}
use Rattle.layout.proofs.by_counts.Goals as goal

pub sizes-requires : goal.sizes-requires
sizes-requires c =
    let a = c.args in
    let p = c.requires in
    let t = counted-small a.s.kind a.ranks a.runs p.1 p.2 in
    rw c.counted.ensures (p.0, t.0, t.1, t.2)

pub returns : goal.returns
returns c = c.sizes.ensures ∙ ap (λ (e : Encoder). (coder c.args.s).sizes e) c.counted.ensures
