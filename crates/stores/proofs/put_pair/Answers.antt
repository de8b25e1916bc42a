use Rattle.stores.proofs.Laws.{put-pair}
use mathlib.Core.Path.{ap, ◌∙◌}
use mathlib.Core.List.{List}
use Rattle.stores.specs.Put.{put}
use Rattle.format.specs.Bytes.{bytes}
use Prim.Native.Nat.{ℕ, ◌+◌}
use Rattle.stores.proofs.put_pair.Goals as goal

pub returns : goal.returns
returns c =
    let a = c.args in
    c.put_u32-2.ensures
    ∙ ap (λ (l : List ℕ). put l (a.at + 4) (bytes 4 a.v)) c.put_u32.ensures
    ∙ put-pair a.dst.now a.at a.a a.v
