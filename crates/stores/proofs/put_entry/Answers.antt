use mathlib.Core.Path.{◌≡◌, sym, ap, ◌∙◌}
use Rattle.stores.specs.Put.{put}
use Rattle.format.specs.Bytes.{bytes}
use native.Mathlib.Omega.{arith}
use Prim.Native.Nat.{ℕ}
use Rattle.stores.proofs.put_entry.Goals as goal

pub returns-then-width-eq1 : goal.returns-then-width-eq1
returns-then-width-eq1 c =
    let a = c.args in
    c.put_u8.ensures ∙ ap (λ (w : ℕ). put a.dst.now a.at (bytes w a.x)) (sym c.if-width-eq1.true)

pub returns-else-width-eq1 : goal.returns-else-width-eq1
returns-else-width-eq1 c =
    let a = c.args in
    let t : 2 ≡ a.width = omega arith in
    c.put_u16.ensures ∙ ap (λ (w : ℕ). put a.dst.now a.at (bytes w a.x)) t
