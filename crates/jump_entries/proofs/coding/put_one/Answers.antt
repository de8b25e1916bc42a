use Rattle.parts.proofs.Taking.{put_both}
use Rattle.jump_entries.proofs.Adds.{second-size, adds_jump, adds_none}
use Rattle.jump_entries.specs.Coding.{difference_at, jumps_coder}
use mathlib.Core.Path.{◌≡◌, refl, sym, ap, ap₂, ◌∙◌}
use lib.ListN.{length}
use Rattle.laws.proofs.Bytes.{length-bytes}
use mathlib.Core.List.{List}
use Rattle.stores.specs.Put.{put}
use Rattle.stores.proofs.Laws.{put_nil, length-put}
use Rattle.format.specs.Bytes.{bytes}
use Prim.Native.Nat.{ℕ}
use native.Mathlib.Omega.{arith}
use Rattle.jump_entries.proofs.coding.put_one.Goals.{Joined-d-eq0}
use Rattle.jump_entries.proofs.coding.put_one.Goals as goal
use Rattle.jump_entries.proofs.coding.put_one.Goals.{else-d-eq0, then-d-eq0}

-- after the jump, if there is one
first-put : (c : Joined-d-eq0)
    → let a = c.args in c.if-d-eq0.dst ≡ put a.dst.now a.e.first ((jumps_coder a.width).first a.e a.p)
first-put c =
    let a = c.args in
    elim c.if-d-eq0.branch [
      | then-d-eq0 w ↦ let t : difference_at a.width a.e a.p ≡ 0 = sym c.difference_at-d.ensures ∙ w.if-d-eq0.true in
          w.dst-is ∙ w.put_u32.ensures ∙ ap (put a.dst.now a.e.first) (sym (adds_jump a.width a.e a.p t))
      | else-d-eq0 w ↦ w.dst-is
          ∙ sym (put_nil a.dst.now a.e.first)
          ∙ ap (put a.dst.now a.e.first) (sym (adds_none a.width a.e a.p (λ z. w.if-d-eq0.false (c.difference_at-d.ensures ∙ z))))
    ]

pub put_u32-requires : goal.put_u32-requires
put_u32-requires c =
    let a = c.args in
    let t : difference_at a.width a.e a.p ≡ 0 = sym c.difference_at-d.ensures ∙ c.if-d-eq0.true in
    let n : length ((jumps_coder a.width).first a.e a.p) ≡ 4 = ap length (adds_jump a.width a.e a.p t) ∙ length-bytes 4 a.p in
    let r = c.requires.1.first in
    omega arith

pub put_entry-requires : goal.put_entry-requires
put_entry-requires c =
    let a = c.args in
    let n : length c.if-d-eq0.dst ≡ length a.dst.now
    = ap length (first-put (goal.at.put_entry-requires c).Joined-d-eq0) ∙ length-put a.dst.now a.e.first ((jumps_coder a.width).first a.e a.p) in
    let m : length ((jumps_coder a.width).second a.e a.p) ≡ a.width = second-size a.width a.e a.p in
    let r = c.requires.1.second in
    (omega arith, c.requires.2, c.requires.3)

pub returns : goal.returns
returns c =
    let a = c.args in
    let k = jumps_coder a.width in
    let x = difference_at a.width a.e a.p in
    let u : k.second a.e a.p ≡ bytes a.width x = unfold jumps_coder in refl in
    let j = first-put (goal.at.returns c).Joined-d-eq0 in
    let n = c.difference_at-d.ensures in (
      c.taken.ensures,
      c.put_entry.ensures
          ∙ ap₂ (λ (l : List ℕ) (x : ℕ). put l a.e.second (bytes a.width x)) j n
          ∙ put_both k a.dst.now a.e a.p (k.first a.e a.p) (bytes a.width x) refl u,
    )
